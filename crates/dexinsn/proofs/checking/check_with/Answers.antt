use Rattle.dexinsn.proofs.Common.{◌≡◌, ℕ, List, Bool, true, false, Option, Some, None, refl, sym, subst, arith, AreNoted, AreAllRight, Mentions}
use Rattle.std.specs.Bool.{then_some}
use Rattle.dexinsn.specs.internal.Checking.{IsFoundWith}
use Rattle.dexinsn.proofs.NotedTargets.{are_noted, bad_target, checked, code_starts}
use Rattle.dexinsn.proofs.checking.check_with.Goals as goal

pub find-requires-clause-noted : goal.find-requires-clause-noted
find-requires-clause-noted c = subst (AreNoted c.args.units.now) (sym c.deref.ensures.value) (are_noted c.args.units.now c.args.pools.now c.pass.new.starts.items c.pass.new.noted.items c.in-Some.indices c.in-Some.ensures.some)

pub all_targets_right-requires-clause-noted : goal.all_targets_right-requires-clause-noted
all_targets_right-requires-clause-noted c = subst (AreNoted c.args.units.now) (sym c.deref-3.ensures.value) (are_noted c.args.units.now c.args.pools.now c.pass.new.starts.items c.pass.new.noted.items c.in-Some.indices c.in-Some.ensures.some)

-- what is found, by a test
found_if : (us : List ℕ) (m : Mentions) (starts : List ℕ) (indices : ℕ) (found : Option ℕ) (b : Bool) → found ≡ then_some b indices → (b ≡ true → IsFoundWith us m starts (Some indices)) → (b ≡ false → IsFoundWith us m starts None) → IsFoundWith us m starts found
found_if us m starts indices found true is right wrong = subst (IsFoundWith us m starts) (sym is) (right refl)
found_if us m starts indices found false is right wrong = subst (IsFoundWith us m starts) (sym is) (wrong refl)

pub returns : goal.returns
returns c =
    let us = c.args.units.now in
    let passed = c.in-Some.ensures.some in
    let right : AreAllRight us c.pass.new.starts.items c.pass.new.noted.items c.all_targets_right.result = rw (c.deref-2.ensures.value, c.deref-3.ensures.value) at c.all_targets_right.ensures in
    found_if us c.args.pools.now c.pass.new.starts.items c.in-Some.indices c.then_some.result c.all_targets_right.result c.then_some.ensures
    (λ yes. (checked us c.args.pools.now c.pass.new.starts.items c.pass.new.noted.items c.in-Some.indices (omega arith) passed (subst (AreAllRight us c.pass.new.starts.items c.pass.new.noted.items) yes right), code_starts us c.args.pools.now c.pass.new.starts.items c.pass.new.noted.items c.in-Some.indices passed))
    (λ wrong. bad_target us c.args.pools.now c.pass.new.starts.items c.pass.new.noted.items c.in-Some.indices passed (subst (AreAllRight us c.pass.new.starts.items c.pass.new.noted.items) wrong right))
