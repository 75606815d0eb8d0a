use Rattle.dexinsn.proofs.Common.{◌+◌, ◌-◌, ◌*◌, sym, ap, subst, ◌++◌, ◌∷◌, [], List, ℤ, ◌≡◌, to_z, of_z, w32, rules, arith, SFits, to_z-of_z, ints_in}
use Rattle.dexinsn.proofs.TargetGroups.{one_read}
use Rattle.dexinsn.proofs.long_switches.Targets.sorted.Goals as goal

pub loop-i-preserved : goal.loop-i-preserved
loop-i-preserved c =
    let t = c.args.self in
    let fits : SFits w32 c.int_at.result = search rules in
    let number : c.loop-i.sorted.items ++ to_z w32 (of_z w32 c.int_at.result) ∷ [] ≡ c.loop-i.sorted.items ++ c.int_at.result ∷ [] = ap (λ (z : ℤ). c.loop-i.sorted.items ++ z ∷ []) (to_z-of_z w32 c.int_at.result fits) in
    let pushed : c.push.new.self.items ≡ c.loop-i.sorted.items ++ c.int_at.result ∷ [] = subst (λ (read : List ℤ). c.push.new.self.items ≡ read) number c.in_ok-push.ensures.items in
    subst (λ (read : List ℤ). ints_in c.args.units.now t.first t.count ≡ read ++ ints_in c.args.units.now (t.first + 2 * (c.loop-i.i + 1)) (t.count - (c.loop-i.i + 1))) (sym pushed)
    (one_read c.args.units.now (ints_in c.args.units.now t.first t.count) c.loop-i.sorted.items c.int_at.result (t.first + 2 * c.loop-i.i) (t.first + 2 * (c.loop-i.i + 1)) (t.count - c.loop-i.i) (t.count - (c.loop-i.i + 1)) (omega arith) (omega arith) (sym c.int_at.ensures) c.loop-i.invariant)
