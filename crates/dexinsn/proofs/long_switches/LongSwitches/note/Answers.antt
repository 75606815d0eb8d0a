use Rattle.dexinsn.proofs.Common.{◌≡◌, ℕ, zero, suc, ◌+◌, length, refl, ap, arith, Some, sym, subst, ◌∙◌, inl, inr, ne_eqb, nat_eq, Vec, Global, List, ℤ, cases_eq, ints_in, payload_targets, AreGrouped, TargetGroup}
use Rattle.std.proofs.lemmas.List.Sorted.{length_permutation}
use Rattle.std.specs.HashMap.{get}
use Rattle.dexinsn.proofs.IndexRoom.{size_is, piece_within}
use Rattle.dexinsn.proofs.TargetGroups.{sorted_grouped}
use Rattle.dexinsn.proofs.long_switches.LongSwitches.note.Goals as goal

one_value : (a b : Vec TargetGroup Global) → Some a ≡ Some b → b ≡ a
one_value a b e = cc

pub at-requires : goal.at-requires
at-requires c = let size = size_is _ c.requires.piece in piece_within c.args.units.now c.args.unit size.0 size.1

-- there are as many targets as are read
as_many : (us : List ℕ) (first count : ℕ) → length (ints_in us first count) ≡ count
as_many us first zero = refl
as_many us first (suc count) = ap suc (as_many us (first + 2) count)

pub group_targets-requires : goal.group_targets-requires
group_targets-requires c =
    let t = c.in-Some-targets_at.targets in
    omega (arith, ap (λ (zs : List ℤ). length zs) c.deref.ensures.value, length_permutation (ints_in c.args.units.now t.first t.count) c.in_ok-sorted.sorted.items c.in_ok-sorted.ensures, as_many c.args.units.now t.first t.count, c.if-targets-le-FEW_TARGETS.false)

pub returns : goal.returns
returns c = λ k groups e.
    let t = c.in-Some-targets_at.targets in
    let grouped : AreGrouped (ints_in c.args.units.now t.first t.count) c.in_ok-grouped.grouped.items =
    sorted_grouped (ints_in c.args.units.now t.first t.count) c.in_ok-sorted.sorted.items c.in_ok-grouped.grouped.items c.in_ok-sorted.ensures
    (subst (λ (ts : List ℤ). AreGrouped ts c.in_ok-grouped.grouped.items) c.deref.ensures.value c.in_ok-grouped.ensures) in
    let here : AreGrouped (payload_targets c.args.units.now c.args.unit) c.in_ok-grouped.grouped.items = subst (λ (ts : List ℤ). AreGrouped ts c.in_ok-grouped.grouped.items) (sym c.in-Some-targets_at.ensures.is) grouped in
    elim (cases_eq c.args.unit k) [
      | inl same ↦
          let value : Some groups ≡ Some c.in_ok-grouped.grouped = sym (subst (λ (n : ℕ). get nat_eq c.insert.new.self n ≡ Some groups) (sym same) e) ∙ c.in_ok-insert.ensures.updates.1 in
          subst (λ (n : ℕ). AreGrouped (payload_targets c.args.units.now n) groups.items) same
          (subst (λ (v : Vec TargetGroup Global). AreGrouped (payload_targets c.args.units.now c.args.unit) v.items) (one_value groups c.in_ok-grouped.grouped value) here)
      | inr apart ↦ c.requires.groups k groups (sym (c.in_ok-insert.ensures.updates.2 k (ne_eqb c.args.unit k apart)) ∙ e)
    ]
