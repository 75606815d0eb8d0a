use Rattle.dexmembers.proofs.Common.{◌≡◌, ap, sym, subst, ◌∙◌, ◌-◌, ◌^◌, min, ℕ, set_of, set_weight_is, numbered_set_weight}
use Rattle.dexmembers.specs.{IsBorrowedSet}
use Rattle.dexmembers.proofs.Weighed.{no_symbols}
use Rattle.dexmembers.proofs.weighing.optional_weight.Goals as goal

pub returns-in-Some : goal.returns-in-Some
returns-in-Some c = λ is borrowed.
    let same : set_of c.in-Some.set.now ≡ is = subst (λ s. IsBorrowedSet s is) c.in-Some.is borrowed in c.weight.ensures no_symbols ∙ ap (λ (n : ℕ). min (2 ^ 64 - 1) n) (sym (set_weight_is no_symbols (set_of c.in-Some.set.now)) ∙ ap numbered_set_weight same)
