-- Which condition fails first.
use Rattle.dexids.proofs.Common.{◌≡◌, ℕ, ◌+◌, ◌-◌, ◌<◌, List, [], ◌∷◌, get_or, refl, sym, ap, ◌∙◌, subst, arith, inl, inr, rules, cases_lt, Condition, number, rows_checked, Holds, HoldsThroughout, HoldBelow, IsPoolRefusal, IsOfPools}

-- the conditions in the order of their numbers
abbrev conditions : List Condition
conditions =
    Condition.Size ∷ Condition.Magic ∷ Condition.Version ∷ Condition.Lengths ∷ Condition.Endian ∷ Condition.Link ∷ Condition.Checksum ∷ Condition.Signature ∷ Condition.Layout ∷ Condition.Map
    ∷ Condition.Strings ∷ Condition.Types ∷ Condition.Protos ∷ Condition.Fields ∷ Condition.Methods ∷ Condition.Classes ∷ Condition.Members ∷ Condition.Code ∷ Condition.Tries ∷ Condition.Debug
    ∷ Condition.Values ∷ Condition.Annotations ∷ Condition.Weight ∷ []

at_number : (c : Condition) → get_or conditions (number c - 1) Condition.Size ≡ c
at_number c = search rules

-- the conditions below a number and the one of this number
pub hold_next : (b : List ℕ) (c : Condition) → HoldBelow (number c) b → HoldsThroughout c b → HoldBelow (number c + 1) b
hold_next b c before holds d lt = elim (cases_lt (number d) (number c)) [
  | inl less ↦ before d less
  | inr more ↦ let same : number c ≡ number d = omega arith in
      subst (λ x. HoldsThroughout x b) (sym (at_number c) ∙ ap (λ n. get_or conditions (n - 1) Condition.Size) same ∙ at_number d) holds
]

-- the first row at which a condition of the pools fails
pub refused : (b : List ℕ) (c : Condition) (r : ℕ) → IsOfPools c b r → HoldBelow (number c) b → r < rows_checked c b
    → ((k : ℕ) → k < r → Holds c b k) → (Holds c b r → ⊥) → IsPoolRefusal b (record { number = number c; place = r })
refused b c r of before row rows fails = record {
  refused = (c, r, refl, of.reported, inl (omega (arith, of.most), record { before = before; row = row; rows = rows; fails = fails }));
  least = of.least;
  most = of.most;
}
