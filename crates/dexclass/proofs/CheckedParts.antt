-- Parts of a file that were checked.
use Rattle.dexclass.proofs.Common.{◌≡◌, ℕ, ◌+◌, ◌*◌, ◌≤◌, List, subst, arith, inl, inr, below_more, ushort_at}
use Rattle.std.specs.Prelude.{min, max}
use Rattle.std.proofs.lemmas.Bool.{cases_lt}
use Rattle.dexclass.specs.internal.Rows.{IsInterfaceIndex}
use Rattle.dexclass.specs.internal.Checked.{AreInterfacesIn}
use Rattle.dexclass.proofs.Indices.{interface_later}

module _ (b : List ℕ) (r : ℕ) where
  -- one number more
  pub number_more : (start k n : ℕ) → AreInterfacesIn b r start k → n ≡ ushort_at b (2 * k) → IsInterfaceIndex b r n → AreInterfacesIn b r start (k + 1)
  number_more start k n before e is i le lt = below_more (λ j. start ≤ j → IsInterfaceIndex b r (ushort_at b (2 * j))) k (λ j less from. before j from less) (λ from. subst (IsInterfaceIndex b r) e is) i lt le

  -- two parts in a row
  pub parts_join : (start middle end : ℕ) → AreInterfacesIn b r start middle → AreInterfacesIn b r middle end → AreInterfacesIn b r start end
  parts_join start middle end left right i le lt = elim (cases_lt i middle) [
    | inl less ↦ left i le less
    | inr from ↦ right i from lt
  ]

  -- two parts that touch
  pub parts_touch : (s e t u from to : ℕ) → s ≤ u → t ≤ e → from ≡ min s t → to ≡ max e u → AreInterfacesIn b r s e → AreInterfacesIn b r t u → AreInterfacesIn b r from to
  parts_touch s e t u from to left right is_from is_to one other i le lt = elim (cases_lt i s) [
    | inl below ↦ other i (omega (arith, is_from, le, below)) (omega (arith, below, left))
    | inr above ↦ elim (cases_lt i e) [
      | inl within ↦ one i above within
      | inr after ↦ other i (omega (arith, right, after)) (omega (arith, is_to, lt, after))
    ]
  ]

  -- for the next row too
  pub part_later : (start end : ℕ) → AreInterfacesIn b r start end → AreInterfacesIn b (r + 1) start end
  part_later start end h i le lt = interface_later b r (ushort_at b (2 * i)) (h i le lt)
