-- The least name of different classes, class by class.
use Rattle.dexmerge.proofs.Common.{◌≡◌, ℕ, ◌+◌, ◌<◌, min, List, length, get_or, refl, sym, ap, ◌∙◌, subst, arith, inl, inr, Option, Some, None, MatchOption, cases_lt, NumberedClass, name_number, ArePlaces, places_all, same_Some, below_more}
use Rattle.dexinsn.proofs.IndexRoom.{size_is}
use Rattle.dexmerge.specs.{class_at, IsEqualCopy, IsConflicting, IsFirstConflict, lesser_of}

-- this name has different classes, and no lesser name has any among the first n classes
pub record IsConflictingWith (cs : List NumberedClass) (places : List (Option ℕ)) (n name : ℕ) : Type 0 where
  pub is : IsConflicting cs places name
  pub least : (i : ℕ) → i < n → name_number cs i < name → IsEqualCopy cs places i

-- the same, or each of the first n classes is equal to the one that is kept of its name
abbrev pub IsLeastTo : List NumberedClass → List (Option ℕ) → ℕ → Option ℕ → Type 0
IsLeastTo cs places n None = (i : ℕ) → i < n → IsEqualCopy cs places i
IsLeastTo cs places n (Some name) = IsConflictingWith cs places n name

module _ (cs : List NumberedClass) (places : List (Option ℕ)) where
  -- one more class that is equal to the kept one
  pub equivalent_next : (n : ℕ) (least : Option ℕ) → IsLeastTo cs places n least → IsEqualCopy cs places n → IsLeastTo cs places (n + 1) least
  equivalent_next n None h equivalent = below_more (IsEqualCopy cs places) n h equivalent
  equivalent_next n (Some name) h equivalent = record { is = h.is; least = below_more (λ i. name_number cs i < name → IsEqualCopy cs places i) n h.least (λ less. equivalent) }

  -- one more class that is different from the kept one
  conflict_is : (n : ℕ) → n < length cs → ArePlaces cs places → (IsEqualCopy cs places n → ⊥) → IsConflicting cs places (name_number cs n)
  conflict_is n lt h unequal =
      let kept = size_is (get_or places (name_number cs n) None) (places_all cs places h n lt) in
      record {
        place = n;
        kept = kept.0;
        within = lt;
        name_is = refl;
        kept_is = kept.1;
        unequal = λ e. unequal (λ k is. subst (λ (j : ℕ). class_at cs n ≡ class_at cs j) (same_Some kept.0 k (sym kept.1 ∙ is)) e);
      }

  -- a class of a lesser name is not the last one
  before_last : (n i name : ℕ) → i < n + 1 → name_number cs i < name → name ≡ name_number cs n → i < n
  before_last n i name lt less is = elim (cases_lt i n) [
    | inl few ↦ few
    | inr le ↦ let same : n ≡ i = omega (arith, lt, le) in absurd (let e : name_number cs n ≡ name_number cs i = ap (name_number cs) same in omega (arith, e, less, is))
  ]

  pub conflict_next : (n : ℕ) (least : Option ℕ) → n < length cs → ArePlaces cs places → IsLeastTo cs places n least → (IsEqualCopy cs places n → ⊥) → IsLeastTo cs places (n + 1) (lesser_of least (name_number cs n))
  conflict_next n None lt h before unequal = record {
    is = conflict_is n lt h unequal;
    least = λ i few less. before i (before_last n i (name_number cs n) few less refl);
  }
  conflict_next n (Some name) lt h before unequal = elim (cases_lt (name_number cs n) name) [
    | inl less ↦
        let e : name_number cs n ≡ min name (name_number cs n) = omega (arith, less) in
        subst (IsConflictingWith cs places (n + 1)) e (record {
          is = conflict_is n lt h unequal;
          least = λ i few under. before.least i (before_last n i (name_number cs n) few under refl) (omega (arith, under, less));
        })
    | inr le ↦
        let e : name ≡ min name (name_number cs n) = omega (arith, le) in
        subst (IsConflictingWith cs places (n + 1)) e (record {
          is = before.is;
          least = λ i few under. elim (cases_lt i n) [
            | inl first ↦ before.least i first under
            | inr last ↦ let same : n ≡ i = omega (arith, few, last) in absurd (let s : name_number cs n ≡ name_number cs i = ap (name_number cs) same in omega (arith, s, le, under))
          ];
        })
  ]

  -- all of them
  pub least_is : (n : ℕ) (least : Option ℕ) → length cs ≡ n → IsLeastTo cs places n least → MatchOption least ((i : ℕ) → i < n → IsEqualCopy cs places i) (IsFirstConflict cs places)
  least_is n None e h = h
  least_is n (Some name) e h = record { is = h.is; least = λ i lt less. h.least i (omega (arith, lt, e)) less }
