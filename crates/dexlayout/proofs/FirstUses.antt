-- Items that uses share, by the offsets of the uses: a use is the first of its item if its offset is not before the end of
-- the items of the uses before it.
use Rattle.dexlayout.proofs.Common.{◌≡◌, ◌⊎◌, ℕ, zero, suc, Bool, true, false, if◌then◌else◌, inl, inr, List, [], ◌∷◌, ◌++◌, ◌+◌, ◌<◌, ◌≤◌, length, map, refl, sym, ap, ◌∙◌, arith, append_assoc, append-nil, map-append, length-map, length-append, Option, None, Some, All, All-head, All-tail, list_any, position_or_len, list_any-source, option_map, option_map_or, slice_index, present, present-append, distinct, IsEquality, padding, round_up, offsets_from, end_from, end_from_le, bytes_from}
use Rattle.dexspec.proofs.lists.Distinct.{with_last, distinct_more, distinct_prefix}
use Rattle.dexspec.proofs.lists.Equality.{turned}
use Rattle.dexspec.proofs.lists.FirstPlaces.{position_within, position_stays, position_last, any_equal}

-- ---- items from an offset on

module _ (align : ℕ) where
  -- one more: where it ends, and the bytes
  pub end_more : (from : ℕ) (xs : List (List ℕ)) (x : List ℕ) → end_from align from (xs ++ x ∷ []) ≡ round_up align (end_from align from xs) + length x
  end_more from [] x = refl
  end_more from (y ∷ ys) x = end_more (round_up align from + length y) ys x

  pub bytes_more : (from : ℕ) (xs : List (List ℕ)) (x : List ℕ) → bytes_from align from (xs ++ x ∷ []) ≡ bytes_from align from xs ++ (padding align (end_from align from xs) ++ x)
  bytes_more from [] x = ap (λ bs. padding align from ++ bs) (append-nil x)
  bytes_more from (y ∷ ys) x =
      let o = round_up align from + length y in
      let more = padding align (end_from align o ys) ++ x in
      ap (λ bs. padding align from ++ (y ++ bs)) (bytes_more o ys x) ∙ ap (λ bs. padding align from ++ bs) (sym (append_assoc y (bytes_from align o ys) more))
      ∙ sym (append_assoc (padding align from) (y ++ bytes_from align o ys) more)

  -- the offset of one of them, and of the next
  offset_before : (from : ℕ) (xs ys : List (List ℕ)) (k : ℕ) → All (λ x. 0 < length x) xs → k < length xs → slice_index (offsets_from align from (xs ++ ys)) k < end_from align from xs
  offset_before from [] ys k some lt = absurd (omega (arith, lt))
  offset_before from (x ∷ xs) ys zero some lt = omega (arith, end_from_le align (round_up align from + length x) xs, All-head (λ (y : List ℕ). 0 < length y) x xs some)
  offset_before from (x ∷ xs) ys (suc k) some lt = offset_before (round_up align from + length x) xs ys k (All-tail (λ (y : List ℕ). 0 < length y) x xs some) (omega (arith, lt))

  offset_next : (from : ℕ) (xs : List (List ℕ)) (x : List ℕ) (ys : List (List ℕ)) → slice_index (offsets_from align from (xs ++ x ∷ ys)) (length xs) ≡ round_up align (end_from align from xs)
  offset_next from [] x ys = refl
  offset_next from (y ∷ xs) x ys = offset_next (round_up align from + length y) xs x ys

-- ---- uses, one by one

module _ {X : Type 0} (same : X → X → Bool) (exact : IsEquality same) (f : X → List ℕ) (some : (x : X) → 0 < length (f x)) (start : ℕ) (pos : 0 < start) where
  -- the items of uses
  abbrev pub items_of : List (Option X) → List (List ℕ)
  items_of us = map f (distinct same (present us))

  -- the offset of a use among items
  abbrev pub offset_in : List X → Option X → ℕ
  offset_in all u = option_map_or (slice_index (offsets_from 4 start (map f all))) (option_map (λ x. position_or_len (λ y. same y x) all) u) 0

  -- a use after others: its item is before the end of theirs, and they have it, or it is not, and it is one more
  abbrev pub IsFirstOrNot : List (Option X) → Option X → ℕ → Type 0
  IsFirstOrNot us u off =
      ((off < end_from 4 start (items_of us)) × (items_of (us ++ u ∷ []) ≡ items_of us))
      ⊎ ((x : X) × (u ≡ Some x) × (end_from 4 start (items_of us) ≤ off) × (items_of (us ++ u ∷ []) ≡ items_of us ++ f x ∷ []))

  each_some : (xs : List X) → All (λ x. 0 < length x) (map f xs)
  each_some [] k d lt = absurd (omega (arith, lt))
  each_some (x ∷ xs) zero d lt = some x
  each_some (x ∷ xs) (suc k) d lt = each_some xs k d (omega (arith, lt))

  -- the items with those of an item that they have or have not
  module _ (ds more all : List X) (x : X) where
    off_known : list_any (same x) ds ≡ true → all ≡ ds ++ more → offset_in all (Some x) < end_from 4 start (map f ds)
    off_known any is =
        let p : X → Bool = λ y. same y x in
        let there = list_any-source p ds (any_equal p (same x) (λ y. turned same exact y x) ds ∙ any) in
        let within : position_or_len p ds < length ds = position_within p ds there.0 there.1 there.2 in
        let stays : position_or_len p all ≡ position_or_len p ds = ap (position_or_len p) is ∙ position_stays p ds more within in
        let off : offset_in all (Some x) ≡ slice_index (offsets_from 4 start (map f ds ++ map f more)) (position_or_len p ds) =
        (λ i. slice_index (offsets_from 4 start (map f (is i))) (stays i)) ∙ ap (λ ys. slice_index (offsets_from 4 start ys) (position_or_len p ds)) (map-append f ds more) in
        omega (arith, off, offset_before 4 start (map f ds) (map f more) (position_or_len p ds) (each_some ds) (omega (arith, within, length-map ds f)))

    off_new : list_any (same x) ds ≡ false → all ≡ (ds ++ x ∷ []) ++ more → offset_in all (Some x) ≡ round_up 4 (end_from 4 start (map f ds))
    off_new none is =
        let p : X → Bool = λ y. same y x in
        let last : position_or_len p (ds ++ x ∷ []) ≡ length ds = position_last p ds x (any_equal p (same x) (λ y. turned same exact y x) ds ∙ none) ((exact x x).1 refl) in
        let place : position_or_len p all ≡ length (map f ds) =
        ap (position_or_len p) is ∙ position_stays p (ds ++ x ∷ []) more (omega (arith, last, length-append ds (x ∷ []))) ∙ last ∙ sym (length-map ds f) in
        let mapped : map f all ≡ map f ds ++ (f x ∷ map f more) = ap (map f) (is ∙ append_assoc ds (x ∷ []) more) ∙ map-append f ds (x ∷ more) in
        (λ i. slice_index (offsets_from 4 start (mapped i)) (place i)) ∙ offset_next 4 start (map f ds) (f x) (map f more)

  first_by : (us : List (Option X)) (x : X) (all more : List X) (b : Bool) → list_any (same x) (distinct same (present us)) ≡ b → distinct same (present (us ++ Some x ∷ [])) ≡ (if b then distinct same (present us) else distinct same (present us) ++ x ∷ [])
      → all ≡ (if b then distinct same (present us) else distinct same (present us) ++ x ∷ []) ++ more → IsFirstOrNot us (Some x) (offset_in all (Some x))
  first_by us x all more true any now is = inl (off_known (distinct same (present us)) more all x any is, ap (map f) now)
  first_by us x all more false none now is =
      let ds = distinct same (present us) in
      inr (x, refl, omega (arith, off_new ds more all x none is), ap (map f) now ∙ map-append f ds (x ∷ []))

  pub first_or_not : (us : List (Option X)) (u : Option X) (vs : List (Option X)) → IsFirstOrNot us u (offset_in (distinct same (present (us ++ u ∷ vs))) u)
  first_or_not us None vs = inl (omega (arith, pos, end_from_le 4 start (items_of us)), ap (λ xs. map f (distinct same xs)) (present-append us (None ∷ []) ∙ append-nil (present us)))
  first_or_not us (Some x) vs =
      let ds = distinct same (present us) in
      let more = distinct_prefix same exact (present us ++ x ∷ []) (present vs) in
      let last : distinct same (present us ++ x ∷ []) ≡ with_last same ds x = distinct_more same exact (present us) x in
      first_by us x (distinct same (present (us ++ Some x ∷ vs))) more.0 (list_any (same x) ds) refl
      (ap (distinct same) (present-append us (Some x ∷ [])) ∙ last)
      (ap (distinct same) (present-append us (Some x ∷ vs) ∙ sym (append_assoc (present us) (x ∷ []) (present vs))) ∙ more.1 ∙ ap (λ ks. ks ++ more.0) last)

-- ---- a use at its place

-- what is said of each use is said of this one
pub use_at : {U : Type 0} (g : U → ℕ) (us : List U) (u : U) (vs : List U) → slice_index (map g (us ++ u ∷ vs)) (length us) ≡ g u
use_at g [] u vs = refl
use_at g (x ∷ us) u vs = use_at g us u vs
