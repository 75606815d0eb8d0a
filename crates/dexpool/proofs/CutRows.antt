-- What is kept of a table, and where.
use Rattle.dexpool.proofs.Common.{◌≡◌, ℕ, ◌+◌, ◌<◌, ◌≤◌, Bool, true, false, List, [], ◌∷◌, ◌++◌, length, get_or, set, take, drop, refl, sym, ap, ◌∙◌, arith, append_assoc, add-one, inl, inr, Option, Some, None, swap, cases_eq, drop_more, set-set, take_more_set, take-set-le, drop-set-lt, swap_is, length-swap, kept, places}
use Rattle.dexpool.proofs.InPlace.{same_at, rest_more}
use Rattle.dexpool.proofs.KeptRows.{kept_first, kept_next}

-- any row, where a default is asked for
pub any_of : {R : Type 0} (rows : List R) (i : ℕ) → i < length rows → R
any_of [] i lt = absurd (omega arith)
any_of (row ∷ rows) i lt = row

-- ---- a pass over a table

module _ {R : Type 0} (marks : List Bool) (rows : List R) (i : ℕ) (d : R) (lt : i < length rows) (sized : length marks ≡ length rows) (so_far : List R) where
  -- a marked row comes to those so far
  pub keeps : (more : List R) → get_or marks i false ≡ true → more ≡ so_far ++ get_or rows i d ∷ [] → so_far ++ kept (drop i marks) (drop i rows) ≡ kept marks rows → more ++ kept (drop (i + 1) marks) (drop (i + 1) rows) ≡ kept marks rows
  keeps more marked grown h =
      let left = kept (drop (i + 1) marks) (drop (i + 1) rows) in
      ap (λ xs. xs ++ left) grown ∙ append_assoc so_far (get_or rows i d ∷ []) left ∙ ap (λ xs. so_far ++ xs) (sym (kept_first marks rows i d lt sized marked)) ∙ h

  -- and another one does not
  pub leaves : get_or marks i false ≡ false → so_far ++ kept (drop i marks) (drop i rows) ≡ kept marks rows → so_far ++ kept (drop (i + 1) marks) (drop (i + 1) rows) ≡ kept marks rows
  leaves unmarked h = ap (λ xs. so_far ++ xs) (sym (kept_next marks rows i d lt sized unmarked)) ∙ h

-- ---- a table that is cut in place

-- a swap of two places that moves a row after those that were kept
module _ {R : Type 0} (rows : List R) (count i : ℕ) (d : R) (within : count ≤ i) (lt : i < length rows) where
  swapped : swap rows count i ≡ set (set rows count (get_or rows i d)) i (get_or rows count d)
  swapped = sym (swap_is rows count i d (omega (arith, within, lt)) lt)

  moved_last : take (count + 1) (swap rows count i) ≡ take count rows ++ get_or rows i d ∷ []
  moved_last =
      let x = get_or rows i d in
      let y = get_or rows count d in
      let less : count < length rows = omega (arith, within, lt) in
      ap (take (count + 1)) swapped ∙ elim (cases_eq count i) [
        | inl same ↦ ap (λ k. take (count + 1) (set (set rows count x) k y)) (sym same) ∙ ap (take (count + 1)) (set-set rows count x y) ∙ take_more_set rows count y less ∙ ap (λ k. take count rows ++ get_or rows k d ∷ []) same
        | inr other ↦ take-set-le (count + 1) (set rows count x) i y (omega (arith, within, other)) ∙ take_more_set rows count x less
      ]

  left_rest : drop (i + 1) (swap rows count i) ≡ drop (i + 1) rows
  left_rest = let x = get_or rows i d in ap (drop (i + 1)) swapped ∙ drop-set-lt (i + 1) (set rows count x) i (get_or rows count d) (omega arith) ∙ drop-set-lt (i + 1) rows count x (omega (arith, within))

-- the rows that are kept so far are first, and those from i on are still the old ones
pub record IsCutTo {R : Type 0} (old : List R) (marks : List Bool) (i count : ℕ) (rows : List R) : Type 0 where
  pub so_far : take count rows ++ kept (drop i marks) (drop i old) ≡ kept marks old
  pub rest : drop i rows ≡ drop i old
  pub size : length rows ≡ length old
  pub within : count ≤ i

module _ {R : Type 0} (old : List R) (marks : List Bool) (i count : ℕ) (rows : List R) (h : IsCutTo old marks i count rows) (lt : i < length old) (sized : length marks ≡ length old) where
  any : R
  any = any_of old i lt

  pub cut_more : get_or marks i false ≡ true → IsCutTo old marks (i + 1) (count + 1) (swap rows count i)
  cut_more marked =
      let less : i < length rows = omega (arith, lt, h.size) in
      record {
        so_far = keeps marks old i any lt sized (take count rows) (take (count + 1) (swap rows count i)) marked
            (moved_last rows count i any h.within less ∙ ap (λ x. take count rows ++ x ∷ []) (same_at old rows i h.rest any)) h.so_far;
        rest = left_rest rows count i any h.within less ∙ rest_more old rows i h.rest;
        size = length-swap rows count i ∙ h.size;
        within = omega (arith, h.within);
      }

  pub cut_past : get_or marks i false ≡ false → IsCutTo old marks (i + 1) count rows
  cut_past unmarked = record {
    so_far = leaves marks old i any lt sized (take count rows) unmarked h.so_far;
    rest = rest_more old rows i h.rest;
    size = h.size;
    within = omega (arith, h.within);
  }

-- ---- places

-- the places so far, and that of a marked row
pub places_if : (marks : List Bool) (i n m : ℕ) (d : Bool) (so_far ps : List (Option ℕ)) → i < length marks → get_or marks i d ≡ true → m ≡ n + 1 → ps ≡ so_far ++ Some n ∷ [] → so_far ++ places n (drop i marks) ≡ places 0 marks → ps ++ places m (drop (i + 1) marks) ≡ places 0 marks
places_if marks i n m d so_far ps less marked next grown h =
    let front : places n (drop i marks) ≡ Some n ∷ places m (drop (i + 1) marks) = rw (drop_more marks i d less, marked, next, add-one n) refl in
    ap (λ xs. xs ++ places m (drop (i + 1) marks)) grown ∙ append_assoc so_far (Some n ∷ []) (places m (drop (i + 1) marks)) ∙ ap (λ xs. so_far ++ xs) (sym front) ∙ h

pub places_else : (marks : List Bool) (i n : ℕ) (d : Bool) (so_far ps : List (Option ℕ)) → i < length marks → get_or marks i d ≡ false → ps ≡ so_far ++ None ∷ [] → so_far ++ places n (drop i marks) ≡ places 0 marks → ps ++ places n (drop (i + 1) marks) ≡ places 0 marks
places_else marks i n d so_far ps less marked grown h =
    let front : places n (drop i marks) ≡ None ∷ places n (drop (i + 1) marks) = rw (drop_more marks i d less, marked) refl in
    ap (λ xs. xs ++ places n (drop (i + 1) marks)) grown ∙ append_assoc so_far (None ∷ []) (places n (drop (i + 1) marks)) ∙ ap (λ xs. so_far ++ xs) (sym front) ∙ h
