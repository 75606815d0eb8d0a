-- One row more in a merge of two sorted tables.
use Rattle.dexrows.proofs.Common.{◌≡◌, ℕ, zero, suc, take, false, ◌+◌, ◌<◌, ◌≤◌, true, List, [], ◌∷◌, ◌++◌, length, get_or, refl, sym, ap, ◌∙◌, subst, arith, inl, inr, Ordering, Less, Equal, Greater, All, is_lt, ordering_reverse, IsTotalOrder, cases_lt, length_push, get_or_append_left, get_or_push, get_or_default, All-head, All-tail, All-push, All-weaker, key_cmp, and_first, and_second, and_both}
use Rattle.std.proofs.lemmas.Cmp.{on_total}
use Rattle.dexspec.specs.Lists.{rises}
use Rattle.dexspec.proofs.lists.InOrder.{Rises-from_rises, Rises-places, less_is}
use Rattle.dexspec.proofs.merge.SymbolOrders.{text_total, text_exact}
use Rattle.dexrows.specs.Join.{row_cmp, AreSorted, IsImage}
use Rattle.dexrows.specs.internal.Merge.{IsOfTwo, IsNext, IsMerge, HasTaken, IsMerging, ComesFirst, ComeTogether}

-- one more at the end of a rising list
pub rises_push : {X : Type 0} (R : X → X → Ordering) (xs : List X) (x : X) → rises R xs ≡ true → All (λ y. R y x ≡ Less) xs → rises R (xs ++ x ∷ []) ≡ true
rises_push R [] x h less = refl
rises_push R (y ∷ []) x h less = and_both (is_lt (R y x)) true (ap is_lt (All-head (λ z. R z x ≡ Less) y [] less)) refl
rises_push R (y ∷ z ∷ zs) x h less =
    and_both (is_lt (R y z)) (rises R (z ∷ (zs ++ x ∷ []))) (and_first (is_lt (R y z)) (rises R (z ∷ zs)) h)
    (rises_push R (z ∷ zs) x (and_second (is_lt (R y z)) (rises R (z ∷ zs)) h) (All-tail (λ w. R w x ≡ Less) y (z ∷ zs) less))

-- one more of a list that rises so far
pub rises_more : {X : Type 0} (R : X → X → Ordering) (xs : List X) (i : ℕ) (d : X) → suc i < length xs → rises R (take (suc i) xs) ≡ true → R (get_or xs i d) (get_or xs (suc i) d) ≡ Less → rises R (take (suc (suc i)) xs) ≡ true
rises_more R (x ∷ y ∷ ys) zero d lt h less = and_both (is_lt (R x y)) true (ap is_lt less) refl
rises_more R (x ∷ y ∷ ys) (suc i) d lt h less =
    and_both (is_lt (R x y)) (rises R (take (suc (suc i)) (y ∷ ys))) (and_first (is_lt (R x y)) (rises R (take (suc i) (y ∷ ys))) h)
    (rises_more R (y ∷ ys) i d (omega arith) (and_second (is_lt (R x y)) (rises R (take (suc i) (y ∷ ys))) h) less)
rises_more R _ i d lt h less = absurd (omega arith)

module _ {R : Type 0} (key : R → List ℕ) where
  pub row_total : IsTotalOrder (row_cmp key)
  row_total = on_total key text_total

  -- a row of a sorted part is less than the one after it
  pub next_less : (part : List R) (i : ℕ) (d : R) → AreSorted key part → i + 1 < length part → row_cmp key (get_or part i d) (get_or part (i + 1) d) ≡ Less
  next_less part i d sorted lt = Rises-places (row_cmp key) row_total part i (i + 1) d (Rises-from_rises (row_cmp key) row_total part sorted) (omega arith) lt

  -- a row that the part has next is taken
  pub taken : (rows part : List R) (places : List ℕ) (x : R) → HasTaken key rows part places → AreSorted key part → length places < length part → key x ≡ key (get_or part (length places) x) → HasTaken key (rows ++ x ∷ []) part (places ++ length rows ∷ [])
  taken rows part places x h sorted lt is = record {
    count = omega (arith, length_push places (length rows));
    within = λ i less. elim (cases_lt i (length places)) [
      | inl small ↦ rw (get_or_append_left places (length rows ∷ []) 0 i small) (omega (arith, h.within i small, length_push rows x))
      | inr large ↦ rw (get_or_push places (length rows) 0 i (omega (arith, length_push places (length rows)))) (omega (arith, length_push rows x))
    ];
    same = λ i d less. elim (cases_lt i (length places)) [
      | inl small ↦ rw (get_or_append_left places (length rows ∷ []) 0 i small) (ap key (get_or_append_left rows (x ∷ []) d (get_or places i 0) (h.within i small)) ∙ h.same i d small)
      | inr large ↦
          let at : length places ≡ i = omega (arith, length_push places (length rows)) in
          rw (get_or_push places (length rows) 0 i at) (ap key (get_or_push rows x d (length rows) refl) ∙ is ∙ ap (λ j. key (get_or part j x)) at ∙ ap key (get_or_default part i x d (omega arith)))
    ];
    less = λ d more.
        let n : length (places ++ length rows ∷ []) ≡ length places + 1 = length_push places (length rows) in
        let following : row_cmp key (get_or part (length places) d) (get_or part (length places + 1) d) ≡ Less = next_less part (length places) d sorted (omega arith) in
        rw n (All-push (λ row. row_cmp key row (get_or part (length places + 1) d) ≡ Less) rows x
        (All-weaker (λ row. row_cmp key row (get_or part (length places) d) ≡ Less) (λ row. row_cmp key row (get_or part (length places + 1) d) ≡ Less)
        (λ row l. row_total.trans row (get_or part (length places) d) (get_or part (length places + 1) d) l following) rows (h.less d lt))
        (subst (λ k. key_cmp k (key (get_or part (length places + 1) d)) ≡ Less) (sym (is ∙ ap key (get_or_default part (length places) x d lt))) following));
  }

  -- a row before the next one of the part is taken from another
  pub passed : (rows part : List R) (places : List ℕ) (x : R) → HasTaken key rows part places → (length places < length part → row_cmp key x (get_or part (length places) x) ≡ Less) → HasTaken key (rows ++ x ∷ []) part places
  passed rows part places x h before = record {
    count = h.count;
    within = λ i less. omega (arith, h.within i less, length_push rows x);
    same = λ i d less. ap key (get_or_append_left rows (x ∷ []) d (get_or places i 0) (h.within i less)) ∙ h.same i d less;
    less = λ d more. All-push (λ row. row_cmp key row (get_or part (length places) d) ≡ Less) rows x (h.less d more)
        (subst (λ y. row_cmp key x y ≡ Less) (get_or_default part (length places) x d more) (before more));
  }

  -- the row that is taken is greater than the rows so far
  less_than : (rows part : List R) (places : List ℕ) (x : R) → HasTaken key rows part places → length places < length part → key x ≡ key (get_or part (length places) x) → All (λ row. row_cmp key row x ≡ Less) rows
  less_than rows part places x h lt is = All-weaker (λ row. row_cmp key row (get_or part (length places) x) ≡ Less) (λ row. row_cmp key row x ≡ Less)
      (λ row l. subst (λ k. key_cmp (key row) k ≡ Less) (sym is) l) rows (h.less x lt)

  module _ (left right : List R) (left_sorted : AreSorted key left) (right_sorted : AreSorted key right) (rows : List R) (lefts rights : List ℕ) (h : IsMerging key left right rows lefts rights) (x : R) where
    pub take_left : ComesFirst key left (length lefts) right (length rights) → x ≡ get_or left (length lefts) x → IsMerging key left right (rows ++ x ∷ []) (lefts ++ length rows ∷ []) rights
    take_left next is = record {
      sorted = rises_push (row_cmp key) rows x h.sorted (less_than rows left lefts x h.left_in next.has (ap key is));
      rows_of = All-push (IsOfTwo left right) rows x h.rows_of (inl (length lefts, next.has, sym is));
      left_in = taken rows left lefts x h.left_in left_sorted next.has (ap key is);
      right_in = passed rows right rights x h.right_in (λ more. subst (λ y. row_cmp key y (get_or right (length rights) x) ≡ Less) (sym is) (next.first x more));
    }

    pub take_right : ComesFirst key right (length rights) left (length lefts) → x ≡ get_or right (length rights) x → IsMerging key left right (rows ++ x ∷ []) lefts (rights ++ length rows ∷ [])
    take_right next is = record {
      sorted = rises_push (row_cmp key) rows x h.sorted (less_than rows right rights x h.right_in next.has (ap key is));
      rows_of = All-push (IsOfTwo left right) rows x h.rows_of (inr (length rights, next.has, sym is));
      left_in = passed rows left lefts x h.left_in (λ more. subst (λ y. row_cmp key y (get_or left (length lefts) x) ≡ Less) (sym is) (next.first x more));
      right_in = taken rows right rights x h.right_in right_sorted next.has (ap key is);
    }

    pub take_both : ComeTogether key left (length lefts) right (length rights) → x ≡ get_or left (length lefts) x → IsMerging key left right (rows ++ x ∷ []) (lefts ++ length rows ∷ []) (rights ++ length rows ∷ [])
    take_both next is = record {
      sorted = rises_push (row_cmp key) rows x h.sorted (less_than rows left lefts x h.left_in next.has_one (ap key is));
      rows_of = All-push (IsOfTwo left right) rows x h.rows_of (inl (length lefts, next.has_one, sym is));
      left_in = taken rows left lefts x h.left_in left_sorted next.has_one (ap key is);
      right_in = taken rows right rights x h.right_in right_sorted next.has_other (ap key is ∙ next.same x);
    }

  -- all rows of a part are taken
  pub image_of : (rows part : List R) (places : List ℕ) → HasTaken key rows part places → length part ≤ length places → IsImage key rows part places
  image_of rows part places h all = record {
    count = omega (arith, h.count);
    within = λ i lt. h.within i (omega arith);
    same = λ i d lt. h.same i d (omega arith);
  }

  pub merged : (left right rows : List R) (lefts rights : List ℕ) → IsMerging key left right rows lefts rights → length left ≤ length lefts → length right ≤ length rights → IsMerge key left right rows lefts rights
  merged left right rows lefts rights h all_left all_right = record {
    sorted = h.sorted;
    rows_of = h.rows_of;
    left_in = image_of rows left lefts h.left_in all_left;
    right_in = image_of rows right rights h.right_in all_right;
  }

  -- ---- as the code takes them

  -- what a comparison of the next rows says
  pub compared : (left right : List R) (i j : ℕ) (x y : R) (order : Ordering) → i < length left → j < length right → x ≡ get_or left i x → y ≡ get_or right j y → order ≡ row_cmp key x y → IsNext key left i right j order
  compared left right i j x y order has_left has_right x_is y_is is = by order (is ∙ sym (ap (λ z. row_cmp key z (get_or right j x)) (x_at x) ∙ ap (row_cmp key x) (y_at x)))
    where
      x_at : (d : R) → get_or left i d ≡ x
      x_at d = get_or_default left i d x has_left ∙ sym x_is

      y_at : (d : R) → get_or right j d ≡ y
      y_at d = get_or_default right j d y has_right ∙ sym y_is

      by : (o : Ordering) → o ≡ row_cmp key (get_or left i x) (get_or right j x) → IsNext key left i right j o
      by Less e = record { has = has_left; first = λ d more. ap (λ z. row_cmp key z (get_or right j d)) (x_at d ∙ sym (x_at x)) ∙ ap (row_cmp key (get_or left i x)) (y_at d ∙ sym (y_at x)) ∙ sym e }
      by Equal e = record { has_one = has_left; has_other = has_right; same = λ d. ap key (x_at d ∙ sym (x_at x)) ∙ text_exact (key (get_or left i x)) (key (get_or right j x)) (sym e) ∙ ap key (y_at x ∙ sym (y_at d)) }
      by Greater e = record { has = has_right; first = λ d more. ap (λ z. row_cmp key z (get_or left i d)) (y_at d ∙ sym (y_at x)) ∙ ap (row_cmp key (get_or right j x)) (x_at d ∙ sym (x_at x)) ∙ row_total.antisymm (get_or right j x) (get_or left i x) ∙ ap ordering_reverse (sym e) }

  module _ (left right : List R) (left_sorted : AreSorted key left) (right_sorted : AreSorted key right) (rows : List R) (lefts rights : List ℕ) (h : IsMerging key left right rows lefts rights) (order : Ordering) (next : IsNext key left (length lefts) right (length rights) order) (x z : R) (place i : ℕ) (ys : List R) (copied : x ≡ z) (at_end : place ≡ length rows) (grown : ys ≡ rows ++ x ∷ []) where
    pub left_step : (ps : List ℕ) → order ≡ Less → i ≡ length lefts → z ≡ get_or left i z → ps ≡ lefts ++ place ∷ [] → IsMerging key left right ys ps rights
    left_step ps is i_is at put = rw (grown, put, at_end) (take_left left right left_sorted right_sorted rows lefts rights h x (subst (IsNext key left (length lefts) right (length rights)) is next) (rw (copied, ← i_is) at))

    pub right_step : (qs : List ℕ) → order ≡ Greater → i ≡ length rights → z ≡ get_or right i z → qs ≡ rights ++ place ∷ [] → IsMerging key left right ys lefts qs
    right_step qs is i_is at put = rw (grown, put, at_end) (take_right left right left_sorted right_sorted rows lefts rights h x (subst (IsNext key left (length lefts) right (length rights)) is next) (rw (copied, ← i_is) at))

    pub both_step : (ps qs : List ℕ) → order ≡ Equal → i ≡ length lefts → z ≡ get_or left i z → ps ≡ lefts ++ place ∷ [] → qs ≡ rights ++ place ∷ [] → IsMerging key left right ys ps qs
    both_step ps qs is i_is at put also = rw (grown, put, also, at_end) (take_both left right left_sorted right_sorted rows lefts rights h x (subst (IsNext key left (length lefts) right (length rights)) is next) (rw (copied, ← i_is) at))

  -- ---- as the code checks whether rows are sorted

  pair_is : (rows : List R) (i j : ℕ) (a b : R) (o : Ordering) → i < length rows → j < length rows → a ≡ get_or rows i a → b ≡ get_or rows j b → o ≡ row_cmp key a b → o ≡ row_cmp key (get_or rows i a) (get_or rows j a)
  pair_is rows i j a b o at_i at_j is_a is_b is = is ∙ ap (λ x. row_cmp key x b) is_a ∙ ap (row_cmp key (get_or rows i a)) (is_b ∙ get_or_default rows j b a at_j)

  pub sorted_more : (rows : List R) (i j : ℕ) (a b : R) (o : Ordering) → i + 1 ≡ j → j < length rows → a ≡ get_or rows i a → b ≡ get_or rows j b → o ≡ row_cmp key a b → true ≡ is_lt o → AreSorted key (take j rows) → AreSorted key (take (j + 1) rows)
  sorted_more rows i j a b o next lt is_a is_b is less sorted =
      let after : suc i ≡ j = omega arith in
      let more = rises_more (row_cmp key) rows i a (omega arith) (subst (λ k. AreSorted key (take k rows)) (sym after) sorted) (subst (λ k. row_cmp key (get_or rows i a) (get_or rows k a) ≡ Less) (sym after) (sym (pair_is rows i j a b o (omega arith) lt is_a is_b is) ∙ less_is o (sym less))) in
      let last : suc (suc i) ≡ j + 1 = omega arith in
      subst (λ k. AreSorted key (take k rows)) last more

  pub not_sorted : (rows : List R) (i j : ℕ) (a b : R) (o : Ordering) → i + 1 ≡ j → j < length rows → a ≡ get_or rows i a → b ≡ get_or rows j b → o ≡ row_cmp key a b → false ≡ is_lt o → AreSorted key rows → ⊥
  not_sorted rows i j a b o next lt is_a is_b is more sorted =
      let less : row_cmp key (get_or rows i a) (get_or rows j a) ≡ Less = subst (λ k. row_cmp key (get_or rows i a) (get_or rows k a) ≡ Less) next (next_less rows i a sorted (omega arith)) in
      let lt : is_lt o ≡ true = ap is_lt (pair_is rows i j a b o (omega arith) lt is_a is_b is ∙ less) in
      cc
