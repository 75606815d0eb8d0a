-- What merges of joined tables are joined of.
use Rattle.dexrows.proofs.Common.{◌≡◌, ℕ, ◌<◌, ◌≤◌, List, [], ◌∷◌, ◌++◌, length, get_or, map, sym, ap, ◌∙◌, subst, arith, inl, inr, slice_index, All, AllZip, length-map, map-append, get_or-map, get_or_default, All-nil, All-cons, All-weaker, All-contains, Contains-append_left, Contains-append_right, Contains-nil, Contains-first, Contains-later}
use Rattle.dexrows.specs.Join.{IsImage, IsOfParts, IsJoin}
use Rattle.dexrows.specs.internal.Merge.{IsOfTwo, IsMerge, IsJoinOfTwo}

module _ {R : Type 0} (key : R → List ℕ) where
  -- ---- one merge

  pub one_part : (part rows : List R) (places others : List ℕ) → IsMerge key part [] rows places others → IsJoin key (part ∷ []) rows (places ∷ [])
  one_part part rows places others h = record {
    sorted = h.sorted;
    rows_of = All-weaker (IsOfTwo part []) (IsOfParts (part ∷ [])) (λ row c. elim c [
      | inl has ↦ record { part = part; is_part = Contains-first part []; has = has }
      | inr none ↦ absurd (Contains-nil row none)
    ]) rows h.rows_of;
    parts_in = (h.left_in, tt);
  }

  pub two_parts : (left right rows : List R) (lefts rights : List ℕ) → IsMerge key left right rows lefts rights → IsJoin key (left ∷ right ∷ []) rows (lefts ∷ rights ∷ [])
  two_parts left right rows lefts rights h = record {
    sorted = h.sorted;
    rows_of = All-weaker (IsOfTwo left right) (IsOfParts (left ∷ right ∷ [])) (λ row c. elim c [
      | inl has ↦ record { part = left; is_part = Contains-first left (right ∷ []); has = has }
      | inr has ↦ record { part = right; is_part = Contains-later left right (right ∷ []) (Contains-first right []); has = has }
    ]) rows h.rows_of;
    parts_in = (h.left_in, (h.right_in, tt));
  }

  -- ---- images along places

  pub image_along : (rows table part : List R) (places image : List ℕ) → IsImage key rows table places → IsImage key table part image → IsImage key rows part (map (slice_index places) image)
  image_along rows table part places image p h = record {
    count = length-map image (slice_index places) ∙ h.count;
    within = λ i lt. rw (get_or-map (slice_index places) image i 0 0 (omega (arith, h.count))) (p.within (slice_index image i) (h.within i lt));
    same = λ i d lt. rw (get_or-map (slice_index places) image i 0 0 (omega (arith, h.count))) (p.same (slice_index image i) d (h.within i lt) ∙ h.same i d lt);
  }

  images_along : (rows table : List R) (places : List ℕ) → IsImage key rows table places → (parts : List (List R)) (images : List (List ℕ)) → AllZip (IsImage key table) parts images → AllZip (IsImage key rows) parts (map (map (slice_index places)) images)
  images_along rows table places p [] [] h = tt
  images_along rows table places p (part ∷ parts) (image ∷ images) h = (image_along rows table part places image p h.0, images_along rows table places p parts images h.1)
  images_along rows table places p _ _ h = absurd h

  both_in : (rows : List R) (parts others : List (List R)) (images more : List (List ℕ)) → AllZip (IsImage key rows) parts images → AllZip (IsImage key rows) others more → AllZip (IsImage key rows) (parts ++ others) (images ++ more)
  both_in rows [] others [] more h g = g
  both_in rows (part ∷ parts) others (image ∷ images) more h g = (h.0, both_in rows parts others images more h.1 g)
  both_in rows _ others _ more h g = absurd h

  pub join_of_two : (left right rows : List R) (lefts rights : List ℕ) (left_images right_images : List (List ℕ)) → IsMerge key left right rows lefts rights → IsJoinOfTwo key left left_images right right_images rows (map (map (slice_index lefts)) left_images ++ map (map (slice_index rights)) right_images)
  join_of_two left right rows lefts rights left_images right_images h parts others p q = record {
    sorted = h.sorted;
    rows_of = All-weaker (IsOfTwo left right) (IsOfParts (parts ++ others)) (λ row c. elim c [
      | inl has ↦ let w = All-contains (IsOfParts parts) left row p.rows_of has in record { part = w.part; is_part = Contains-append_left parts others w.part w.is_part; has = w.has }
      | inr has ↦ let w = All-contains (IsOfParts others) right row q.rows_of has in record { part = w.part; is_part = Contains-append_right parts others w.part w.is_part; has = w.has }
    ]) rows h.rows_of;
    parts_in = both_in rows parts others _ _ (images_along rows left lefts h.left_in parts left_images p.parts_in) (images_along rows right rights h.right_in others right_images q.parts_in);
  }

  -- as the code joins them
  pub joined_two : {V : Type 0} (see : V → List ℕ) (left right front back rows : List R) (lefts rights left_places right_places : List ℕ) (left_images right_images left_held right_held left_moved right_moved all : List V) → front ≡ left → back ≡ right → IsMerge key front back rows lefts rights → left_places ≡ lefts → right_places ≡ rights → left_held ≡ left_images → right_held ≡ right_images → map see left_moved ≡ map (map (slice_index left_places)) (map see left_held) → map see right_moved ≡ map (map (slice_index right_places)) (map see right_held) → all ≡ left_moved ++ right_moved → IsJoinOfTwo key left (map see left_images) right (map see right_images) rows (map see all)
  joined_two see left right front back rows lefts rights left_places right_places left_images right_images left_held right_held left_moved right_moved all is_left is_right h is_lefts is_rights held also moved too e =
      let a : map see left_moved ≡ map (map (slice_index lefts)) (map see left_images) = moved ∙ ap (λ ps. map (map (slice_index ps)) (map see left_held)) is_lefts ∙ ap (λ vs. map (map (slice_index lefts)) (map see vs)) held in
      let b : map see right_moved ≡ map (map (slice_index rights)) (map see right_images) = too ∙ ap (λ ps. map (map (slice_index ps)) (map see right_held)) is_rights ∙ ap (λ vs. map (map (slice_index rights)) (map see vs)) also in
      let both : map see all ≡ map (map (slice_index lefts)) (map see left_images) ++ map (map (slice_index rights)) (map see right_images) = ap (map see) e ∙ map-append see left_moved right_moved ∙ (λ i. a i ++ b i) in
      subst (IsJoinOfTwo key left (map see left_images) right (map see right_images) rows) (sym both) (join_of_two left right rows lefts rights (map see left_images) (map see right_images) (subst (λ xs. IsMerge key xs right rows lefts rights) is_left (subst (λ ys. IsMerge key front ys rows lefts rights) is_right h)))

  -- ---- what calls ask

  pub within_images : (rows : List R) (n : ℕ) → length rows ≡ n → (parts : List (List R)) (images : List (List ℕ)) → AllZip (IsImage key rows) parts images → All (All (λ place. place < n)) images
  within_images rows n e [] [] h = All-nil (All (λ place. place < n))
  within_images rows n e (part ∷ parts) (image ∷ images) h = All-cons (All (λ place. place < n)) image images
      (λ k d lt. omega (arith, get_or_default image k d 0 lt, h.0.within k (omega (arith, h.0.count)), e)) (within_images rows n e parts images h.1)
  within_images rows n e _ _ h = absurd h

-- a list of one and of two
pub list_of_one : {X : Type 0} (xs : List X) (x : X) → 1 ≤ length xs → length xs < 2 → x ≡ get_or xs 0 x → xs ≡ x ∷ []
list_of_one (y ∷ []) x more less at = ap (λ z. z ∷ []) (sym at)
list_of_one _ x more less at = absurd (omega arith)

pub list_of_two : {X : Type 0} (xs : List X) (x y : X) → 2 ≤ length xs → length xs < 3 → x ≡ get_or xs 0 x → y ≡ get_or xs 1 y → xs ≡ x ∷ y ∷ []
list_of_two (z ∷ w ∷ []) x y more less at then = λ i. sym at i ∷ sym then i ∷ []
list_of_two _ x y more less at then = absurd (omega arith)

-- as the code has the parts and their images
module _ {R P V : Type 0} (key : R → List ℕ) (see : P → List R) (see_image : V → List ℕ) (parts : List P) (rows : List R) where
  pub join_of_one : (part : P) (places : V) (images : List V) (others : List ℕ) → parts ≡ part ∷ [] → images ≡ places ∷ [] → IsMerge key (see part) [] rows (see_image places) others → IsJoin key (map see parts) rows (map see_image images)
  join_of_one part places images others is made h = rw (is, made) (one_part key (see part) rows (see_image places) others h)

  pub join_of_both : (left right : P) (lefts rights : V) (images : List V) → parts ≡ left ∷ right ∷ [] → images ≡ lefts ∷ rights ∷ [] → IsMerge key (see left) (see right) rows (see_image lefts) (see_image rights) → IsJoin key (map see parts) rows (map see_image images)
  join_of_both left right lefts rights images is made h = rw (is, made) (two_parts key (see left) (see right) rows (see_image lefts) (see_image rights) h)
