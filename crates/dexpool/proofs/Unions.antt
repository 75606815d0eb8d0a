-- Sorted rows joined: what they denote is the union of what the parts' rows denote.
use Rattle.dexpool.proofs.Common.{◌≡◌, ℕ, ◌<◌, List, [], ◌∷◌, length, get_or, map, sym, ap, ◌∙◌, subst, arith, slice_index, All, AllZip, Contains, flat_map, IsTotalOrder, IsAntisymmetric, Ordering, tied_itself, get_or-map, length-map, All-weaker, All-contains, All-contains_itself, Contains-get_or, in_order, key_cmp, Rises-from_rises, Rises-same, Rises-in_order, in_order-has, in_order-only, AreAmong, Contains-flat_map, Contains-flat_map_source, Contains-map_source, Contains-map, text_total, row_cmp, IsImage, IsOfParts, IsJoin, Moves, IsUnion, Denote}
use Rattle.dexpool.proofs.NumberOrder.{rises-map}
use Rattle.dexpool.proofs.Pairs.{zip_source, zip_target, zip_along}

-- any member of a list that has one
pub some : {X : Type 0} (xs : List X) (i : ℕ) → i < length xs → X
some [] i lt = absurd (omega arith)
some (x ∷ xs) i lt = x

-- what holds of all members of all parts holds of the members of their union
pub all_union : {P X : Type 0} (of : P → List X) (R : X → X → Ordering) (o : IsTotalOrder R) (exact : IsAntisymmetric R) (Q : X → Type 0) (parts : List P) (joined : List X) → joined ≡ in_order R (flat_map of parts) → All (λ p. All Q (of p)) parts → All Q joined
all_union of R o exact Q parts joined is h =
    All-weaker (Contains joined) Q (λ x c.
    let s = Contains-flat_map_source of parts x (in_order-only R o exact (flat_map of parts) x (subst (λ xs. Contains xs x) is c)) in
    All-contains Q (of s.0) x (All-contains (λ p. All Q (of p)) parts s.0 h s.1) s.2) joined (All-contains_itself joined)

module _ {P R X : Type 0} (key : R → List ℕ) (symbol : R → X) (Within : R → Type 0) (S : X → X → Ordering) (o : IsTotalOrder S) (exact : IsAntisymmetric S)
    (agree : (x y : R) → Within x → Within y → row_cmp key x y ≡ S (symbol x) (symbol y)) (of : P → List X) where
  module _ (parts : List P) (rows : List (List R)) (are_encoded : AllZip (λ p xs. Denote symbol Within (of p) xs) parts rows) where
    module _ (joined : List R) (images : List (List ℕ)) (j : IsJoin key rows joined images) where
      -- the joined rows' numbers are in range
      pub joined_within : All Within joined
      joined_within =
          All-weaker (IsOfParts rows) Within (λ row w.
          All-contains Within w.part row (zip_source (λ p ys. Denote symbol Within (of p) ys) parts rows w.part are_encoded w.is_part).2.within w.has) joined j.rows_of

      -- rows of one key have one symbol
      one_symbol : (x y : R) → Within x → Within y → key x ≡ key y → symbol x ≡ symbol y
      one_symbol x y p q e = exact (symbol x) (symbol y) (sym (agree x y p q) ∙ ap (λ k. key_cmp k (key y)) e ∙ tied_itself text_total (key y))

      moved : (p : P) (xs : List R) (image : List ℕ) → Denote symbol Within (of p) xs → IsImage key joined xs image → Moves (of p) (map symbol joined) image
      moved p xs image s i =
          let lengths : length xs ≡ length (of p) = sym (length-map xs symbol) ∙ ap (λ (ys : List X). length ys) s.same in
          record {
            count = i.count ∙ lengths;
            same = λ n d lt.
                let less : n < length xs = omega (arith, lt, lengths) in
                let r = some xs n less in
                let k = slice_index image n in
                let there : k < length joined = i.within n less in
                record {
                  within = omega (arith, there, length-map joined symbol);
                  is = λ x. get_or-map symbol joined k r x there ∙ (one_symbol (get_or joined k r) (get_or xs n r) (joined_within k r there) (s.within n r less) (i.same n r less)) ∙ sym (get_or-map symbol xs n r d less) ∙ ap (λ ys. get_or ys n d) s.same;
                };
          }

      moves : AllZip (λ p image. Moves (of p) (map symbol joined) image) parts images
      moves = zip_along (λ p xs. Denote symbol Within (of p) xs) (IsImage key joined) (λ p image. Moves (of p) (map symbol joined) image) moved parts rows images are_encoded j.parts_in

      only : AreAmong (map symbol joined) (flat_map of parts)
      only x c =
          let row = Contains-map_source symbol joined x c in
          let w = All-contains (IsOfParts rows) joined row.0 j.rows_of row.1 in
          let s = zip_source (λ p ys. Denote symbol Within (of p) ys) parts rows w.part are_encoded w.is_part in
          Contains-flat_map of parts s.0 x s.1 (subst (λ ys. Contains ys x) s.2.same (subst (Contains (map symbol w.part)) row.2 (Contains-map symbol w.part row.0 w.has)))

      every : AreAmong (flat_map of parts) (map symbol joined)
      every x c =
          let s = Contains-flat_map_source of parts x c in
          let z = zip_target (λ p image. Moves (of p) (map symbol joined) image) parts images s.0 moves s.1 in
          let at = z.2.same s.2.0 x s.2.1 in subst (Contains (map symbol joined)) (at.is x ∙ s.2.2) (Contains-get_or (map symbol joined) (slice_index z.0 s.2.0) x at.within)

      -- the joined rows' symbols are those of all parts
      pub union : IsUnion of S parts (map symbol joined) images
      union = record {
        all = Rises-same S o (map symbol joined) (in_order S (flat_map of parts))
            (Rises-from_rises S o (map symbol joined) (sym (rises-map (row_cmp key) S symbol Within agree joined joined_within) ∙ j.sorted))
            (Rises-in_order S o exact (flat_map of parts))
            (λ x c. in_order-has S o exact (flat_map of parts) x (only x c))
            (λ x c. every x (in_order-only S o exact (flat_map of parts) x c));
        moves = moves;
      }
