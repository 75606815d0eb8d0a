-- Elements that are put into another order, one by one.
use Rattle.dexclass.proofs.Common.{◌≡◌, ◌≢◌, ℕ, ◌+◌, ◌<◌, ◌≤◌, List, [], ◌∷◌, ◌++◌, length, get_or, map, sym, ap, ◌∙◌, refl, subst, arith, ◌⊎◌, inl, inr, All, slice_set, range_with_len, SwappedAt, length-set, length-map, get_or-map, map-id, get_or-set_same, get_or-set_other, ext_get_or, get_or-range_with_len, length-range_with_len, map-range_with_len_more, cases_eq, AreDistinct}

-- the element that was at place i is now at the place that is kept for it, which is not before place k
pub record IsMoved {X : Type 0} (old now : List X) (places owners : List ℕ) (k i : ℕ) : Type 0 where
  pub within : get_or places i 0 < length old
  pub after : k ≤ get_or places i 0
  pub owned : get_or owners (get_or places i 0) 0 ≡ i
  pub same : (d : X) → get_or now (get_or places i 0) d ≡ get_or old i d

-- the element at place p was at the place that is kept for it
pub record IsOwned (places owners : List ℕ) (n p : ℕ) : Type 0 where
  pub was_within : get_or owners p 0 < n
  pub placed : get_or places (get_or owners p 0) 0 ≡ p

-- the first k places have the elements of the order, and the others are after them
pub record AreArranged {X : Type 0} (old now : List X) (order places owners : List ℕ) (k : ℕ) : Type 0 where
  pub count : length now ≡ length old
  pub place_count : length places ≡ length old
  pub owner_count : length owners ≡ length old
  pub done : (j : ℕ) (d : X) → j < k → get_or now j d ≡ get_or old (get_or order j 0) d
  pub others : (i : ℕ) → i < length old → ((j : ℕ) → j < k → get_or order j 0 ≢ i) → IsMoved old now places owners k i
  pub owned : (p : ℕ) → k ≤ p → p < length old → IsOwned places owners (length old) p

-- at first each element is at its own place
pub none_arranged : {X : Type 0} (old : List X) (order : List ℕ) (n : ℕ) (places owners : List ℕ) → n ≡ length old → places ≡ range_with_len 0 n → owners ≡ places → AreArranged old old order places owners 0
none_arranged old order n places owners count is same = record {
  count = refl;
  place_count = ap length is ∙ length-range_with_len 0 n ∙ count;
  owner_count = ap length same ∙ ap length is ∙ length-range_with_len 0 n ∙ count;
  done = λ j d less. absurd (omega (arith, less));
  others = λ i lt apart. record {
    within = omega (arith, own i lt, lt);
    after = omega arith;
    owned = ap (λ (l : List ℕ). get_or l (get_or places i 0) 0) same ∙ ap (λ (k : ℕ). get_or places k 0) (own i lt) ∙ own i lt;
    same = λ d. ap (λ (k : ℕ). get_or old k d) (own i lt);
  };
  owned = λ p le lt.
      let at : get_or owners p 0 ≡ p = ap (λ (l : List ℕ). get_or l p 0) same ∙ own p lt in
      record { was_within = omega (arith, at, lt); placed = ap (λ (k : ℕ). get_or places k 0) at ∙ own p lt };
}
  where
    own : (i : ℕ) → i < length old → get_or places i 0 ≡ i
    own i lt = omega (arith, ap (λ (l : List ℕ). get_or l i 0) is, get_or-range_with_len 0 n i 0 (omega (arith, lt, count)))

module _ {X : Type 0} (old now new : List X) (order places owners : List ℕ) (k : ℕ) (distinct : AreDistinct order) (many : length order ≡ length old) (lt : k < length order) (all : All (λ i. i < length old) order) (h : AreArranged old now order places owners k) where
  -- the element that belongs at place k, its place now, and the element that is at place k instead
  abbrev wanted : ℕ
  wanted = get_or order k 0

  abbrev place : ℕ
  place = get_or places wanted 0

  abbrev owner : ℕ
  owner = get_or owners k 0

  moved : IsMoved old now places owners k wanted
  moved = h.others wanted (all k 0 lt) (λ j less. distinct j k 0 less lt)

  pub owner_owned : IsOwned places owners (length old) k
  owner_owned = h.owned k (omega arith) (omega (arith, lt, many))

  -- the place at which the element is not
  is_elsewhere : (q i : ℕ) → get_or owners q 0 ≡ i → i ≢ wanted → q ≢ place
  is_elsewhere q i is apart same = apart (sym is ∙ ap (λ (n : ℕ). get_or owners n 0) same ∙ moved.owned)

  module _ (swapped : SwappedAt now new k place) where
    done_more : (j : ℕ) (d : X) → j < k + 1 → (j ≡ k) ⊎ (j ≢ k) → get_or new j d ≡ get_or old (get_or order j 0) d
    done_more j d less (inl same) = ap (λ (n : ℕ). get_or new n d) same ∙ swapped.0 d ∙ moved.same d ∙ ap (λ (n : ℕ). get_or old (get_or order n 0) d) (sym same)
    done_more j d less (inr apart) = swapped.2 j d apart (λ e. absurd (omega (arith, less, apart, e, moved.after))) ∙ h.done j d (omega (arith, less, apart))

    moved_more : (i : ℕ) → i < length old → i ≢ wanted → IsMoved old now places owners k i → (i ≡ owner) ⊎ (i ≢ owner) → IsMoved old new (slice_set places owner place) (slice_set owners place owner) (k + 1) i
    moved_more i few apart was (inl same) =
        let at : get_or (slice_set places owner place) i 0 ≡ place = ap (λ (n : ℕ). get_or (slice_set places owner place) n 0) same ∙ get_or-set_same places owner place 0 (omega (arith, owner_owned.was_within, h.place_count)) in
        let here : get_or places i 0 ≡ k = ap (λ (n : ℕ). get_or places n 0) same ∙ owner_owned.placed in
        record {
          within = omega (arith, at, moved.within);
          after = omega (arith, at, moved.after, is_elsewhere k i (sym same) apart);
          owned = ap (λ (n : ℕ). get_or (slice_set owners place owner) n 0) at ∙ get_or-set_same owners place owner 0 (omega (arith, moved.within, h.owner_count)) ∙ sym same;
          same = λ d. ap (λ (n : ℕ). get_or new n d) at ∙ swapped.1 d ∙ ap (λ (n : ℕ). get_or now n d) (sym here) ∙ was.same d;
        }
    moved_more i few apart was (inr other) =
        let at : get_or (slice_set places owner place) i 0 ≡ get_or places i 0 = get_or-set_other places owner i place 0 other in
        let not_here : get_or places i 0 ≢ k = λ e. other (sym was.owned ∙ ap (λ (n : ℕ). get_or owners n 0) e) in
        let not_there : get_or places i 0 ≢ place = is_elsewhere (get_or places i 0) i was.owned apart in
        record {
          within = omega (arith, at, was.within);
          after = omega (arith, at, was.after, not_here);
          owned = ap (λ (n : ℕ). get_or (slice_set owners place owner) n 0) at ∙ get_or-set_other owners place (get_or places i 0) owner 0 not_there ∙ was.owned;
          same = λ d. ap (λ (n : ℕ). get_or new n d) at ∙ swapped.2 (get_or places i 0) d not_here not_there ∙ was.same d;
        }

    owned_more : (p : ℕ) → k + 1 ≤ p → p < length old → (p ≡ place) ⊎ (p ≢ place) → IsOwned (slice_set places owner place) (slice_set owners place owner) (length old) p
    owned_more p le few (inl same) =
        let at : get_or (slice_set owners place owner) p 0 ≡ owner = ap (λ (n : ℕ). get_or (slice_set owners place owner) n 0) same ∙ get_or-set_same owners place owner 0 (omega (arith, moved.within, h.owner_count)) in
        record {
          was_within = omega (arith, at, owner_owned.was_within);
          placed = ap (λ (n : ℕ). get_or (slice_set places owner place) n 0) at ∙ get_or-set_same places owner place 0 (omega (arith, owner_owned.was_within, h.place_count)) ∙ sym same;
        }
    owned_more p le few (inr apart) =
        let at : get_or (slice_set owners place owner) p 0 ≡ get_or owners p 0 = get_or-set_other owners place p owner 0 apart in
        let was : IsOwned places owners (length old) p = h.owned p (omega (arith, le)) few in
        let other : get_or owners p 0 ≢ owner = λ e. absurd (omega (arith, le, sym was.placed ∙ ap (λ (n : ℕ). get_or places n 0) e ∙ owner_owned.placed)) in
        record {
          was_within = omega (arith, at, was.was_within);
          placed = ap (λ (n : ℕ). get_or (slice_set places owner place) n 0) at ∙ get_or-set_other places owner (get_or owners p 0) place 0 other ∙ was.placed;
        }

    all_more : length new ≡ length now → AreArranged old new order (slice_set places owner place) (slice_set owners place owner) (k + 1)
    all_more size = record {
      count = size ∙ h.count;
      place_count = length-set places owner place ∙ h.place_count;
      owner_count = length-set owners place owner ∙ h.owner_count;
      done = λ j d less. done_more j d less (cases_eq j k);
      others = λ i few apart.
          let is : i ≢ wanted = λ e. apart k (omega arith) (sym e) in
          moved_more i few is (h.others i few (λ j less. apart j (omega (arith, less)))) (cases_eq i owner);
      owned = λ p le few. owned_more p le few (cases_eq p place);
    }

  -- one more place has its element
  pub more_arranged : (p i : ℕ) → p ≡ place → i ≡ owner → SwappedAt now new k p → length new ≡ length now → AreArranged old new order (slice_set places i p) (slice_set owners p i) (k + 1)
  more_arranged p i at is swapped size = rw (at, is) (all_more (subst (SwappedAt now new k) at swapped) size)

-- with all places arranged, the elements are in order
pub all_arranged : {X : Type 0} (old now : List X) (order places owners : List ℕ) (k : ℕ) (d : X) → length order ≡ length old → k ≡ length order → AreArranged old now order places owners k → now ≡ map (λ i. get_or old i d) order
all_arranged old now order places owners k d many all h =
    ext_get_or d now (map (λ (i : ℕ). get_or old i d) order) (h.count ∙ sym many ∙ sym (length-map order (λ (i : ℕ). get_or old i d)))
    (λ j lt. h.done j d (omega (arith, lt, h.count, many, all)) ∙ sym (get_or-map (λ (i : ℕ). get_or old i d) order j 0 d (omega (arith, lt, h.count, many))))

-- the numbers below n, and n
pub one_more : (n : ℕ) → range_with_len 0 (n + 1) ≡ range_with_len 0 n ++ n ∷ []
one_more n =
    sym (map-id (range_with_len 0 (n + 1))) ∙ map-range_with_len_more (λ (i : ℕ). i) 0 n n (omega arith)
    ∙ ap (λ (l : List ℕ). l ++ n ∷ []) (map-id (range_with_len 0 n))
