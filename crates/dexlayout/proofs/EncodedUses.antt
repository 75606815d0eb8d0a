-- Items that are encoded one after the other, use by use and aligned, are those of a section.
use Rattle.dexlayout.proofs.Common.{◌≡◌, ℕ, ◌+◌, List, [], ◌∷◌, ◌++◌, length, map, Some, refl, ap, ◌∙◌, arith, All, replicate, ◌-◌, ◌%◌, flat_map, All-head, All-tail, round_up, bytes_from, ◌≤◌, Option, None, sym, append_assoc, slice_index, option_map, option_map_or, append-nil, length-append, get_or-append-add, present, own_numbers, own_items, offsets_from, end_from, length-padding, numbers_offsets, ◌<◌, get_or, drop, drop_more, drop_all, ◌^◌, subst, padding, Items, end, offsets, section, Section, ItemPlaces, AreLaidSo, none_from, pass, put_at, place_uses, put_next, place_use, EncodedItems, AreEncodedIn, AreItemsIn, AreLaidIn, no_items_from, pass_use, align_next, put_item, end_item, encode_use, encode_uses, map-map}
use Rattle.dexlayout.proofs.SharedUses.{present-map}

-- bytes without alignment are those of the items
pub bytes_plain : {X : Type 0} (f : X → List ℕ) (from : ℕ) (xs : List X) → bytes_from 1 from (map f xs) ≡ flat_map f xs
bytes_plain f from [] = refl
bytes_plain f from (x ∷ xs) =
    ap (λ n. replicate n 0 ++ (f x ++ bytes_from 1 (round_up 1 from + length (f x)) (map f xs))) {y = 0} (omega arith)
    ∙ ap (λ ys. f x ++ ys) (bytes_plain f (round_up 1 from + length (f x)) xs)

-- the same items as those that they denote
pub items_agree : {X Y : Type 0} (code : X → List ℕ) (bytes : Y → List ℕ) (meant : X → Y) (IsKnown : X → Type 0) → ((x : X) → IsKnown x → code x ≡ bytes (meant x)) → (xs : List X) → All IsKnown xs → map (λ x. Some (code x)) xs ≡ map (λ y. Some (bytes y)) (map meant xs)
items_agree code bytes meant IsKnown same [] known = refl
items_agree code bytes meant IsKnown same (x ∷ xs) known = λ i. Some (same x (All-head IsKnown x xs known) i) ∷ items_agree code bytes meant IsKnown same xs (All-tail IsKnown x xs known) i

-- ---- items of their own: going through the uses with a running end gives the offsets of the uses, and where the items end

-- how many bytes each use has, if it has an item
abbrev pub sizes : {X : Type 0} → (X → List ℕ) → List (Option X) → List (Option ℕ)
sizes f us = map (option_map (λ x. length (f x))) us

-- ---- the running places

-- they do not end before they begin
pub place_grows : (align : ℕ) (p : ItemPlaces) (us : List (Option ℕ)) → p.end ≤ (place_uses align p us).end
place_grows align p [] = omega arith
place_grows align p (None ∷ us) = place_grows align (pass p) us
place_grows align p (Some n ∷ us) = omega (arith, place_grows align (put_at p (round_up align p.end) n) us, length-padding align p.end)

-- ---- they are those of items of their own

-- the offset of a use's item, after others
abbrev offset_of : List ℕ → Option ℕ → ℕ
offset_of offs n = option_map_or (slice_index offs) n 0

module _ {X : Type 0} (f : X → List ℕ) (align : ℕ) where
  offsets_go : (us : List (Option X)) (before : List ℕ) (p : ItemPlaces) → (place_uses align p (sizes f us)).offsets ≡ p.offsets ++ map (offset_of (before ++ offsets_from align p.end (map f (present us)))) (own_numbers (length before) us)
  offsets_go [] before p = sym (append-nil p.offsets)
  offsets_go (None ∷ us) before p = offsets_go us before (pass p) ∙ append_assoc p.offsets (0 ∷ []) _
  offsets_go (Some x ∷ us) before p =
      let o = round_up align p.end in
      let next = offsets_from align (o + length (f x)) (map f (present us)) in
      let all = before ++ o ∷ next in
      let here : slice_index all (length before) ≡ o = ap (slice_index all) (omega arith) ∙ get_or-append-add before (o ∷ next) 0 0 in
      offsets_go us (before ++ o ∷ []) (put_at p o (length (f x)))
      ∙ append_assoc p.offsets (o ∷ []) _
      ∙ ap (λ os. p.offsets ++ (o ∷ map (offset_of os) (own_numbers (length (before ++ o ∷ [])) us))) (append_assoc before (o ∷ []) next)
      ∙ ap (λ n. p.offsets ++ (o ∷ map (offset_of all) (own_numbers n us))) (length-append before (o ∷ []))
      ∙ ap (λ k. p.offsets ++ (k ∷ map (offset_of all) (own_numbers (length before + 1) us))) (sym here)

  end_go : (us : List (Option X)) (p : ItemPlaces) → (place_uses align p (sizes f us)).end ≡ end_from align p.end (map f (present us))
  end_go [] p = refl
  end_go (None ∷ us) p = end_go us (pass p)
  end_go (Some x ∷ us) p = end_go us (put_at p (round_up align p.end) (length (f x)))

  -- the offsets of items that are not shared
  pub own_encoded : (from : ℕ) (us : List (Option X)) → AreLaidSo (numbers_offsets (own_items us).numbers (offsets_from align from (map f (own_items us).written))) (end_from align from (map f (own_items us).written))
      (place_uses align (none_from from) (sizes f us))
  own_encoded from us = record { offsets_are = offsets_go us [] (none_from from); end_is = end_go us (none_from from) }

-- ---- items that are placed one after the other by a loop: what is still to be placed

-- an item that is not aligned begins at the end of the one before it
pub put_plain : (p : ItemPlaces) (len : ℕ) → put_next p len ≡ place_use 1 p (Some len)
put_plain p len = let here : p.end ≡ round_up 1 p.end = omega arith in ap (λ off. put_at p off len) here

-- the next member, and those after it
pub drop_next : {X : Type 0} (xs : List X) (i : ℕ) (x : X) → i < length xs → get_or xs i x ≡ x → drop i xs ≡ x ∷ drop (i + 1) xs
drop_next xs i x lt is = drop_more xs i x lt ∙ ap (λ y. y ∷ drop (i + 1) xs) is

-- the next of those that are left
pub left_next : {X : Type 0} (align : ℕ) (size : X → Option ℕ) (p : ItemPlaces) (xs : List X) (i : ℕ) (x : X) → i < length xs → get_or xs i x ≡ x → place_uses align p (map size (drop i xs)) ≡ place_uses align (place_use align p (size x)) (map size (drop (i + 1) xs))
left_next align size p xs i x lt is = ap (λ ys. place_uses align p (map size ys)) (drop_next xs i x lt is)

-- it fits
pub left_fits : {X : Type 0} {all : ItemPlaces} (align : ℕ) (size : X → Option ℕ) (p : ItemPlaces) (xs : List X) (i : ℕ) (x : X) → i < length xs → get_or xs i x ≡ x → place_uses align p (map size (drop i xs)) ≡ all → (place_use align p (size x)).end ≤ all.end
left_fits align size p xs i x lt is maps_to = omega (arith, ap (λ (q : ItemPlaces). q.end) (sym (left_next align size p xs i x lt is) ∙ maps_to), place_grows align (place_use align p (size x)) (map size (drop (i + 1) xs)))

-- none is left
pub left_none : {X : Type 0} (align : ℕ) (size : X → Option ℕ) (p : ItemPlaces) (xs : List X) (i : ℕ) → length xs ≤ i → place_uses align p (map size (drop i xs)) ≡ p
left_none align size p xs i le = ap (λ ys. place_uses align p (map size ys)) (drop_all i xs le)

module _ {X : Type 0} (f : X → List ℕ) (align : ℕ) where
  -- how many bytes one has
  abbrev size : X → Option ℕ
  size x = Some (length (f x))

  offsets_all : (xs : List X) (p : ItemPlaces) → (place_uses align p (map size xs)).offsets ≡ p.offsets ++ offsets_from align p.end (map f xs)
  offsets_all [] p = sym (append-nil p.offsets)
  offsets_all (x ∷ xs) p = offsets_all xs (put_at p (round_up align p.end) (length (f x))) ∙ append_assoc p.offsets (round_up align p.end ∷ []) _

  end_all : (xs : List X) (p : ItemPlaces) → (place_uses align p (map size xs)).end ≡ end_from align p.end (map f xs)
  end_all [] p = refl
  end_all (x ∷ xs) p = end_all xs (put_at p (round_up align p.end) (length (f x)))

  -- the offsets of items where each use has one
  pub all_encoded : (from : ℕ) (xs : List X) → AreLaidSo (offsets_from align from (map f xs)) (end_from align from (map f xs)) (place_uses align (none_from from) (map size xs))
  all_encoded from xs = record { offsets_are = offsets_all xs (none_from from); end_is = end_all xs (none_from from) }

-- ---- one item

-- an item that is not aligned has no zeros before it
pub align_one : (p : EncodedItems) → align_next 1 p ≡ p
align_one p =
    let here : round_up 1 p.places.end ≡ p.places.end = omega arith in
    let none : (1 - p.places.end % 1) % 1 ≡ 0 = omega arith in
    let bytes = ap (λ n. p.bytes ++ replicate n 0) none ∙ append-nil p.bytes in
    λ i. record { bytes = bytes i; places = record { offsets = p.places.offsets; end = here i } }

-- what was appended to the bytes is the item
module _ {p : EncodedItems} {bytes more : List ℕ} {places : ItemPlaces} {before : ℕ} (item : List ℕ) (is : record { bytes = bytes; places = places } ≡ p) (count : before ≡ length bytes) (put : more ≡ bytes ++ item) where
  item_len : length more - before ≡ length item
  item_len = omega (arith, ap (λ (l : List ℕ). length l) put, length-append bytes item, count)

  pub begins : before ≤ length more
  begins = omega (arith, ap (λ (l : List ℕ). length l) put, length-append bytes item, count)

  pub ended : end_item before (record { bytes = more; places = places }) ≡ put_item p item
  ended = (λ i. record { bytes = put i; places = put_next places (item_len i) }) ∙ ap (λ (q : EncodedItems). put_item q item) is

  pub ended_fits : (put_item p item).places.end ≤ 2 ^ 30 → (end_item before (record { bytes = more; places = places })).places.end ≤ 2 ^ 30
  ended_fits fits = omega (arith, fits, ap (λ (q : EncodedItems). q.places.end) ended)

-- ---- the next of the uses that are left

module _ (align : ℕ) where
  -- they do not end before they begin
  encode_grows : (p : EncodedItems) (us : List (Option (List ℕ))) → p.places.end ≤ (encode_uses align p us).places.end
  encode_grows p [] = omega arith
  encode_grows p (None ∷ us) = encode_grows (pass_use p) us
  encode_grows p (Some x ∷ us) = omega (arith, encode_grows (put_item (align_next align p) x) us, length-padding align p.places.end)

  -- one is the next
  module _ {all : EncodedItems} {left rest : List (Option (List ℕ))} {u : Option (List ℕ)} (p : EncodedItems) (next : left ≡ u ∷ rest) (whole : encode_uses align p left ≡ all) where
    use_then : encode_uses align (encode_use align p u) rest ≡ all
    use_then = sym (ap (encode_uses align p) next) ∙ whole

    pub use_fits : (encode_use align p u).places.end ≤ all.places.end
    use_fits = omega (arith, ap (λ (q : EncodedItems). q.places.end) use_then, encode_grows (encode_use align p u) rest)

    pub use_encoded : {more : EncodedItems} → more ≡ encode_use align p u → encode_uses align more rest ≡ all
    use_encoded is = ap (λ q. encode_uses align q rest) is ∙ use_then

  -- none is left
  pub all_encoded_by : {p all : EncodedItems} {left : List (Option (List ℕ))} → left ≡ [] → encode_uses align p left ≡ all → p ≡ all
  all_encoded_by {p} none whole = ap (encode_uses align p) (sym none) ∙ whole

-- ---- the item of one use, wherever the items before it are

-- its end depends on theirs alone
pub use_ends : (align : ℕ) (p q : EncodedItems) (u : Option (List ℕ)) → p.places.end ≡ q.places.end → (encode_use align p u).places.end ≡ (encode_use align q u).places.end
use_ends align p q None e = e
use_ends align p q (Some x) e = ap (λ n. round_up align n + length x) e

-- its offset depends on their places alone
pub use_places : (align : ℕ) (p q : EncodedItems) (u : Option (List ℕ)) → p.places ≡ q.places → (encode_use align p u).places ≡ (encode_use align q u).places
use_places align p q None e = ap pass e
use_places align p q (Some x) e = ap (λ (o : ItemPlaces). put_at o (round_up align o.end) (length x)) e

-- its bytes are after theirs
pub use_bytes : (align at : ℕ) (p : EncodedItems) (u : Option (List ℕ)) → p.places.end ≡ at → (encode_use align p u).bytes ≡ p.bytes ++ (encode_use align (no_items_from at) u).bytes
use_bytes align at p None e = sym (append-nil p.bytes)
use_bytes align at p (Some x) e = append_assoc p.bytes (padding align p.places.end) x ∙ ap (λ n. p.bytes ++ (padding align n ++ x)) e

-- items that were given to an output: where they end, and their bytes
pub record IsGiven {O : Type 0} (gives : List ℕ → O → O → Type 0) (start : O) (at : ℕ) (now : O) (items : EncodedItems) : Type 0 where
  pub ends : items.places.end ≡ at
  pub given : gives items.bytes start now

-- one more
pub given_next : {O : Type 0} {gives : List ℕ → O → O → Type 0} {start now next : O} {at end : ℕ} (u : Option (List ℕ)) → ((x y : List ℕ) (a b c : O) → gives x a b → gives y b c → gives (x ++ y) a c) → end ≡ (encode_use 4 (no_items_from at) u).places.end
    → gives (encode_use 4 (no_items_from at) u).bytes now next → (items : EncodedItems) → IsGiven gives start at now items → IsGiven gives start end next (encode_use 4 items u)
given_next {gives = gives} {start} {now} {next} {at} {end} u both is more items h = record {
  ends = use_ends 4 items (no_items_from at) u h.ends ∙ sym is;
  given = subst (λ bytes. gives bytes start next) (sym (use_bytes 4 at items u h.ends)) (both items.bytes (encode_use 4 (no_items_from at) u).bytes start now next h.given more);
}

-- ---- they are those of a section

-- how many bytes the item of a use has, if it has one
abbrev lens : List (Option (List ℕ)) → List (Option ℕ)
lens us = map (option_map (λ (x : List ℕ). length x)) us

module _ (align : ℕ) where
  -- the offsets
  encoded_places : (p : EncodedItems) (us : List (Option (List ℕ))) → (encode_uses align p us).places ≡ place_uses align p.places (lens us)
  encoded_places p [] = refl
  encoded_places p (None ∷ us) = encoded_places (pass_use p) us
  encoded_places p (Some x ∷ us) = encoded_places (put_item (align_next align p) x) us

  -- the bytes
  encoded_bytes : (p : EncodedItems) (us : List (Option (List ℕ))) → (encode_uses align p us).bytes ≡ p.bytes ++ bytes_from align p.places.end (present us)
  encoded_bytes p [] = sym (append-nil p.bytes)
  encoded_bytes p (None ∷ us) = encoded_bytes (pass_use p) us
  encoded_bytes p (Some x ∷ us) =
      let rest = bytes_from align (round_up align p.places.end + length x) (present us) in
      encoded_bytes (put_item (align_next align p) x) us ∙ append_assoc (p.bytes ++ (padding align p.places.end)) x rest ∙ append_assoc p.bytes (padding align p.places.end) (x ++ rest)

  module _ {X : Type 0} (f : X → List ℕ) where
    -- items that all uses have
    all_present : (xs : List X) → present (map (λ x. Some (f x)) xs) ≡ map f xs
    all_present [] = refl
    all_present (x ∷ xs) = ap (λ ys. f x ∷ ys) (all_present xs)

    all_lens : (xs : List X) → lens (map (λ x. Some (f x)) xs) ≡ map (λ x. Some (length (f x))) xs
    all_lens xs = map-map (option_map (λ (x : List ℕ). length x)) (λ x. Some (f x)) xs

    pub all_in : {from start : ℕ} {items : List (Option (List ℕ))} (kind : Section) (its : Items X) → from ≡ start → items ≡ map (λ x. Some (f x)) its.written → AreItemsIn (section kind align start f its) (encode_uses align (no_items_from from) items)
    all_in {from} {start} {items} kind its here are =
        let S = section kind align start f its in
        let us = map (λ x. Some (f x)) its.written in
        subst (AreItemsIn S) (λ i. encode_uses align (no_items_from (sym here i)) (sym are i)) (record {
          bytes_are = encoded_bytes (no_items_from start) us ∙ ap (bytes_from align start) (all_present its.written);
          places_are = subst (AreLaidSo (offsets S) (end S)) (sym (encoded_places (no_items_from start) us ∙ ap (place_uses align (none_from start)) (all_lens its.written))) (all_encoded f align start its.written);
        })

    -- those that some uses have
    own_lens : (us : List (Option X)) → lens (map (option_map f) us) ≡ sizes f us
    own_lens [] = refl
    own_lens (None ∷ us) = ap (λ (ns : List (Option ℕ)). None ∷ ns) (own_lens us)
    own_lens (Some x ∷ us) = ap (λ (ns : List (Option ℕ)). Some (length (f x)) ∷ ns) (own_lens us)

    pub own_in : {from start : ℕ} {items : List (Option (List ℕ))} (kind : Section) (uses : List (Option X)) → from ≡ start → items ≡ map (option_map f) uses → AreEncodedIn (section kind align start f (own_items uses)) (encode_uses align (no_items_from from) items)
    own_in {from} {start} {items} kind uses here are =
        let S = section kind align start f (own_items uses) in
        let us = map (option_map f) uses in
        subst (AreEncodedIn S) (λ i. encode_uses align (no_items_from (sym here i)) (sym are i)) (record {
          bytes_are = encoded_bytes (no_items_from start) us ∙ ap (bytes_from align start) (present-map f uses);
          places_are = subst (AreLaidIn S) (sym (encoded_places (no_items_from start) us ∙ ap (place_uses align (none_from start)) (own_lens uses))) (own_encoded f align start uses);
        })

-- items as they are
pub own_same : (us : List (Option (List ℕ))) → map (option_map (λ x. x)) us ≡ us
own_same [] = refl
own_same (None ∷ us) = ap (λ (vs : List (Option (List ℕ))). None ∷ vs) (own_same us)
own_same (Some x ∷ us) = ap (λ (vs : List (Option (List ℕ))). Some x ∷ vs) (own_same us)
