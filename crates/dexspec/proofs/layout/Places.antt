-- Items that follow one another in a section, and sections that follow one another.
use Rattle.dexspec.proofs.Common.{◌≡◌, ◌⊎◌, ℕ, zero, suc, ◌+◌, ◌-◌, ◌%◌, ◌<◌, ◌≤◌, List, [], ◌∷◌, ◌++◌, length, get_or, refl, ap, ◌∙◌, arith, inl, inr, flat_map, All, slice_index, length-append, length-replicate, All-head, All-tail}
use Rattle.dexspec.specs.{BytesAt, round_up, padding, Placed, offsets_from, end_from, bytes_from, end, section_bytes}
use Rattle.dexspec.proofs.written.PlacedBytes.{is_at_first, is_at_whole, is_at_later, is_at_in, is_at}

-- ---- alignment

-- the zeros reach up to the multiple
pub length-padding : (align at : ℕ) → at + length (padding align at) ≡ round_up align at
length-padding align at = ap (λ n. at + n) (length-replicate ((align - at % align) % align) 0)

-- a section is aligned to 4 bytes or not at all
abbrev pub IsAlign : ℕ → Type 0
IsAlign align = (align ≡ 4) ⊎ (align ≡ 1)

-- a number that is rounded up to 4 is a multiple of 4
pub round_up_four : (at : ℕ) → round_up 4 at % 4 ≡ 0
round_up_four at = omega arith

-- a number that is rounded up is a multiple
pub round_up_aligned : (align at : ℕ) → IsAlign align → round_up align at % align ≡ 0
round_up_aligned align at (inl e) = rw e (round_up_four at)
round_up_aligned align at (inr e) = rw e (omega arith)

-- ---- the items of a section

-- there are as many offsets as items
pub length-offsets_from : (align from : ℕ) (xs : List (List ℕ)) → length (offsets_from align from xs) ≡ length xs
length-offsets_from align from [] = refl
length-offsets_from align from (x ∷ xs) = ap suc (length-offsets_from align (round_up align from + length x) xs)

-- the bytes reach to the end
pub length-bytes_from : (align from : ℕ) (xs : List (List ℕ)) → from + length (bytes_from align from xs) ≡ end_from align from xs
length-bytes_from align from [] = omega arith
length-bytes_from align from (x ∷ xs) =
    let next = round_up align from + length x in
    let rest = bytes_from align next xs in
    let joined : from + (length (padding align from) + (length x + length rest)) ≡ next + length rest = omega (arith, length-padding align from) in
    ap (λ n. from + n) (length-append (padding align from) (x ++ rest) ∙ ap (λ n. length (padding align from) + n) (length-append x rest))
    ∙ joined ∙ length-bytes_from align next xs

-- a section does not end before it begins
pub end_from_le : (align from : ℕ) (xs : List (List ℕ)) → from ≤ end_from align from xs
end_from_le align from xs = omega (arith, length-bytes_from align from xs)

-- each item is at its offset
pub items_are_at : {b : List ℕ} (align from : ℕ) (xs : List (List ℕ)) (i : ℕ) (d : List ℕ) → BytesAt b from (bytes_from align from xs) → i < length xs
    → BytesAt b (slice_index (offsets_from align from xs) i) (get_or xs i d)
items_are_at align from [] i d h lt = absurd (omega arith)
items_are_at align from (x ∷ xs) zero d h lt =
    let rest = bytes_from align (round_up align from + length x) xs in
    let at : from + (length (padding align from) + 0) ≡ round_up align from = omega (arith, length-padding align from) in
    is_at at (is_at_in h (is_at_later (padding align from) (is_at_first x rest)))
items_are_at align from (x ∷ xs) (suc i) d h lt =
    let next = round_up align from + length x in
    let rest = bytes_from align next xs in
    let at : from + (length (padding align from) + (length x + 0)) ≡ next = omega (arith, length-padding align from) in
    items_are_at align next xs i d (is_at at (is_at_in h (is_at_later (padding align from) (is_at_later x (is_at_whole rest))))) (omega arith)

-- the offset of an item: a multiple of the alignment, between the section's ends
pub record IsWithin (align from : ℕ) (last off size : ℕ) : Type 0 where
  pub following : from ≤ off
  pub before : off + size ≤ last
  pub multiple : off % align ≡ 0

-- each item has such an offset
pub items_within : (align from : ℕ) (xs : List (List ℕ)) (i : ℕ) (d : List ℕ) → IsAlign align → i < length xs
    → IsWithin align from (end_from align from xs) (slice_index (offsets_from align from xs) i) (length (get_or xs i d))
items_within align from [] i d is lt = absurd (omega arith)
items_within align from (x ∷ xs) zero d is lt =
    let after : round_up align from + length x ≤ end_from align (round_up align from + length x) xs = end_from_le align (round_up align from + length x) xs in
    record { following = omega (arith, length-padding align from); before = after; multiple = round_up_aligned align from is }
items_within align from (x ∷ xs) (suc i) d is lt =
    let h = items_within align (round_up align from + length x) xs i d is (omega arith) in
    record { following = omega (arith, length-padding align from, h.following); before = h.before; multiple = h.multiple }

-- if each item has bytes, there are at most as many items as bytes
pub items_few : (align from : ℕ) (xs : List (List ℕ)) → All (λ x. 0 < length x) xs → from + length xs ≤ end_from align from xs
items_few align from [] some = omega arith
items_few align from (x ∷ xs) some =
    let rest : (round_up align from + length x) + length xs ≤ end_from align (round_up align from + length x) xs =
    items_few align (round_up align from + length x) xs (All-tail (λ x. 0 < length x) x xs some) in
    let here : 0 < length x = All-head (λ x. 0 < length x) x xs some in
    omega (arith, length-padding align from, rest, here)

-- ---- items after others

-- ---- sections

-- each section begins at the end of the one before it, the first begins at the first offset, and the last ends at the
-- last offset
abbrev pub FollowFrom : ℕ → List Placed → ℕ → Type 0
FollowFrom at [] last = at ≡ last
FollowFrom at (p ∷ ps) last = (p.from ≡ at) × FollowFrom (end p) ps last

-- the bytes of all sections reach to the last end
pub length-sections : (at : ℕ) (ps : List Placed) (last : ℕ) → FollowFrom at ps last → at + length (flat_map section_bytes ps) ≡ last
length-sections at [] last h = omega (arith, h)
length-sections at (p ∷ ps) last h =
    let rest = length-sections (end p) ps last h.1 in
    let here : p.from + length (section_bytes p) ≡ end p = length-bytes_from p.align p.from p.items in
    omega (arith, length-append (section_bytes p) (flat_map section_bytes ps), rest, here, h.0)

-- each section is at its offset
pub sections_are_at : {b : List ℕ} (at : ℕ) (ps : List Placed) (last : ℕ) (j : ℕ) (d : Placed) → FollowFrom at ps last → BytesAt b at (flat_map section_bytes ps) → j < length ps
    → BytesAt b (get_or ps j d).from (section_bytes (get_or ps j d))
sections_are_at at [] last j d h s lt = absurd (omega arith)
sections_are_at at (p ∷ ps) last zero d h s lt = is_at (omega (arith, h.0)) (is_at_in s (is_at_first (section_bytes p) (flat_map section_bytes ps)))
sections_are_at at (p ∷ ps) last (suc j) d h s lt =
    let here : p.from + length (section_bytes p) ≡ end p = length-bytes_from p.align p.from p.items in
    sections_are_at (end p) ps last j d h.1 (is_at (omega (arith, here, h.0)) (is_at_in s (is_at_later (section_bytes p) (is_at_whole (flat_map section_bytes ps))))) (omega arith)

-- the last end is at or after each section's end
pub last_end : (at : ℕ) (ps : List Placed) (last : ℕ) → FollowFrom at ps last → at ≤ last
last_end at ps last h = omega (arith, length-sections at ps last h)

-- each section is between the first offset and the last end
pub sections_between : (at : ℕ) (ps : List Placed) (last : ℕ) (j : ℕ) (d : Placed) → FollowFrom at ps last → j < length ps → (at ≤ (get_or ps j d).from) × (end (get_or ps j d) ≤ last)
sections_between at [] last j d h lt = absurd (omega arith)
sections_between at (p ∷ ps) last zero d h lt = (omega (arith, h.0), last_end (end p) ps last h.1)
sections_between at (p ∷ ps) last (suc j) d h lt =
    let rest = sections_between (end p) ps last j d h.1 (omega arith) in
    let here : p.from ≤ end p = end_from_le p.align p.from p.items in
    (omega (arith, here, h.0, rest.0), rest.1)
