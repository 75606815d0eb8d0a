-- Where the annotations of a set begin.
use Rattle.dexval.proofs.Common.{◌≡◌, All, ℕ, zero, suc, ◌+◌, ◌*◌, ◌^◌, ◌<◌, ◌≤◌, List, [], ◌∷◌, ◌++◌, get_or, length, length-take, take, map, sum_by, refl, sym, ap, ◌∙◌, subst, arith, Result, Vec, sum_by-cons, length-append, length-map, take-map, take_all, take_more, map-append, append-nil, flat_map-append, flat_map, uint, round_up, uleb128, offsets_bytes-size, AnnotationSet, Mentions, annotation_bytes, offsets_bytes, Puts, AreRising, Annotation, annotation_of, NumberedAnnotation, NumberedSet, IsKnownSet, annotation_in, set_in, DenotesSet, elements_count, count_bytes, numbered_elements_bytes, numbered_annotation_bytes, numbered_offsets, numbered_set_bytes, numbered_annotation_weight, numbered_set_weight}
use Rattle.dexspec.specs.Placing.{offsets_from, end_from}
use Rattle.dexspec.proofs.layout.Places.{length-offsets_from}
use Rattle.dexspec.proofs.numbers.Spellings.{uleb128_bounds}
use Rattle.dexval.proofs.Spelling.{annotation_lengths_are}

-- ---- items in sequence

pub here : (at : ℕ) → round_up 1 at ≡ at
here at = omega arith

-- one more item has one more offset
offsets_after : (from : ℕ) (xs : List (List ℕ)) (x : List ℕ) → offsets_from 1 from (xs ++ x ∷ []) ≡ offsets_from 1 from xs ++ end_from 1 from xs ∷ []
offsets_after from [] x = ap (λ (n : ℕ). n ∷ []) (here from)
offsets_after from (y ∷ ys) x = ap (λ (l : List ℕ). round_up 1 from ∷ l) (offsets_after (round_up 1 from + length y) ys x)

-- and moves the end by its length
end_after : (from : ℕ) (xs : List (List ℕ)) (x : List ℕ) → end_from 1 from (xs ++ x ∷ []) ≡ end_from 1 from xs + length x
end_after from [] x = ap (λ (n : ℕ). n + length x) (here from)
end_after from (y ∷ ys) x = end_after (round_up 1 from + length y) ys x

-- an item begins at the end of the items before it
offset_at : (from i : ℕ) (xs : List (List ℕ)) → i < length xs → get_or (offsets_from 1 from xs) i 0 ≡ end_from 1 from (take i xs)
offset_at from i [] lt = absurd (omega arith)
offset_at from zero (x ∷ xs) lt = here from
offset_at from (suc i) (x ∷ xs) lt = offset_at (round_up 1 from + length x) i xs (omega arith)

-- ---- annotations in sequence

-- the annotation_items of annotations of the code
abbrev pub items_of : List Annotation → List (List ℕ)
items_of xs = map numbered_annotation_bytes (map annotation_of xs)

-- the end of the items
abbrev pub end_of : ℕ → List Annotation → ℕ
end_of first xs = end_from 1 first (items_of xs)

-- their offsets as bytes
abbrev pub offsets_spelled : ℕ → List Annotation → List ℕ
offsets_spelled first xs = flat_map uint (numbered_offsets first (map annotation_of xs))

one_item : (xs : List Annotation) (i : ℕ) (d : Annotation) → i < length xs → d ≡ get_or xs i d → items_of (take (i + 1) xs) ≡ items_of (take i xs) ++ numbered_annotation_bytes (annotation_of d) ∷ []
one_item xs i d lt e =
    ap items_of (take_more xs i d lt ∙ ap (λ (x : Annotation). take i xs ++ x ∷ []) (sym e)) ∙ ap (map numbered_annotation_bytes) (map-append annotation_of (take i xs) (d ∷ []))
    ∙ map-append numbered_annotation_bytes (map annotation_of (take i xs)) (annotation_of d ∷ [])

-- one more annotation has one more offset
pub one_offset : (first : ℕ) (xs : List Annotation) (i : ℕ) (d : Annotation) → i < length xs → d ≡ get_or xs i d → offsets_spelled first (take (i + 1) xs) ≡ offsets_spelled first (take i xs) ++ uint (end_of first (take i xs))
one_offset first xs i d lt e =
    let before = items_of (take i xs) in
    ap (λ (l : List (List ℕ)). flat_map uint (offsets_from 1 first l)) (one_item xs i d lt e) ∙ ap (λ (l : List ℕ). flat_map uint l) (offsets_after first before (numbered_annotation_bytes (annotation_of d)))
    ∙ flat_map-append uint (offsets_from 1 first before) (end_from 1 first before ∷ []) ∙ ap (λ (l : List ℕ). flat_map uint (offsets_from 1 first before) ++ l) (append-nil (uint (end_from 1 first before)))

-- and moves the end by its length
pub next_offset : (first : ℕ) (xs : List Annotation) (i : ℕ) (d : Annotation) → i < length xs → d ≡ get_or xs i d → end_of first (take (i + 1) xs) ≡ end_of first (take i xs) + length (numbered_annotation_bytes (annotation_of d))
next_offset first xs i d lt e = ap (λ (l : List (List ℕ)). end_from 1 first l) (one_item xs i d lt e) ∙ end_after first (items_of (take i xs)) (numbered_annotation_bytes (annotation_of d))

-- if all offsets are below 2 ^ 32, so is the end of the items before one of them
pub offset_fits : (first : ℕ) (xs : List Annotation) (i : ℕ) → i < length xs → All (λ n. n < 2 ^ 32) (numbered_offsets first (map annotation_of xs)) → end_of first (take i xs) < 2 ^ 32
offset_fits first xs i lt all =
    let count : length (items_of xs) ≡ length xs = length-map (map annotation_of xs) numbered_annotation_bytes ∙ length-map xs annotation_of in
    let items : take i (items_of xs) ≡ items_of (take i xs) = take-map numbered_annotation_bytes i (map annotation_of xs) ∙ ap (map numbered_annotation_bytes) (take-map annotation_of i xs) in
    subst (λ (n : ℕ). n < 2 ^ 32) (offset_at first i (items_of xs) (omega (arith, lt, count)) ∙ ap (λ (l : List (List ℕ)). end_from 1 first l) items) (all i 0 (omega (arith, lt, count, length-offsets_from 1 first (items_of xs))))

-- an annotation_item has at least two bytes
two_bytes : (a : NumberedAnnotation) → 2 ≤ length (numbered_annotation_bytes a)
two_bytes a = omega (arith, length-append (uleb128 a.type) (count_bytes (elements_count a.elements) ++ numbered_elements_bytes a.elements), (uleb128_bounds a.type).0)

far : (from : ℕ) (s : NumberedSet) → from + 2 * length s ≤ end_from 1 from (map numbered_annotation_bytes s)
far from [] = omega arith
far from (a ∷ s) = omega (arith, two_bytes a, here from, far (round_up 1 from + length (numbered_annotation_bytes a)) s)

-- so there are fewer than 2 ^ 32 annotations
pub annotations_few : (first : ℕ) (xs : List Annotation) → All (λ n. n < 2 ^ 32) (numbered_offsets first (map annotation_of xs)) → length xs < 2 ^ 31 + 1
annotations_few first [] all = omega arith
annotations_few first (x ∷ xs) all =
    let last : length xs < length (x ∷ xs) = omega arith in
    let cut : length (take (length xs) (x ∷ xs)) ≡ length xs = omega (arith, length-take {A = Annotation}) in
    omega (arith, offset_fits first (x ∷ xs) (length xs) last all, far first (map annotation_of (take (length xs) (x ∷ xs))), length-map (take (length xs) (x ∷ xs)) annotation_of, cut)

-- all offsets
pub offsets_end : (first : ℕ) (xs : List Annotation) (i : ℕ) → length xs ≤ i → offsets_spelled first (take i xs) ≡ offsets_spelled first xs
offsets_end first xs i end = ap (offsets_spelled first) (take_all i xs end)

-- ---- the item of a set

-- the item has four bytes, and four for each annotation
pub set_size : (first : ℕ) (s : NumberedSet) → length (numbered_set_bytes first s) ≡ 4 + 4 * length s
set_size first s = omega (arith, offsets_bytes-size (numbered_offsets first s), length-offsets_from 1 first (map numbered_annotation_bytes s), length-map s numbered_annotation_bytes)

-- it begins with the number of annotations
pub set_begins : (first : ℕ) (xs : List Annotation) → uint (length xs) ++ offsets_spelled first xs ≡ numbered_set_bytes first (map annotation_of xs)
set_begins first xs = ap (λ (n : ℕ). uint n ++ offsets_spelled first xs) (sym (length-offsets_from 1 first (items_of xs) ∙ length-map (map annotation_of xs) numbered_annotation_bytes ∙ length-map xs annotation_of))

heavy : (s : NumberedSet) → 4 * length s ≤ sum_by (λ (a : NumberedAnnotation). 4 + numbered_annotation_weight a) s
heavy [] = omega arith
heavy (a ∷ s) = omega (arith, sum_by-cons (λ (x : NumberedAnnotation). 4 + numbered_annotation_weight x) a s, heavy s)

-- if the set has an annotation, the item has at most as many bytes as the set weighs
pub set_size_is : (first : ℕ) (s : NumberedSet) → 0 < length s → length (numbered_set_bytes first s) ≤ numbered_set_weight s
set_size_is first [] some = absurd (omega arith)
set_size_is first (a ∷ s) some = omega (arith, set_size first (a ∷ s), heavy (a ∷ s))

-- the offsets are those of the set that the numbers denote
offsets_are : (m : Mentions) (from : ℕ) (s : NumberedSet) → AreRising m → IsKnownSet m s → numbered_offsets from s ≡ offsets_from 1 from (map (annotation_bytes m) (set_in m s))
offsets_are m from [] rising known = refl
offsets_are m from (a ∷ s) rising known =
    let rest = offsets_are m (round_up 1 from + length (annotation_bytes m (annotation_in m a))) s rising (λ i d lt. known (suc i) d (omega (arith, lt))) in
    ap (λ (l : List ℕ). round_up 1 from ∷ l) (ap (λ (n : ℕ). numbered_offsets (round_up 1 from + n) s) (annotation_lengths_are m a (annotation_in m a) rising (record { known = known 0 a (omega arith); means = refl })) ∙ rest)

-- the set that the numbers denote
pub set_put_is : {T E : Type 0} {u w : Vec ℕ} {r : Result T E} (m : Mentions) (first : ℕ) (x : NumberedSet) → AreRising m → Puts (numbered_set_bytes first x) u w r → (s : AnnotationSet) → DenotesSet m x s
    → Puts (offsets_bytes (offsets_from 1 first (map (annotation_bytes m) s))) u w r
set_put_is {u = u} {w = w} {r = r} m first x rising h s encodes =
    subst (λ (l : List ℕ). Puts l u w r) (ap (λ (l : List ℕ). offsets_bytes l) (offsets_are m first x rising encodes.known ∙ ap (λ (l : AnnotationSet). offsets_from 1 first (map (annotation_bytes m) l)) encodes.means)) h
