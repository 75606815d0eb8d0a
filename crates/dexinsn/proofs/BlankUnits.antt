-- The units of pieces with zeros for the numbers, one by one.
use Rattle.dexinsn.proofs.Common.{and_second, false_from_ne_true, ◌≡◌, ℕ, zero, suc, ◌+◌, ◌-◌, ◌<◌, ◌≤◌, ◌==◌, ◌&&◌, ◌||◌, Bool, true, false, cond, List, [], ◌∷◌, ◌++◌, length, drop, take, map, get_or, slice_index, slice_set, Option, Some, None, inl, inr, refl, ap, sym, ◌∙◌, subst, arith, eq-eqb, ne_eqb, length-drop, Any, flat_map, list_any, IsNonDecreasingBy, cases_eq, cases_lt, get_or-take, get_or-drop, get_or_append_left, get_or-append_right, length-take-le, list_any_at, Any-from_list_any, Pool, index_pool, is_payload_ident, is_wide_index, with_index, Index, Instruction, numbered_units, IsCountBefore, Rise, blank_units, covers, AreStored, Follow, after_index, cuts_in, index_units, left_by, parts_in, piece_with, pieces_with, spelled_from, Payload}
use Rattle.dexinsn.proofs.PutUnits.{follow_within, spelled_all, stored_follow}
use Rattle.dexinsn.proofs.StartBits.{same_test}
use Rattle.dexinsn.proofs.StoredRead.{any_default, first_kept, same_wide}

abbrev zeroed : List Index → List Index
zeroed is = map (λ x. record { unit = x.unit; number = 0 }) is

-- ---- the pieces with zeros

zero_twice : (w : Bool) (xs : List ℕ) → cond w (slice_set (slice_set (cond w (slice_set (slice_set xs 1 0) 2 0) (slice_set xs 1 0)) 1 0) 2 0) (slice_set (cond w (slice_set (slice_set xs 1 0) 2 0) (slice_set xs 1 0)) 1 0) ≡ cond w (slice_set (slice_set xs 1 0) 2 0) (slice_set xs 1 0)
zero_twice true [] = refl
zero_twice true (a ∷ []) = refl
zero_twice true (a ∷ b ∷ []) = refl
zero_twice true (a ∷ b ∷ c ∷ xs) = refl
zero_twice false [] = refl
zero_twice false (a ∷ []) = refl
zero_twice false (a ∷ b ∷ xs) = refl

zero_again : (xs : List ℕ) → with_index 0 (with_index 0 xs) ≡ with_index 0 xs
zero_again xs = ap (λ (w : Bool). cond w (slice_set (slice_set (with_index 0 xs) 1 0) 2 0) (slice_set (with_index 0 xs) 1 0)) (same_wide (with_index 0 xs) xs (first_kept 0 xs)) ∙ zero_twice (is_wide_index xs) xs

plain_blank : (t : Bool) (xs : List ℕ) → blank_units (cond t (Payload xs) (Instruction xs None)) ≡ numbered_units (cond t (Payload xs) (Instruction xs None))
plain_blank true xs = refl
plain_blank false xs = refl

piece_blank : (o : Option Pool) (xs : List ℕ) (is : List Index) → blank_units (piece_with o xs is) ≡ numbered_units (piece_with o xs (zeroed is))
piece_blank None xs is = plain_blank (is_payload_ident (slice_index xs 0)) xs
piece_blank (Some pool) xs [] = refl
piece_blank (Some pool) xs (i ∷ is) = sym (zero_again xs)

left_zeroed : (o : Option Pool) (is : List Index) → zeroed (left_by o is) ≡ left_by o (zeroed is)
left_zeroed None is = refl
left_zeroed (Some pool) [] = refl
left_zeroed (Some pool) (i ∷ is) = refl

all_blank : (parts : List (List ℕ)) (is : List Index) → flat_map blank_units (pieces_with parts is) ≡ flat_map numbered_units (pieces_with parts (zeroed is))
all_blank [] is = refl
all_blank (xs ∷ parts) is =
    ap (λ (ys : List ℕ). ys ++ flat_map blank_units (pieces_with parts (left_by (index_pool xs) is))) (piece_blank (index_pool xs) xs is)
    ∙ ap (λ (ys : List ℕ). numbered_units (piece_with (index_pool xs) xs (zeroed is)) ++ ys) (all_blank parts (left_by (index_pool xs) is) ∙ ap (λ (js : List Index). flat_map numbered_units (pieces_with parts js)) (left_zeroed (index_pool xs) is))

same_places : (is : List Index) → map (λ (i : Index). i.unit) (zeroed is) ≡ map (λ (i : Index). i.unit) is
same_places [] = refl
same_places (i ∷ is) = ap (λ (ks : List ℕ). i.unit ∷ ks) (same_places is)

-- ---- the units of an index

-- the units between its start and what is after it
covers_within : (us : List ℕ) (i : ℕ) (x : Index) → covers us i x ≡ true → (x.unit < i) × (i < after_index (is_wide_index (drop x.unit us)) x.unit)
covers_within us i x e = elim (cases_eq i (x.unit + 1)) [
  | inl first ↦ one_after (is_wide_index (drop x.unit us)) first
  | inr later ↦ elim (cases_eq i (x.unit + 2)) [
    | inl second ↦
        (omega (arith, second), subst (λ (w : Bool). i < after_index w x.unit) (sym (and_second (i == x.unit + 2) (is_wide_index (drop x.unit us)) (rw (ne_eqb i (x.unit + 1) later) at e))) (omega (arith, second)))
    | inr other ↦ absurd (let none = rw (ne_eqb i (x.unit + 1) later, ne_eqb i (x.unit + 2) other) at e in cc)
  ]
]
  where
    one_after : (w : Bool) → i ≡ x.unit + 1 → (x.unit < i) × (i < after_index w x.unit)
    one_after true first = (omega (arith, first), omega (arith, first))
    one_after false first = (omega (arith, first), omega (arith, first))

or_true : (a : Bool) → (a || true) ≡ true
or_true true = refl
or_true false = refl

within_covers : (us : List ℕ) (i : ℕ) (x : Index) → x.unit < i → i < after_index (is_wide_index (drop x.unit us)) x.unit → covers us i x ≡ true
within_covers us i x more below = by_width (is_wide_index (drop x.unit us)) below
  where
    by_width : (w : Bool) → i < after_index w x.unit → ((i == x.unit + 1) || ((i == x.unit + 2) && w)) ≡ true
    by_width false le = ap (λ (b : Bool). b || ((i == x.unit + 2) && false)) (eq-eqb i (x.unit + 1) (omega (arith, le, more)))
    by_width true le = elim (cases_eq i (x.unit + 1)) [
      | inl first ↦ ap (λ (b : Bool). b || ((i == x.unit + 2) && true)) (eq-eqb i (x.unit + 1) first)
      | inr later ↦ ap (λ (b : Bool). (i == x.unit + 1) || (b && true)) (eq-eqb i (x.unit + 2) (omega (arith, le, more, later))) ∙ or_true (i == x.unit + 1)
    ]

-- ---- the order

after_is_more : (w : Bool) (unit : ℕ) → unit < after_index w unit
after_is_more true unit = omega arith
after_is_more false unit = omega arith

follow_after : (us : List ℕ) (from : ℕ) (is : List Index) (l : ℕ) (d : Index) → Follow us from is → l < length is → from ≤ (get_or is l d).unit
follow_after us from [] l d h lt = absurd (omega (arith, lt))
follow_after us from (x ∷ is) zero d h lt = h.0
follow_after us from (x ∷ is) (suc l) d h lt =
    omega (arith, h.0, (follow_after us (after_index (is_wide_index (drop x.unit us)) x.unit) is l d h.1 (omega (arith, lt))), after_is_more (is_wide_index (drop x.unit us)) x.unit)

follow_order : (us : List ℕ) (from : ℕ) (is : List Index) (j l : ℕ) (d : Index) → Follow us from is → j < l → l < length is → after_index (is_wide_index (drop (get_or is j d).unit us)) (get_or is j d).unit ≤ (get_or is l d).unit
follow_order us from [] j l d h less lt = absurd (omega (arith, lt))
follow_order us from (x ∷ is) j zero d h less lt = absurd (omega (arith, less))
follow_order us from (x ∷ is) zero (suc l) d h less lt = follow_after us (after_index (is_wide_index (drop x.unit us)) x.unit) is l d h.1 (omega (arith, lt))
follow_order us from (x ∷ is) (suc j) (suc l) d h less lt = follow_order us (after_index (is_wide_index (drop x.unit us)) x.unit) is j l d h.1 (omega (arith, less)) (omega (arith, lt))

pub stored_rise : (us : List ℕ) (is : List Index) → AreStored us is → Rise is
stored_rise us is s = λ i j d less lt.
    omega (arith, follow_order us 0 is i j d (stored_follow us is s) less lt, after_is_more (is_wide_index (drop (get_or is i d).unit us)) (get_or is i d).unit)

-- they rise by their units
pub rise_by_unit : (is : List Index) → Rise is → IsNonDecreasingBy (λ (x : Index). x.unit) is
rise_by_unit is rise i j d le lt = elim (cases_eq i j) [
  | inl same ↦ subst (λ (k : ℕ). (get_or is i d).unit ≤ (get_or is k d).unit) same (omega arith)
  | inr other ↦ let less : (get_or is i d).unit < (get_or is j d).unit = rise i j d (omega (arith, le, other)) lt in omega (arith, less)
]

-- ---- whether a unit is one of an index

pub none_covers : (us : List ℕ) (is : List Index) (i : ℕ) → IsCountBefore is i 0 → false ≡ list_any (covers us i) is
none_covers us is i h = sym (false_from_ne_true (list_any (covers us i) is) (λ e.
    let found : Any (λ (x : Index). covers us i x ≡ true) is = Any-from_list_any (covers us i) is e in
    omega (arith, (covers_within us i found.1 found.4).0, subst (λ (x : Index). i ≤ x.unit) found.3 (h.after found.0 found.1 (omega arith) found.2))))

pub last_covers : (us : List ℕ) (is : List Index) (i k : ℕ) (d : Index) → AreStored us is → IsCountBefore is i (k + 1) → covers us i (get_or is k d) ≡ list_any (covers us i) is
last_covers us is i k d s h = same_test (covers us i (get_or is k d)) (list_any (covers us i) is)
    (λ e. list_any_at (covers us i) is k d (omega (arith, h.within)) e)
    (λ e.
    let found : Any (λ (x : Index). covers us i x ≡ true) is = Any-from_list_any (covers us i) is e in
    let within = covers_within us i found.1 found.4 in
    elim (cases_lt found.0 k) [
      | inl less ↦
          absurd (omega (arith, within.1, (subst (λ (x : Index). after_index (is_wide_index (drop x.unit us)) x.unit ≤ (get_or is k found.1).unit) found.3 (follow_order us 0 is found.0 k found.1 (stored_follow us is s) less (omega (arith, h.within)))), h.before k found.1 (omega arith)))
      | inr more ↦ elim (cases_eq found.0 k) [
        | inl same ↦
            ap (covers us i) (any_default is k d found.1 (omega (arith, h.within)) ∙ ap (λ (j : ℕ). get_or is j found.1) (sym same) ∙ found.3) ∙ found.4
        | inr other ↦
            absurd (omega (arith, within.0, (subst (λ (x : Index). i ≤ x.unit) found.3 (h.after found.0 found.1 (omega (arith, more, other)) found.2))))
      ]
    ])

-- ---- one unit

none_after : (us : List ℕ) (from i : ℕ) (is : List Index) → Follow us from is → i ≤ from → list_any (covers us i) is ≡ false
none_after us from i is h le = false_from_ne_true (list_any (covers us i) is) (λ e.
    let found : Any (λ (x : Index). covers us i x ≡ true) is = Any-from_list_any (covers us i) is e in
    omega (arith, (covers_within us i found.1 found.4).0, subst (λ (x : Index). from ≤ x.unit) found.3 (follow_after us from is found.0 found.1 h found.2), le))

zero_units : (w : Bool) (k : ℕ) (more : List ℕ) → k < length (index_units w 0) → slice_index (index_units w 0 ++ more) k ≡ 0
zero_units true (suc (suc k)) more lt = absurd (omega (arith, lt))
zero_units false (suc k) more lt = absurd (omega (arith, lt))
zero_units _ _ more lt = refl

units_after : (w : Bool) (unit : ℕ) → unit + 1 + length (index_units w 0) ≡ after_index w unit
units_after true unit = omega arith
units_after false unit = omega arith

blank_one : (us : List ℕ) (from i : ℕ) (is : List Index) → Follow us from is → from ≤ i → i < length us → slice_index (spelled_from us from (zeroed is)) (i - from) ≡ cond (list_any (covers us i) is) 0 (slice_index us i)
blank_one us from i [] h le lt = let place : from + (i - from) ≡ i = omega (arith, le) in get_or-drop from us (i - from) 0 ∙ ap (slice_index us) place
blank_one us from i (x ∷ is) h le lt =
    let w : Bool = is_wide_index (drop x.unit us) in
    let front : List ℕ = take (x.unit + 1 - from) (drop from us) in
    let rest : List ℕ = spelled_from us (after_index w x.unit) (zeroed is) in
    let long : length front ≡ x.unit + 1 - from = length-take-le (x.unit + 1 - from) (drop from us) (omega (arith, length-drop from us, follow_within us (after_index w x.unit) is h.1, after_is_more w x.unit)) in
    elim (cases_lt i (x.unit + 1)) [
      | inl below ↦
          let place : from + (i - from) ≡ i = omega (arith, le) in
          let here : i - from < x.unit + 1 - from = omega (arith, below, le) in
          let none : covers us i x ≡ false = false_from_ne_true (covers us i x) (λ e. let c = covers_within us i x e in omega (arith, c.0, below)) in
          get_or_append_left front (index_units w 0 ++ rest) 0 (i - from) (omega (arith, long, here)) ∙ get_or-take (x.unit + 1 - from) (drop from us) (i - from) 0 here
          ∙ get_or-drop from us (i - from) 0 ∙ ap (slice_index us) place
          ∙ ap (λ (b : Bool). cond b 0 (slice_index us i)) (sym (ap (λ (b : Bool). b || list_any (covers us i) is) none ∙ (none_after us (after_index w x.unit) i is h.1 (omega (arith, below, after_is_more w x.unit)))))
      | inr above ↦
          let moved : slice_index (front ++ (index_units w 0 ++ rest)) (i - from) ≡ slice_index (index_units w 0 ++ rest) (i - from - (x.unit + 1 - from)) =
          get_or-append_right front (index_units w 0 ++ rest) (x.unit + 1 - from) (i - from) 0 long (omega (arith, above, le, h.0)) in
          let step : i - from - (x.unit + 1 - from) ≡ i - (x.unit + 1) = omega (arith, above, le, h.0) in
          elim (cases_lt i (after_index w x.unit)) [
            | inl inside ↦
                moved ∙ ap (slice_index (index_units w 0 ++ rest)) step ∙ zero_units w (i - (x.unit + 1)) rest (omega (arith, units_after w x.unit, inside, above))
                ∙ ap (λ (b : Bool). cond (b || list_any (covers us i) is) 0 (slice_index us i)) (sym (within_covers us i x (omega (arith, above)) inside))
            | inr beyond ↦
                let none : covers us i x ≡ false = false_from_ne_true (covers us i x) (λ e. let c = covers_within us i x e in omega (arith, c.1, beyond)) in
                let over : slice_index (index_units w 0 ++ rest) (i - (x.unit + 1)) ≡ slice_index rest (i - (x.unit + 1) - length (index_units w 0)) =
                get_or-append_right (index_units w 0) rest (length (index_units w 0)) (i - (x.unit + 1)) 0 refl (omega (arith, units_after w x.unit, beyond)) in
                let last : i - (x.unit + 1) - length (index_units w 0) ≡ i - after_index w x.unit = omega (arith, units_after w x.unit, beyond) in
                moved ∙ ap (slice_index (index_units w 0 ++ rest)) step ∙ over ∙ ap (slice_index rest) last ∙ blank_one us (after_index w x.unit) i is h.1 beyond lt
                ∙ ap (λ (b : Bool). cond (b || list_any (covers us i) is) 0 (slice_index us i)) (sym none)
          ]
    ]

-- a unit of the pieces, as it is or zero
pub blank_unit : (us : List ℕ) (is : List Index) (i : ℕ) → AreStored us is → i < length us → slice_index (flat_map blank_units (pieces_with (parts_in us) is)) i ≡ cond (list_any (covers us i) is) 0 (slice_index us i)
blank_unit us is i s lt =
    let whole : i - 0 ≡ i = omega arith in
    ap (λ (xs : List ℕ). slice_index xs i) (all_blank (parts_in us) is ∙ spelled_all us 0 (cuts_in us) (zeroed is) (omega arith) s.cut (same_places is ∙ s.places)) ∙ ap (slice_index (spelled_from us 0 (zeroed is))) (sym whole) ∙ blank_one us 0 i is (stored_follow us is s) (omega arith) lt
