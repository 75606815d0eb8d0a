-- Stored pieces are the same once remapped by two maps just where their units agree beside the indices and these have
-- the same images.
use Rattle.dexinsn.proofs.Common.{◌≡◌, ℕ, zero, suc, ◌+◌, ◌-◌, ◌<◌, ◌≤◌, Bool, true, false, cond, List, [], ◌∷◌, length, drop, take, map, slice_index, slice_set, Option, Some, None, inl, inr, refl, ap, sym, ◌∙◌, subst, arith, length-drop, get_or-set_other, AllZip, cases_lt, same_number_lists, drop-drop, drop_all, get_or-take, get_or-drop, get_or-set_same, length-set, length-take-le, Pool, Cut, AreCut, piece_size, cut_units, index_pool, is_wide_index, is_payload_ident, with_index, Kept, piece_same, Maps, image_of, Index, IsPieceAt, NumberedPiece, Instruction, kind_in, renumbered_piece, cuts_in, parts_in, piece_with, left_by, pieces_with, with_place, index_places, after_index, AreStored, Follow, Payload, Agree, AgreeBeside, AreEqualMapped, AreEquivalent}
use Rattle.dexinsn.proofs.IndexRoom.{Fits, piece_size-fits, HasRoom, has_room}
use Rattle.dexinsn.proofs.StoredRead.{cuts_in_is, same_pool, same_wide, first_kept, cut_pool, cut_first, cut_length}
use Rattle.dexinsn.proofs.Lined.{same_kind_in}
use Rattle.dexinsn.proofs.PutUnits.{after_is, follow_from, after_by}

-- ---- units that agree

agree_less : (us vs : List ℕ) (a b c d : ℕ) → a ≤ c → d ≤ b → Agree us vs a b → Agree us vs c d
agree_less us vs a b c d ac db h = λ k le lt. h k (omega arith) (omega arith)

agree_more : (us vs : List ℕ) (a m b : ℕ) → Agree us vs a m → Agree us vs m b → Agree us vs a b
agree_more us vs a m b f g = λ k le lt. elim (cases_lt k m) [ inl below ↦ f k le below | inr above ↦ g k above lt ]

-- a unit of a part
part_read : (us : List ℕ) (at n k : ℕ) → k < n → slice_index (take n (drop at us)) k ≡ slice_index us (at + k)
part_read us at n k lt = get_or-take n (drop at us) k 0 lt ∙ get_or-drop at us k 0

part_length : (us : List ℕ) (at n : ℕ) → at + n ≤ length us → length (take n (drop at us)) ≡ n
part_length us at n le = let l : length (drop at us) ≡ length us - at = length-drop at us in length-take-le n (drop at us) (omega arith)

-- parts whose units agree are one
pub agree_part : (us vs : List ℕ) (at n : ℕ) → at + n ≤ length us → at + n ≤ length vs → Agree us vs at (at + n) → take n (drop at us) ≡ take n (drop at vs)
agree_part us vs at n le more h =
    let l : length (take n (drop at us)) ≡ n = part_length us at n le in
    same_number_lists (take n (drop at us)) (take n (drop at vs)) (part_length us at n le ∙ sym (part_length vs at n more)) (λ k lt.
    part_read us at n k (omega arith) ∙ h (at + k) (omega arith) (omega arith) ∙ sym (part_read vs at n k (omega arith)))

-- and the other way
pub part_agrees : (us vs : List ℕ) (at n : ℕ) → take n (drop at us) ≡ take n (drop at vs) → Agree us vs at (at + n)
part_agrees us vs at n e = λ k le lt.
    let j : at + (k - at) ≡ k = omega arith in
    ap (slice_index us) (sym j) ∙ sym (part_read us at n (k - at) (omega arith)) ∙ ap (λ (xs : List ℕ). slice_index xs (k - at)) e ∙ part_read vs at n (k - at) (omega arith) ∙ ap (slice_index vs) j

-- agreeing beside indices, from further on
beside_split : (us vs : List ℕ) (from m : ℕ) (is : List Index) → from ≤ m → Follow us m is → AgreeBeside us vs from is → Agree us vs from m × AgreeBeside us vs m is
beside_split us vs from m [] le f h = (agree_less us vs from (length us) from m (omega arith) f h, agree_less us vs from (length us) m (length us) le (omega arith) h)
beside_split us vs from m (i ∷ is) le f h = (agree_less us vs from (i.unit + 1) from m (omega arith) (omega (arith, f.0)) h.0, (agree_less us vs from (i.unit + 1) m (i.unit + 1) le (omega arith) h.0, h.1))

beside_join : (us vs : List ℕ) (from m : ℕ) (is : List Index) → Agree us vs from m → AgreeBeside us vs m is → AgreeBeside us vs from is
beside_join us vs from m [] a h = agree_more us vs from m (length us) a h
beside_join us vs from m (i ∷ is) a h = (agree_more us vs from m (i.unit + 1) a h.0, h.1)

-- ---- units whose index is put to zero

abbrev pub blank_by : Bool → List ℕ → List ℕ
blank_by w xs = cond w (slice_set (slice_set xs 1 0) 2 0) (slice_set xs 1 0)

pub blank_is : (w : Bool) (xs : List ℕ) → is_wide_index xs ≡ w → with_index 0 xs ≡ blank_by w xs
blank_is w xs e = ap (λ (v : Bool). blank_by v xs) e

pub length-blank : (w : Bool) (xs : List ℕ) → length (blank_by w xs) ≡ length xs
length-blank true xs = length-set (slice_set xs 1 0) 2 0 ∙ length-set xs 1 0
length-blank false xs = length-set xs 1 0

blank_first : (w : Bool) (xs : List ℕ) → slice_index (blank_by w xs) 0 ≡ slice_index xs 0
blank_first true xs = get_or-set_other (slice_set xs 1 0) 2 0 0 0 (λ e. omega arith) ∙ get_or-set_other xs 1 0 0 0 (λ e. omega arith)
blank_first false xs = get_or-set_other xs 1 0 0 0 (λ e. omega arith)

blank_after : (w : Bool) (xs : List ℕ) (k : ℕ) → after_index w 0 ≤ k → slice_index (blank_by w xs) k ≡ slice_index xs k
blank_after true xs k le = get_or-set_other (slice_set xs 1 0) 2 k 0 0 (λ e. omega arith) ∙ get_or-set_other xs 1 k 0 0 (λ e. omega arith)
blank_after false xs k le = get_or-set_other xs 1 k 0 0 (λ e. omega arith)

blank_inside : (w : Bool) (xs : List ℕ) (k : ℕ) → 0 < k → k < after_index w 0 → k < length xs → slice_index (blank_by w xs) k ≡ 0
blank_inside true xs (suc zero) some lt within = get_or-set_other (slice_set xs 1 0) 2 1 0 0 (λ e. omega arith) ∙ get_or-set_same xs 1 0 0 within
blank_inside false xs (suc zero) some lt within = get_or-set_same xs 1 0 0 within
blank_inside true xs (suc (suc zero)) some lt within = get_or-set_same (slice_set xs 1 0) 2 0 0 (omega (arith, length-set xs 1 0))
blank_inside _ xs _ some lt within = absurd (omega arith)

-- units that are the same but for the index
blank_unit : (w : Bool) (xs ys : List ℕ) (k : ℕ) → k < length xs → length xs ≡ length ys → slice_index xs 0 ≡ slice_index ys 0 → ((j : ℕ) → after_index w 0 ≤ j → j < length xs → slice_index xs j ≡ slice_index ys j) → slice_index (blank_by w xs) k ≡ slice_index (blank_by w ys) k
blank_unit w xs ys zero lt same first rest = blank_first w xs ∙ first ∙ sym (blank_first w ys)
blank_unit w xs ys (suc k) lt same first rest = elim (cases_lt (suc k) (after_index w 0)) [
  | inl inside ↦ blank_inside w xs (suc k) (omega arith) inside lt ∙ sym (blank_inside w ys (suc k) (omega arith) inside (omega (arith, lt, same)))
  | inr following ↦ blank_after w xs (suc k) following ∙ rest (suc k) following lt ∙ sym (blank_after w ys (suc k) following)
]

blank_same : (w : Bool) (xs ys : List ℕ) → is_wide_index xs ≡ w → length xs ≡ length ys → slice_index xs 0 ≡ slice_index ys 0 → ((j : ℕ) → after_index w 0 ≤ j → j < length xs → slice_index xs j ≡ slice_index ys j) → with_index 0 xs ≡ with_index 0 ys
blank_same w xs ys e same first rest =
    blank_is w xs e ∙ same_number_lists (blank_by w xs) (blank_by w ys) (length-blank w xs ∙ same ∙ sym (length-blank w ys)) (λ k lt. blank_unit w xs ys k (omega (arith, lt, length-blank w xs)) same first rest)
    ∙ sym (blank_is w ys (sym (same_wide xs ys first) ∙ e))

blank_firsts : (xs ys : List ℕ) → with_index 0 xs ≡ with_index 0 ys → slice_index xs 0 ≡ slice_index ys 0
blank_firsts xs ys e = sym (first_kept 0 xs) ∙ ap (λ (zs : List ℕ). slice_index zs 0) e ∙ first_kept 0 ys

blank_rest : (xs ys : List ℕ) (k : ℕ) → with_index 0 xs ≡ with_index 0 ys → after_index (is_wide_index xs) 0 ≤ k → slice_index xs k ≡ slice_index ys k
blank_rest xs ys k e le =
    sym (blank_after (is_wide_index xs) xs k le) ∙ ap (λ (zs : List ℕ). slice_index zs k) e ∙ blank_after (is_wide_index ys) ys k (subst (λ (v : Bool). after_index v 0 ≤ k) (same_wide xs ys (blank_firsts xs ys e)) le)

-- ---- one piece

-- what agreeing beside indices says of the next piece
record Step (o : Option Pool) (us vs : List ℕ) (c : Cut) (is : List Index) : Type 0 where
  first : slice_index us c.unit ≡ slice_index vs c.unit
  whole : o ≡ None → Agree us vs c.unit (c.unit + c.units)
  following : (pool : Pool) → o ≡ Some pool → Agree us vs (after_index (is_wide_index (drop c.unit us)) c.unit) (c.unit + c.units)
  later : AgreeBeside us vs (c.unit + c.units) (left_by o is)

step_by : (o : Option Pool) (us vs : List ℕ) (c : Cut) (places : List ℕ) (is : List Index) → IsPieceAt us c → index_pool (drop c.unit us) ≡ o → map (λ (i : Index). i.unit) is ≡ with_place o c.unit places
    → ((js : List Index) → map (λ (i : Index). i.unit) js ≡ places → Follow us (c.unit + c.units) js) → AgreeBeside us vs c.unit is → Step o us vs c is
step_by None us vs c places is piece e same on h =
    let s = beside_split us vs c.unit (c.unit + c.units) is (omega arith) (on is same) h in
    record {
      first = s.0 c.unit (omega arith) (omega (arith, (piece_size-fits c.unit (drop c.unit us) c.units piece).0));
      whole = λ none. s.0;
      following = λ pool some. absurd cc;
      later = s.1;
    }
step_by (Some pool) us vs c places [] piece e same on h = absurd cc
step_by (Some pool) us vs c places (i ∷ is) piece e same on h =
    let here : i.unit ≡ c.unit = cc in
    let rest : map (λ (i : Index). i.unit) is ≡ places = cc in
    let r : HasRoom (drop c.unit us) c.units = has_room c.unit (drop c.unit us) c.units pool piece e in
    let s = beside_split us vs (after_index (is_wide_index (drop c.unit us)) c.unit) (c.unit + c.units) is (after_by (is_wide_index (drop c.unit us)) c.unit c.units r.three r.two) (on is rest) (subst (λ (k : ℕ). AgreeBeside us vs (after_index (is_wide_index (drop k us)) k) is) here h.1) in
    record { first = h.0 c.unit (omega arith) (omega (arith, here)); whole = λ none. absurd cc; following = λ other some. s.0; later = s.1 }

-- what follows from it
step_kept : (us vs : List ℕ) (c : Cut) (is : List Index) → Step (index_pool (drop c.unit us)) us vs c is → Kept (drop c.unit us) (drop c.unit vs) c.units
step_kept us vs c is s =
    let z : c.unit + 0 ≡ c.unit = omega arith in
    record {
      first = get_or-drop c.unit vs 0 0 ∙ ap (slice_index vs) z ∙ sym s.first ∙ ap (slice_index us) (sym z) ∙ sym (get_or-drop c.unit us 0 0);
      same = λ none j lt. get_or-drop c.unit vs j 0 ∙ sym (s.whole none (c.unit + j) (omega arith) (omega arith)) ∙ sym (get_or-drop c.unit us j 0);
    }

-- the places of the indices after the piece
pub left_by_places : (o : Option Pool) (at : ℕ) (places : List ℕ) (is : List Index) → map (λ (i : Index). i.unit) is ≡ with_place o at places → map (λ (i : Index). i.unit) (left_by o is) ≡ places
left_by_places None at places is e = e
left_by_places (Some pool) at places [] e = absurd cc
left_by_places (Some pool) at places (i ∷ is) e = cc

left_places : (us : List ℕ) (c : Cut) (cs : List Cut) (at : ℕ) (is : List Index) → IsPieceAt us c → map (λ (i : Index). i.unit) is ≡ index_places at (map (cut_units us) (c ∷ cs)) → map (λ (i : Index). i.unit) (left_by (index_pool (drop c.unit us)) is) ≡ index_places (at + c.units) (map (cut_units us) cs)
left_places us c cs at is piece same =
    left_by_places (index_pool (drop c.unit us)) at (index_places (at + length (cut_units us c)) (map (cut_units us) cs)) is
    (same ∙ ap (λ (o : Option Pool). with_place o at (index_places (at + length (cut_units us c)) (map (cut_units us) cs))) (cut_pool us c piece))
    ∙ ap (λ (n : ℕ). index_places (at + n) (map (cut_units us) cs)) (cut_length us c piece)

-- the step from the cuts
step_at : (us vs : List ℕ) (at : ℕ) (c : Cut) (cs : List Cut) (is : List Index) → at ≤ length us → AreCut at (drop at us) (c ∷ cs) [] → map (λ (i : Index). i.unit) is ≡ index_places at (map (cut_units us) (c ∷ cs)) → AgreeBeside us vs at is → Step (index_pool (drop c.unit us)) us vs c is
step_at us vs at c cs is le cut same h =
    let piece : IsPieceAt us c = subst (λ (k : ℕ). piece_size k (drop k us) ≡ Some c.units) (sym cut.0) cut.1 in
    let on = λ (js : List Index) (e : map (λ (i : Index). i.unit) js ≡ index_places (at + length (cut_units us c)) (map (cut_units us) cs)).
    subst (λ (k : ℕ). Follow us (k + c.units) js) (sym cut.0)
    (follow_from us (at + c.units) cs js (omega (arith, (piece_size-fits at (drop at us) c.units cut.1).1, length-drop at us)) (subst (λ (xs : List ℕ). AreCut (at + c.units) xs cs []) (drop-drop c.units at us) cut.2)
    (e ∙ ap (λ (n : ℕ). index_places (at + n) (map (cut_units us) cs)) (cut_length us c piece))) in
    step_by (index_pool (drop c.unit us)) us vs c (index_places (at + length (cut_units us c)) (map (cut_units us) cs)) is piece refl
    (same ∙ ap (λ (o : Option Pool). with_place o at (index_places (at + length (cut_units us c)) (map (cut_units us) cs))) (cut_pool us c piece) ∙ ap (λ (k : ℕ). with_place (index_pool (drop c.unit us)) k (index_places (at + length (cut_units us c)) (map (cut_units us) cs))) (sym cut.0))
    on (subst (λ (k : ℕ). AgreeBeside us vs k is) (sym cut.0) h)

-- ---- the cuts

-- pieces that agree beside indices are cut in the same way
same_cuts : (us vs : List ℕ) (at : ℕ) (cs : List Cut) (is : List Index) → length us ≡ length vs → at ≤ length us → AreCut at (drop at us) cs [] → map (λ (i : Index). i.unit) is ≡ index_places at (map (cut_units us) cs) → AgreeBeside us vs at is → AreCut at (drop at vs) cs []
same_cuts us vs at [] is count le cut same h = drop_all at vs (omega (arith, length-drop at us, ap length cut))
same_cuts us vs at (c ∷ cs) is count le cut same h =
    let piece : IsPieceAt us c = subst (λ (k : ℕ). piece_size k (drop k us) ≡ Some c.units) (sym cut.0) cut.1 in
    let s : Step (index_pool (drop c.unit us)) us vs c is = step_at us vs at c cs is le cut same h in
    let size : piece_size c.unit (drop c.unit vs) ≡ Some c.units = piece_same c.unit c.units (drop c.unit us) (drop c.unit vs) (length-drop c.unit vs ∙ ap (λ (n : ℕ). n - c.unit) (sym count) ∙ sym (length-drop c.unit us)) (step_kept us vs c is s) piece in
    let places : map (λ (i : Index). i.unit) (left_by (index_pool (drop c.unit us)) is) ≡ index_places (at + c.units) (map (cut_units us) cs) =
    left_places us c cs at is piece same in (
      cut.0,
      subst (λ (n : ℕ). piece_size n (drop n vs) ≡ Some c.units) cut.0 size,
      subst (λ (ys : List ℕ). AreCut (at + c.units) ys cs []) (sym (drop-drop c.units at vs))
          (same_cuts us vs (at + c.units) cs (left_by (index_pool (drop c.unit us)) is) count (omega (arith, (piece_size-fits at (drop at us) c.units cut.1).1, length-drop at us)) (subst (λ (xs : List ℕ). AreCut (at + c.units) xs cs []) (drop-drop c.units at us) cut.2) places
          (subst (λ (n : ℕ). AgreeBeside us vs (n + c.units) (left_by (index_pool (drop c.unit us)) is)) cut.0 s.later)),
    )

-- ---- pieces with equal units and images are the same

-- the two plain pieces
plain_equivalent : (r q : Maps) (t : Bool) (xs : List ℕ) → renumbered_piece r (cond t (Payload xs) (Instruction xs None)) ≡ renumbered_piece q (cond t (Payload xs) (Instruction xs None))
plain_equivalent r q true xs = refl
plain_equivalent r q false xs = refl

-- what is to be shown of the pieces of these units
abbrev Same : Maps → Maps → List (List ℕ) → List (List ℕ) → List Index → List Index → Type 0
Same r q ps ts is js = map (renumbered_piece r) (pieces_with ps is) ≡ map (renumbered_piece q) (pieces_with ts js)

head_kind : (us : List ℕ) (c : Cut) (i : Index) → IsPieceAt us c → i.unit ≡ c.unit → kind_in (with_index 0 (cut_units us c)) ≡ kind_in (drop i.unit us)
head_kind us c i piece e = same_kind_in (with_index 0 (cut_units us c)) (drop i.unit us) (first_kept 0 (cut_units us c) ∙ cut_first us c piece ∙ ap (λ (k : ℕ). slice_index (drop k us) 0) (sym e))

-- the units of the piece but for its index
blank_step : (us vs : List ℕ) (c : Cut) (is : List Index) (pool : Pool) → length us ≡ length vs → IsPieceAt us c → index_pool (drop c.unit us) ≡ Some pool → Step (Some pool) us vs c is → with_index 0 (cut_units us c) ≡ with_index 0 (cut_units vs c)
blank_step us vs c is pool count piece e s =
    let f : Fits (drop c.unit us) c.units = piece_size-fits c.unit (drop c.unit us) c.units piece in
    let l : length (drop c.unit us) ≡ length us - c.unit = length-drop c.unit us in
    let z : c.unit + 0 ≡ c.unit = omega arith in
    let n : length (cut_units us c) ≡ c.units = part_length us c.unit c.units (omega (arith, f.0, f.1)) in
    blank_same (is_wide_index (drop c.unit us)) (cut_units us c) (cut_units vs c) (same_wide (cut_units us c) (drop c.unit us) (cut_first us c piece)) (n ∙ sym (part_length vs c.unit c.units (omega (arith, f.0, f.1, count))))
    (part_read us c.unit c.units 0 f.0 ∙ ap (slice_index us) z ∙ s.first ∙ ap (slice_index vs) (sym z) ∙ sym (part_read vs c.unit c.units 0 f.0))
    (λ j le lt.
    part_read us c.unit c.units j (omega (arith, lt, n)) ∙ s.following pool refl (c.unit + j) (omega (arith, le, after_is (is_wide_index (drop c.unit us)) c.unit)) (omega (arith, lt, n))
    ∙ sym (part_read vs c.unit c.units j (omega (arith, lt, n))))

equivalent_by : (r q : Maps) (o : Option Pool) (us vs : List ℕ) (c : Cut) (ps ts : List (List ℕ)) (places : List ℕ) (is js : List Index) → length us ≡ length vs → IsPieceAt us c → index_pool (drop c.unit us) ≡ o → Step o us vs c is → map (λ (i : Index). i.unit) is ≡ with_place o c.unit places
    → AllZip (AreEqualMapped r q us) is js → ((ks ls : List Index) → map (λ (i : Index). i.unit) ks ≡ places → AllZip (AreEqualMapped r q us) ks ls → AgreeBeside us vs (c.unit + c.units) ks → Same r q ps ts ks ls)
    → (renumbered_piece r (piece_with o (cut_units us c) is) ∷ map (renumbered_piece r) (pieces_with ps (left_by o is))) ≡ (renumbered_piece q (piece_with o (cut_units vs c) js) ∷ map (renumbered_piece q) (pieces_with ts (left_by o js)))
equivalent_by r q None us vs c ps ts places is js count piece e s same zip on =
    let f : Fits (drop c.unit us) c.units = piece_size-fits c.unit (drop c.unit us) c.units piece in
    let l : length (drop c.unit us) ≡ length us - c.unit = length-drop c.unit us in
    ap (λ (p : NumberedPiece). p ∷ map (renumbered_piece r) (pieces_with ps is)) (plain_equivalent r q (is_payload_ident (slice_index (cut_units us c) 0)) (cut_units us c))
    ∙ ap (λ (xs : List ℕ). renumbered_piece q (cond (is_payload_ident (slice_index xs 0)) (Payload xs) (Instruction xs None)) ∷ map (renumbered_piece r) (pieces_with ps is)) (agree_part us vs c.unit c.units (omega (arith, f.0, f.1)) (omega (arith, f.0, f.1, count)) (s.whole refl))
    ∙ ap (λ (rest : List NumberedPiece). renumbered_piece q (cond (is_payload_ident (slice_index (cut_units vs c) 0)) (Payload (cut_units vs c)) (Instruction (cut_units vs c) None)) ∷ rest) (on is js same zip s.later)
equivalent_by r q (Some pool) us vs c ps ts places [] js count piece e s same zip on = absurd cc
equivalent_by r q (Some pool) us vs c ps ts places (i ∷ is) [] count piece e s same zip on = absurd zip
equivalent_by r q (Some pool) us vs c ps ts places (i ∷ is) (j ∷ js) count piece e s same zip on =
    let here : i.unit ≡ c.unit = cc in
    let rest : map (λ (i : Index). i.unit) is ≡ places = cc in
    let kind : kind_in (with_index 0 (cut_units us c)) ≡ kind_in (drop i.unit us) = head_kind us c i piece here in
    ap (λ (n : Option ℕ). Instruction (with_index 0 (cut_units us c)) n ∷ map (renumbered_piece r) (pieces_with ps is)) (ap (λ k. image_of r k i.number) kind ∙ zip.0.image ∙ ap (λ k. image_of q k j.number) (sym kind))
    ∙ ap (λ (xs : List ℕ). Instruction xs (image_of q (kind_in xs) j.number) ∷ map (renumbered_piece r) (pieces_with ps is)) (blank_step us vs c (i ∷ is) pool count piece e s)
    ∙ ap (λ (rest : List NumberedPiece). Instruction (with_index 0 (cut_units vs c)) (image_of q (kind_in (with_index 0 (cut_units vs c))) j.number) ∷ rest) (on is js rest zip.1 s.later)

equivalent_same : (r q : Maps) (us vs : List ℕ) (at : ℕ) (cs : List Cut) (is js : List Index) → length us ≡ length vs → at ≤ length us → AreCut at (drop at us) cs [] → AreCut at (drop at vs) cs [] → map (λ (i : Index). i.unit) is ≡ index_places at (map (cut_units us) cs)
    → AllZip (AreEqualMapped r q us) is js → AgreeBeside us vs at is → Same r q (map (cut_units us) cs) (map (cut_units vs) cs) is js
equivalent_same r q us vs at [] is js count le cut other same zip h = refl
equivalent_same r q us vs at (c ∷ cs) is js count le cut other same zip h =
    let piece : IsPieceAt us c = subst (λ (k : ℕ). piece_size k (drop k us) ≡ Some c.units) (sym cut.0) cut.1 in
    let l : length (drop at us) ≡ length us - at = length-drop at us in
    let s : Step (index_pool (drop c.unit us)) us vs c is = step_at us vs at c cs is le cut same h in
    let pool : index_pool (cut_units us c) ≡ index_pool (drop c.unit us) = cut_pool us c piece in
    let mate : index_pool (cut_units vs c) ≡ index_pool (drop c.unit us) = cut_pool vs c (subst (λ (k : ℕ). piece_size k (drop k vs) ≡ Some c.units) (sym other.0) other.1) ∙ same_pool (drop c.unit vs) (drop c.unit us) (step_kept us vs c is s).first in
    let places : map (λ (i : Index). i.unit) is ≡ with_place (index_pool (drop c.unit us)) c.unit (index_places (at + length (cut_units us c)) (map (cut_units us) cs)) =
    same ∙ ap (λ (o : Option Pool). with_place o at (index_places (at + length (cut_units us c)) (map (cut_units us) cs))) pool ∙ ap (λ (k : ℕ). with_place (index_pool (drop c.unit us)) k (index_places (at + length (cut_units us c)) (map (cut_units us) cs))) (sym cut.0) in
    let on = λ (ks ls : List Index) (e : map (λ (i : Index). i.unit) ks ≡ index_places (at + length (cut_units us c)) (map (cut_units us) cs)) (zip : AllZip (AreEqualMapped r q us) ks ls) (h : AgreeBeside us vs (c.unit + c.units) ks).
    equivalent_same r q us vs (at + c.units) cs ks ls count (omega (arith, (piece_size-fits at (drop at us) c.units cut.1).1)) (subst (λ (xs : List ℕ). AreCut (at + c.units) xs cs []) (drop-drop c.units at us) cut.2) (subst (λ (xs : List ℕ). AreCut (at + c.units) xs cs []) (drop-drop c.units at vs) other.2)
    (e ∙ ap (λ (n : ℕ). index_places (at + n) (map (cut_units us) cs)) (cut_length us c piece)) zip (subst (λ (k : ℕ). AgreeBeside us vs (k + c.units) ks) cut.0 h) in
    ap (λ (o : Option Pool). renumbered_piece r (piece_with o (cut_units us c) is) ∷ map (renumbered_piece r) (pieces_with (map (cut_units us) cs) (left_by o is))) pool
    ∙ equivalent_by r q (index_pool (drop c.unit us)) us vs c (map (cut_units us) cs) (map (cut_units vs) cs) (index_places (at + length (cut_units us c)) (map (cut_units us) cs)) is js count piece refl s places zip on
    ∙ ap (λ (o : Option Pool). renumbered_piece q (piece_with o (cut_units vs c) js) ∷ map (renumbered_piece q) (pieces_with (map (cut_units vs) cs) (left_by o js))) (sym mate)

pub same_from_equivalent : (r q : Maps) (us vs : List ℕ) (is js : List Index) → AreStored us is → AreStored vs js → AreEquivalent r q us vs is js → Same r q (parts_in us) (parts_in vs) is js
same_from_equivalent r q us vs is js s t h =
    let cut : AreCut 0 vs (cuts_in us) [] = same_cuts us vs 0 (cuts_in us) is h.count (omega arith) s.cut s.places h.agree in
    equivalent_same r q us vs 0 (cuts_in us) is js h.count (omega arith) s.cut cut s.places h.are_mapped h.agree
    ∙ ap (λ (cs : List Cut). map (renumbered_piece q) (pieces_with (map (cut_units vs) cs) js)) (sym (cuts_in_is vs (cuts_in us) cut))

-- ---- and pieces that are the same have equal units and images

plain_units : (r q : Maps) (t v : Bool) (xs ys : List ℕ) → renumbered_piece r (cond t (Payload xs) (Instruction xs None)) ≡ renumbered_piece q (cond v (Payload ys) (Instruction ys None)) → xs ≡ ys
plain_units r q true false xs ys e = absurd cc
plain_units r q false true xs ys e = absurd cc
plain_units r q _ _ xs ys e = cc

plain_named : (r : Maps) (t : Bool) (xs ys : List ℕ) (n : Option ℕ) → renumbered_piece r (cond t (Payload xs) (Instruction xs None)) ≡ Instruction (with_index 0 ys) n → slice_index xs 0 ≡ slice_index ys 0
plain_named r true xs ys n e = absurd cc
plain_named r false xs ys n e = let f : xs ≡ with_index 0 ys = cc in ap (λ (zs : List ℕ). slice_index zs 0) f ∙ first_kept 0 ys

-- what is to be shown of the units and the indices
record PiecesEqualMapped (r q : Maps) (us vs : List ℕ) (at : ℕ) (is js : List Index) : Type 0 where
  left : length (drop at us) ≡ length (drop at vs)
  agree : AgreeBeside us vs at is
  are_mapped : AllZip (AreEqualMapped r q us) is js

same_by : (r q : Maps) (o p : Option Pool) (us vs : List ℕ) (c d : Cut) (ps ts : List (List ℕ)) (places more : List ℕ) (is js : List Index) → IsPieceAt us c → IsPieceAt vs d → c.unit ≡ d.unit → index_pool (cut_units us c) ≡ o → index_pool (cut_units vs d) ≡ p
    → map (λ (i : Index). i.unit) is ≡ with_place o c.unit places → map (λ (i : Index). i.unit) js ≡ with_place p d.unit more
    → renumbered_piece r (piece_with o (cut_units us c) is) ≡ renumbered_piece q (piece_with p (cut_units vs d) js)
    → (c.units ≡ d.units → map (λ (i : Index). i.unit) (left_by o is) ≡ places → map (λ (i : Index). i.unit) (left_by p js) ≡ more → PiecesEqualMapped r q us vs (c.unit + c.units) (left_by o is) (left_by p js))
    → PiecesEqualMapped r q us vs c.unit is js
same_by r q None None us vs c d ps ts places more is js piece mate unit e g same other head on =
    let xs : cut_units us c ≡ cut_units vs d = plain_units r q (is_payload_ident (slice_index (cut_units us c) 0)) (is_payload_ident (slice_index (cut_units vs d) 0)) (cut_units us c) (cut_units vs d) head in
    let units : c.units ≡ d.units = sym (cut_length us c piece) ∙ ap length xs ∙ cut_length vs d mate in
    let later : PiecesEqualMapped r q us vs (c.unit + c.units) is js = on units same other in
    let f : Fits (drop c.unit us) c.units = piece_size-fits c.unit (drop c.unit us) c.units piece in
    let h : Fits (drop d.unit vs) d.units = piece_size-fits d.unit (drop d.unit vs) d.units mate in
    record {
      left = omega (arith, later.left, f.0, f.1, h.0, h.1, length-drop (c.unit + c.units) us, length-drop (c.unit + c.units) vs, length-drop c.unit us, length-drop c.unit vs, length-drop d.unit vs);
      agree = beside_join us vs c.unit (c.unit + c.units) is (part_agrees us vs c.unit c.units (xs ∙ ap (λ (k : ℕ). take d.units (drop k vs)) (sym unit) ∙ ap (λ (k : ℕ). take k (drop c.unit vs)) (sym units))) later.agree;
      are_mapped = later.are_mapped;
    }
same_by r q None (Some pool) us vs c d ps ts places more is [] piece mate unit e g same other head on = absurd cc
same_by r q None (Some pool) us vs c d ps ts places more is (j ∷ js) piece mate unit e g same other head on =
    let bad : None ≡ Some pool = sym e ∙ same_pool (cut_units us c) (cut_units vs d) (plain_named r (is_payload_ident (slice_index (cut_units us c) 0)) (cut_units us c) (cut_units vs d) (image_of q (kind_in (with_index 0 (cut_units vs d))) j.number) head) ∙ g in
    absurd cc
same_by r q (Some pool) None us vs c d ps ts places more [] js piece mate unit e g same other head on = absurd cc
same_by r q (Some pool) None us vs c d ps ts places more (i ∷ is) js piece mate unit e g same other head on =
    let bad : None ≡ Some pool = sym g ∙ same_pool (cut_units vs d) (cut_units us c) (plain_named q (is_payload_ident (slice_index (cut_units vs d) 0)) (cut_units vs d) (cut_units us c) (image_of r (kind_in (with_index 0 (cut_units us c))) i.number) (sym head)) ∙ e in
    absurd cc
same_by r q (Some pool) (Some other_pool) us vs c d ps ts places more [] js piece mate unit e g same other head on = absurd cc
same_by r q (Some pool) (Some other_pool) us vs c d ps ts places more (i ∷ is) [] piece mate unit e g same other head on = absurd cc
same_by r q (Some pool) (Some other_pool) us vs c d ps ts places more (i ∷ is) (j ∷ js) piece mate unit e g same other head on =
    let here : i.unit ≡ c.unit = cc in
    let there : j.unit ≡ d.unit = cc in
    let rest : map (λ (i : Index). i.unit) is ≡ places = cc in
    let other_rest : map (λ (i : Index). i.unit) js ≡ more = cc in
    let blank : with_index 0 (cut_units us c) ≡ with_index 0 (cut_units vs d) = cc in
    let image : image_of r (kind_in (with_index 0 (cut_units us c))) i.number ≡ image_of q (kind_in (with_index 0 (cut_units vs d))) j.number = cc in
    let units : c.units ≡ d.units = sym (cut_length us c piece) ∙ (sym (length-blank (is_wide_index (cut_units us c)) (cut_units us c)) ∙ ap length blank ∙ length-blank (is_wide_index (cut_units vs d)) (cut_units vs d)) ∙ cut_length vs d mate in
    let later : PiecesEqualMapped r q us vs (c.unit + c.units) is js = on units rest other_rest in
    let f : Fits (drop c.unit us) c.units = piece_size-fits c.unit (drop c.unit us) c.units piece in
    let h : Fits (drop d.unit vs) d.units = piece_size-fits d.unit (drop d.unit vs) d.units mate in
    let cut : cut_units vs d ≡ take c.units (drop c.unit vs) = ap (λ (k : ℕ). take d.units (drop k vs)) (sym unit) ∙ ap (λ (k : ℕ). take k (drop c.unit vs)) (sym units) in
    let z : c.unit + 0 ≡ c.unit = omega arith in
    let first : slice_index us c.unit ≡ slice_index vs c.unit =
    ap (slice_index us) (sym z) ∙ sym (part_read us c.unit c.units 0 f.0) ∙ blank_firsts (cut_units us c) (cut_units vs d) blank ∙ ap (λ (ys : List ℕ). slice_index ys 0) cut ∙ part_read vs c.unit c.units 0 f.0 ∙ ap (slice_index vs) z in
    let following : Agree us vs (after_index (is_wide_index (drop c.unit us)) c.unit) (c.unit + c.units) = λ k le lt.
    let n : c.unit + (k - c.unit) ≡ k = omega (arith, le, after_is (is_wide_index (drop c.unit us)) c.unit) in
    let past : after_index (is_wide_index (cut_units us c)) 0 ≤ k - c.unit = subst (λ (v : Bool). after_index v 0 ≤ k - c.unit) (sym (same_wide (cut_units us c) (drop c.unit us) (cut_first us c piece))) (omega (arith, le, after_is (is_wide_index (drop c.unit us)) c.unit)) in
    ap (slice_index us) (sym n) ∙ sym (part_read us c.unit c.units (k - c.unit) (omega (arith, n, lt))) ∙ blank_rest (cut_units us c) (cut_units vs d) (k - c.unit) blank past
    ∙ ap (λ (ys : List ℕ). slice_index ys (k - c.unit)) cut ∙ part_read vs c.unit c.units (k - c.unit) (omega (arith, n, lt)) ∙ ap (slice_index vs) n in
    let kind : kind_in (with_index 0 (cut_units us c)) ≡ kind_in (drop i.unit us) = head_kind us c i piece here in
    record {
      left = omega (arith, later.left, f.0, f.1, h.0, h.1, length-drop (c.unit + c.units) us, length-drop (c.unit + c.units) vs, length-drop c.unit us, length-drop c.unit vs, length-drop d.unit vs);
      agree = (
        λ k le lt. let at : k ≡ c.unit = omega (arith, here) in ap (slice_index us) at ∙ first ∙ ap (slice_index vs) (sym at),
        subst (λ (k : ℕ). AgreeBeside us vs (after_index (is_wide_index (drop k us)) k) is) (sym here) (beside_join us vs (after_index (is_wide_index (drop c.unit us)) c.unit) (c.unit + c.units) is following later.agree),
      );
      are_mapped = (record { place = here ∙ unit ∙ sym there; image = ap (λ k. image_of r k i.number) (sym kind) ∙ image ∙ ap (λ (xs : List ℕ). image_of q (kind_in xs) j.number) (sym blank) ∙ ap (λ k. image_of q k j.number) kind }, later.are_mapped);
    }

equivalent_from : (r q : Maps) (us vs : List ℕ) (at : ℕ) (cs ds : List Cut) (is js : List Index) → AreCut at (drop at us) cs [] → AreCut at (drop at vs) ds [] → map (λ (i : Index). i.unit) is ≡ index_places at (map (cut_units us) cs) → map (λ (i : Index). i.unit) js ≡ index_places at (map (cut_units vs) ds)
    → Same r q (map (cut_units us) cs) (map (cut_units vs) ds) is js → PiecesEqualMapped r q us vs at is js
equivalent_from r q us vs at [] [] [] [] cut other same mate e =
    let n : length (drop at us) ≡ 0 = ap length cut in record {
      left = n ∙ sym (ap length other);
      agree = λ k le lt. absurd (omega (arith, n, length-drop at us));
      are_mapped = tt;
    }
equivalent_from r q us vs at [] [] (i ∷ is) js cut other same mate e = absurd cc
equivalent_from r q us vs at [] [] [] (j ∷ js) cut other same mate e = absurd cc
equivalent_from r q us vs at [] (d ∷ ds) is js cut other same mate e = absurd cc
equivalent_from r q us vs at (c ∷ cs) [] is js cut other same mate e = absurd cc
equivalent_from r q us vs at (c ∷ cs) (d ∷ ds) is js cut other same mate e =
    let piece : IsPieceAt us c = subst (λ (k : ℕ). piece_size k (drop k us) ≡ Some c.units) (sym cut.0) cut.1 in
    let match : IsPieceAt vs d = subst (λ (k : ℕ). piece_size k (drop k vs) ≡ Some d.units) (sym other.0) other.1 in
    let head : renumbered_piece r (piece_with (index_pool (cut_units us c)) (cut_units us c) is) ≡ renumbered_piece q (piece_with (index_pool (cut_units vs d)) (cut_units vs d) js) = cc in
    let tail : Same r q (map (cut_units us) cs) (map (cut_units vs) ds) (left_by (index_pool (cut_units us c)) is) (left_by (index_pool (cut_units vs d)) js) = cc in
    let on = λ (units : c.units ≡ d.units) (left : map (λ (i : Index). i.unit) (left_by (index_pool (cut_units us c)) is) ≡ index_places (at + length (cut_units us c)) (map (cut_units us) cs)) (right : map (λ (i : Index). i.unit) (left_by (index_pool (cut_units vs d)) js) ≡ index_places (at + length (cut_units vs d)) (map (cut_units vs) ds)).
    subst (λ (k : ℕ). PiecesEqualMapped r q us vs (k + c.units) (left_by (index_pool (cut_units us c)) is) (left_by (index_pool (cut_units vs d)) js)) (sym cut.0)
    (equivalent_from r q us vs (at + c.units) cs ds (left_by (index_pool (cut_units us c)) is) (left_by (index_pool (cut_units vs d)) js)
    (subst (λ (xs : List ℕ). AreCut (at + c.units) xs cs []) (drop-drop c.units at us) cut.2)
    (subst (λ (n : ℕ). AreCut (at + n) (drop (at + n) vs) ds []) (sym units) (subst (λ (xs : List ℕ). AreCut (at + d.units) xs ds []) (drop-drop d.units at vs) other.2))
    (left ∙ ap (λ (n : ℕ). index_places (at + n) (map (cut_units us) cs)) (cut_length us c piece))
    (right ∙ ap (λ (n : ℕ). index_places (at + n) (map (cut_units vs) ds)) (cut_length vs d match ∙ sym units))
    tail) in
    subst (λ (k : ℕ). PiecesEqualMapped r q us vs k is js) cut.0
    (same_by r q (index_pool (cut_units us c)) (index_pool (cut_units vs d)) us vs c d (map (cut_units us) cs) (map (cut_units vs) ds) (index_places (at + length (cut_units us c)) (map (cut_units us) cs)) (index_places (at + length (cut_units vs d)) (map (cut_units vs) ds)) is js piece match (cut.0 ∙ sym other.0) refl refl
    (same ∙ ap (λ (k : ℕ). with_place (index_pool (cut_units us c)) k (index_places (at + length (cut_units us c)) (map (cut_units us) cs))) (sym cut.0))
    (mate ∙ ap (λ (k : ℕ). with_place (index_pool (cut_units vs d)) k (index_places (at + length (cut_units vs d)) (map (cut_units vs) ds))) (sym other.0))
    head on)

pub equivalent_from_same : (r q : Maps) (us vs : List ℕ) (is js : List Index) → AreStored us is → AreStored vs js → Same r q (parts_in us) (parts_in vs) is js → AreEquivalent r q us vs is js
equivalent_from_same r q us vs is js s t e =
    let a : PiecesEqualMapped r q us vs 0 is js = equivalent_from r q us vs 0 (cuts_in us) (cuts_in vs) is js s.cut t.cut s.places t.places e in record {
      count = a.left;
      agree = a.agree;
      are_mapped = a.are_mapped;
    }
