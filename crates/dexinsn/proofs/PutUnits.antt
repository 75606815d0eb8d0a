-- The units of pieces, their numbers put in, as they are appended.
use Rattle.dexinsn.proofs.Common.{◌≡◌, ℕ, zero, suc, ◌+◌, ◌-◌, ◌*◌, ◌/◌, ◌%◌, ◌<◌, ◌≤◌, Bool, true, false, cond, List, [], ◌∷◌, ◌++◌, length, drop, take, map, get_or, slice_index, slice_set, Option, Some, None, refl, ap, sym, ◌∙◌, subst, arith, length-drop, append_assoc, drop-cons, add-one, length-append, Completes, completes_more, flat_map, drop-drop, length-take-le, take-append-drop, get_or-drop, take_all, drop_all, flat_map-append, number_of, bytes_of, ushort, uint, ushort_at, ushorts_at, Pool, Cut, AreCut, piece_size, cut_units, index_pool, is_wide_index, is_payload_ident, with_index, Index, IsPieceAt, NumberedPiece, Instruction, numbered_units, numbered_bytes, unit_count, cuts_in, parts_in, piece_with, left_by, pieces_with, with_place, index_places, AreStored, index_units, after_index, spelled_from, Follow, Payload, bytes_between}
use Rattle.dexspec.proofs.numbers.ByteNumbers.{length-ushort}
use Rattle.std.proofs.Math.Seq.{take-add}
use Rattle.dexinsn.specs.{units_in}
use Rattle.dexinsn.proofs.IndexRoom.{Fits, piece_size-fits, HasRoom, has_room}
use Rattle.dexinsn.proofs.Halves.{length_from, ushorts_from}
use Rattle.dexinsn.proofs.StoredRead.{same_wide, first_kept, cut_pool, cut_first, cut_length}

-- ---- one instruction

put_short : (ys : List ℕ) (n k j : ℕ) → 2 ≤ length ys → k ≡ j + 2 → slice_set (slice_set (take k ys) 1 0) 1 n ≡ take 1 ys ++ (n ∷ take j (drop 2 ys))
put_short (a ∷ b ∷ ys) n (suc (suc k)) j long e = let same : k ≡ j = omega arith in ap (λ (x : ℕ). a ∷ n ∷ take x ys) same
put_short _ n _ j long e = absurd (omega arith)

put_wide : (ys : List ℕ) (n m k j : ℕ) → 3 ≤ length ys → k ≡ j + 3 → slice_set (slice_set (slice_set (slice_set (take k ys) 1 0) 2 0) 1 n) 2 m ≡ take 1 ys ++ (n ∷ m ∷ take j (drop 3 ys))
put_wide (a ∷ b ∷ c ∷ ys) n m (suc (suc (suc k))) j long e = let same : k ≡ j = omega arith in ap (λ (x : ℕ). a ∷ n ∷ m ∷ take x ys) same
put_wide _ n m _ j long e = absurd (omega arith)

put_by : (w : Bool) (ys : List ℕ) (n k : ℕ) → HasRoom ys k → is_wide_index ys ≡ w → is_wide_index (take k ys) ≡ w → is_wide_index (with_index 0 (take k ys)) ≡ w
    → with_index n (with_index 0 (take k ys)) ≡ take 1 ys ++ (index_units w n ++ take (k - after_index w 0) (drop (after_index w 0) ys))
put_by true ys n k r e f g =
    let three : 3 ≤ k = r.three e in
    ap (λ (w : Bool). cond w (slice_set (slice_set (with_index 0 (take k ys)) 1 (n % 65536)) 2 (n / 65536)) (slice_set (with_index 0 (take k ys)) 1 n)) g
    ∙ ap (λ (w : Bool). slice_set (slice_set (cond w (slice_set (slice_set (take k ys) 1 0) 2 0) (slice_set (take k ys) 1 0)) 1 (n % 65536)) 2 (n / 65536)) f
    ∙ put_wide ys (n % 65536) (n / 65536) k (k - 3) (omega (arith, r.within)) (omega arith)
put_by false ys n k r e f g =
    ap (λ (w : Bool). cond w (slice_set (slice_set (with_index 0 (take k ys)) 1 (n % 65536)) 2 (n / 65536)) (slice_set (with_index 0 (take k ys)) 1 n)) g
    ∙ ap (λ (w : Bool). slice_set (cond w (slice_set (slice_set (take k ys) 1 0) 2 0) (slice_set (take k ys) 1 0)) 1 n) f ∙ put_short ys n k (k - 2) (omega (arith, r.within, r.two)) (omega (arith, r.two))

-- ---- one part after the other

follow_less : (us : List ℕ) (from to : ℕ) (is : List Index) → from ≤ to → Follow us to is → Follow us from is
follow_less us from to [] le h = omega (arith, h)
follow_less us from to (i ∷ is) le h = (omega (arith, h.0), h.1)

pub after_by : (w : Bool) (at n : ℕ) → (w ≡ true → 3 ≤ n) → 2 ≤ n → after_index w at ≤ at + n
after_by true at n three two = let t : 3 ≤ n = three refl in omega arith
after_by false at n three two = omega arith

pub after_is : (w : Bool) (unit : ℕ) → after_index w unit ≡ unit + after_index w 0
after_is true unit = refl
after_is false unit = refl

-- units without an index of the list
skip : (us : List ℕ) (from k : ℕ) (is : List Index) → Follow us (from + k) is → spelled_from us from is ≡ take k (drop from us) ++ spelled_from us (from + k) is
skip us from k [] h = sym (take-append-drop k (drop from us)) ∙ ap (λ (xs : List ℕ). take k (drop from us) ++ xs) (drop-drop k from us)
skip us from k (i ∷ is) h =
    let e : i.unit + 1 - from ≡ k + (i.unit + 1 - (from + k)) = omega (arith, h.0) in
    ap (λ (xs : List ℕ). xs ++ (index_units (is_wide_index (drop i.unit us)) i.number ++ spelled_from us (after_index (is_wide_index (drop i.unit us)) i.unit) is))
    (ap (λ (n : ℕ). take n (drop from us)) e ∙ take-add k (i.unit + 1 - (from + k)) (drop from us) ∙ ap (λ (xs : List ℕ). take k (drop from us) ++ take (i.unit + 1 - (from + k)) xs) (drop-drop k from us))
    ∙ append_assoc (take k (drop from us)) (take (i.unit + 1 - (from + k)) (drop (from + k) us)) (index_units (is_wide_index (drop i.unit us)) i.number ++ spelled_from us (after_index (is_wide_index (drop i.unit us)) i.unit) is)

follow_by : (o : Option Pool) (us : List ℕ) (c : Cut) (at : ℕ) (places : List ℕ) (is : List Index) → c.unit ≡ at → IsPieceAt us c → index_pool (drop c.unit us) ≡ o → map (λ (i : Index). i.unit) is ≡ with_place o at places
    → ((js : List Index) → map (λ (i : Index). i.unit) js ≡ places → Follow us (at + c.units) js) → Follow us at is
follow_by None us c at places is unit piece e same on = follow_less us at (at + c.units) is (omega arith) (on is same)
follow_by (Some pool) us c at places [] unit piece e same on = absurd cc
follow_by (Some pool) us c at places (i ∷ is) unit piece e same on =
    let here : i.unit ≡ at = cc in
    let rest : map (λ (i : Index). i.unit) is ≡ places = cc in
    let r : HasRoom (drop c.unit us) c.units = has_room c.unit (drop c.unit us) c.units pool piece e in
    (omega (arith, here), follow_less us (after_index (is_wide_index (drop i.unit us)) i.unit) (at + c.units) is (omega (arith, after_by (is_wide_index (drop c.unit us)) c.unit c.units r.three r.two, ap (λ (k : ℕ). after_index (is_wide_index (drop k us)) k) (here ∙ sym unit), unit)) (on is rest))

pub follow_from : (us : List ℕ) (at : ℕ) (cs : List Cut) (is : List Index) → at ≤ length us → AreCut at (drop at us) cs [] → map (λ (i : Index). i.unit) is ≡ index_places at (map (cut_units us) cs) → Follow us at is
follow_from us at [] [] le cut same = le
follow_from us at [] (i ∷ is) le cut same = absurd cc
follow_from us at (c ∷ cs) is le cut same =
    let piece : IsPieceAt us c = subst (λ (k : ℕ). piece_size k (drop k us) ≡ Some c.units) (sym cut.0) cut.1 in
    let on = λ (js : List Index) (e : map (λ (i : Index). i.unit) js ≡ index_places (at + length (cut_units us c)) (map (cut_units us) cs)).
    follow_from us (at + c.units) cs js (omega (arith, (piece_size-fits at (drop at us) c.units cut.1).1, length-drop at us)) (subst (λ (xs : List ℕ). AreCut (at + c.units) xs cs []) (drop-drop c.units at us) cut.2)
    (e ∙ ap (λ (n : ℕ). index_places (at + n) (map (cut_units us) cs)) (cut_length us c piece)) in
    follow_by (index_pool (drop c.unit us)) us c at (index_places (at + length (cut_units us c)) (map (cut_units us) cs)) is cut.0 piece refl
    (same ∙ ap (λ (o : Option Pool). with_place o at (index_places (at + length (cut_units us c)) (map (cut_units us) cs))) (cut_pool us c piece)) on

pub stored_follow : (us : List ℕ) (is : List Index) → AreStored us is → Follow us 0 is
stored_follow us is s = follow_from us 0 (cuts_in us) is (omega arith) s.cut s.places

plain_units : (t : Bool) (xs : List ℕ) → numbered_units (cond t (Payload xs) (Instruction xs None)) ≡ xs
plain_units true xs = refl
plain_units false xs = refl

spelled_by : (o : Option Pool) (us : List ℕ) (c : Cut) (at : ℕ) (parts : List (List ℕ)) (places : List ℕ) (is : List Index) → c.unit ≡ at → IsPieceAt us c → index_pool (drop c.unit us) ≡ o → map (λ (i : Index). i.unit) is ≡ with_place o at places
    → ((js : List Index) → map (λ (i : Index). i.unit) js ≡ places → (Follow us (at + c.units) js) × (flat_map numbered_units (pieces_with parts js) ≡ spelled_from us (at + c.units) js))
    → numbered_units (piece_with o (cut_units us c) is) ++ flat_map numbered_units (pieces_with parts (left_by o is)) ≡ spelled_from us at is
spelled_by None us c at parts places is unit piece e same on =
    let o = on is same in
    ap (λ (xs : List ℕ). xs ++ flat_map numbered_units (pieces_with parts is)) (plain_units (is_payload_ident (slice_index (cut_units us c) 0)) (cut_units us c) ∙ ap (λ (k : ℕ). take c.units (drop k us)) unit)
    ∙ ap (λ (xs : List ℕ). take c.units (drop at us) ++ xs) o.1 ∙ sym (skip us at c.units is o.0)
spelled_by (Some pool) us c at parts places [] unit piece e same on = absurd cc
spelled_by (Some pool) us c at parts places (i ∷ is) unit piece e same on =
    let here : i.unit ≡ at = cc in
    let rest : map (λ (i : Index). i.unit) is ≡ places = cc in
    let there : c.unit ≡ i.unit = unit ∙ sym here in
    let o = on is rest in
    let rr : HasRoom (drop i.unit us) c.units = subst (λ (k : ℕ). HasRoom (drop k us) c.units) there (has_room c.unit (drop c.unit us) c.units pool piece e) in
    let first : slice_index (take c.units (drop i.unit us)) 0 ≡ slice_index (drop i.unit us) 0 = subst (λ (k : ℕ). slice_index (take c.units (drop k us)) 0 ≡ slice_index (drop k us) 0) there (cut_first us c piece) in
    let blank : is_wide_index (with_index 0 (take c.units (drop i.unit us))) ≡ is_wide_index (drop i.unit us) = same_wide (with_index 0 (take c.units (drop i.unit us))) (drop i.unit us) (first_kept 0 (take c.units (drop i.unit us)) ∙ first) in
    let j : after_index (is_wide_index (drop i.unit us)) i.unit ≡ i.unit + after_index (is_wide_index (drop i.unit us)) 0 = after_is (is_wide_index (drop i.unit us)) i.unit in
    let to : after_index (is_wide_index (drop i.unit us)) i.unit + (c.units - after_index (is_wide_index (drop i.unit us)) 0) ≡ at + c.units = omega (arith, after_by (is_wide_index (drop i.unit us)) i.unit c.units rr.three rr.two, j, here) in
    let one : i.unit + 1 - at ≡ 1 = omega (arith, here) in
    ap (λ (x : ℕ). with_index i.number (with_index 0 (take c.units (drop x us))) ++ flat_map numbered_units (pieces_with parts is)) there
    ∙ ap (λ (xs : List ℕ). xs ++ flat_map numbered_units (pieces_with parts is)) (put_by (is_wide_index (drop i.unit us)) (drop i.unit us) i.number c.units rr refl (same_wide (take c.units (drop i.unit us)) (drop i.unit us) first) blank)
    ∙ append_assoc (take 1 (drop i.unit us)) (index_units (is_wide_index (drop i.unit us)) i.number ++ take (c.units - after_index (is_wide_index (drop i.unit us)) 0) (drop (after_index (is_wide_index (drop i.unit us)) 0) (drop i.unit us))) (flat_map numbered_units (pieces_with parts is))
    ∙ ap (λ (xs : List ℕ). take 1 (drop i.unit us) ++ xs) (
    append_assoc (index_units (is_wide_index (drop i.unit us)) i.number) (take (c.units - after_index (is_wide_index (drop i.unit us)) 0) (drop (after_index (is_wide_index (drop i.unit us)) 0) (drop i.unit us))) (flat_map numbered_units (pieces_with parts is))
    ∙ ap (λ (xs : List ℕ). index_units (is_wide_index (drop i.unit us)) i.number ++ xs) (
    ap (λ (xs : List ℕ). take (c.units - after_index (is_wide_index (drop i.unit us)) 0) xs ++ flat_map numbered_units (pieces_with parts is)) (drop-drop (after_index (is_wide_index (drop i.unit us)) 0) i.unit us ∙ ap (λ (x : ℕ). drop x us) (sym j))
    ∙ ap (λ (xs : List ℕ). take (c.units - after_index (is_wide_index (drop i.unit us)) 0) (drop (after_index (is_wide_index (drop i.unit us)) i.unit) us) ++ xs) (o.1 ∙ ap (λ (x : ℕ). spelled_from us x is) (sym to))
    ∙ sym (skip us (after_index (is_wide_index (drop i.unit us)) i.unit) (c.units - after_index (is_wide_index (drop i.unit us)) 0) is (subst (λ (x : ℕ). Follow us x is) (sym to) o.0))))
    ∙ ap (λ (x : ℕ). take 1 (drop x us) ++ (index_units (is_wide_index (drop i.unit us)) i.number ++ spelled_from us (after_index (is_wide_index (drop i.unit us)) i.unit) is)) here
    ∙ ap (λ (x : ℕ). take x (drop at us) ++ (index_units (is_wide_index (drop i.unit us)) i.number ++ spelled_from us (after_index (is_wide_index (drop i.unit us)) i.unit) is)) (sym one)

pub spelled_all : (us : List ℕ) (at : ℕ) (cs : List Cut) (is : List Index) → at ≤ length us → AreCut at (drop at us) cs [] → map (λ (i : Index). i.unit) is ≡ index_places at (map (cut_units us) cs) → flat_map numbered_units (pieces_with (map (cut_units us) cs) is) ≡ spelled_from us at is
spelled_all us at [] [] le cut same = sym cut
spelled_all us at [] (i ∷ is) le cut same = absurd cc
spelled_all us at (c ∷ cs) is le cut same =
    let piece : IsPieceAt us c = subst (λ (k : ℕ). piece_size k (drop k us) ≡ Some c.units) (sym cut.0) cut.1 in
    let f : Fits (drop at us) c.units = piece_size-fits at (drop at us) c.units cut.1 in
    let l : length (drop at us) ≡ length us - at = length-drop at us in
    let cut_on : AreCut (at + c.units) (drop (at + c.units) us) cs [] = subst (λ (xs : List ℕ). AreCut (at + c.units) xs cs []) (drop-drop c.units at us) cut.2 in
    let on = λ (js : List Index) (e : map (λ (i : Index). i.unit) js ≡ index_places (at + length (cut_units us c)) (map (cut_units us) cs)).
    let g : map (λ (i : Index). i.unit) js ≡ index_places (at + c.units) (map (cut_units us) cs) = e ∙ ap (λ (n : ℕ). index_places (at + n) (map (cut_units us) cs)) (cut_length us c piece) in
    let both : (Follow us (at + c.units) js) × (flat_map numbered_units (pieces_with (map (cut_units us) cs) js) ≡ spelled_from us (at + c.units) js) =
    (follow_from us (at + c.units) cs js (omega (arith, f.1)) cut_on g, spelled_all us (at + c.units) cs js (omega (arith, f.1)) cut_on g) in
    both in
    ap (λ (o : Option Pool). numbered_units (piece_with o (cut_units us c) is) ++ flat_map numbered_units (pieces_with (map (cut_units us) cs) (left_by o is))) (cut_pool us c piece)
    ∙ spelled_by (index_pool (drop c.unit us)) us c at (map (cut_units us) cs) (index_places (at + length (cut_units us c)) (map (cut_units us) cs)) is cut.0 piece refl
    (same ∙ ap (λ (o : Option Pool). with_place o at (index_places (at + length (cut_units us c)) (map (cut_units us) cs))) (cut_pool us c piece)) on

-- the bytes of the pieces
pub stored_bytes : (us : List ℕ) (is : List Index) → AreStored us is → numbered_bytes (pieces_with (parts_in us) is) ≡ flat_map ushort (spelled_from us 0 is)
unfolding numbered_bytes
stored_bytes us is s = ap (flat_map ushort) (spelled_all us 0 (cuts_in us) is (omega arith) s.cut s.places)

-- ---- bytes

two_of : (ys : List ℕ) → 2 ≤ length ys → ((i : ℕ) → get_or ys i 0 < 256) → ushort (number_of (take 2 ys)) ≡ take 2 ys
unfolding ushort bytes_of number_of
two_of [] long small = absurd (omega arith)
two_of (a ∷ []) long small = absurd (omega arith)
two_of (a ∷ b ∷ ys) long small =
    let x : a < 256 = small 0 in
    let y : b < 256 = small 1 in
    let p : (a + 256 * (b + 256 * 0)) % 256 ≡ a = omega arith in
    let q : (a + 256 * (b + 256 * 0)) / 256 % 256 ≡ b = omega arith in ap (λ (u : ℕ). u ∷ ((a + 256 * (b + 256 * 0)) / 256 % 256) ∷ []) p ∙ ap (λ (u : ℕ). a ∷ u ∷ []) q

ushort_back : (b : List ℕ) (o : ℕ) → o + 2 ≤ length b → ((i : ℕ) → get_or b i 0 < 256) → ushort (ushort_at b o) ≡ take 2 (drop o b)
unfolding ushort_at
ushort_back b o le small = two_of (drop o b) (omega (arith, length-drop o b)) (λ i. subst (λ (x : ℕ). x < 256) (sym (get_or-drop o b i 0)) (small (o + i)))

bytes_of_units : (b : List ℕ) (o n : ℕ) → o + 2 * n ≤ length b → ((i : ℕ) → get_or b i 0 < 256) → flat_map ushort (ushorts_at b o n) ≡ take (2 * n) (drop o b)
bytes_of_units b o zero le small = refl
bytes_of_units b o (suc n) le small =
    let e : 2 * suc n ≡ 2 + 2 * n = omega arith in
    ap (λ (xs : List ℕ). xs ++ flat_map ushort (ushorts_at b (o + 2) n)) (ushort_back b o (omega arith) small)
    ∙ ap (λ (xs : List ℕ). take 2 (drop o b) ++ xs) (bytes_of_units b (o + 2) n (omega arith) small ∙ ap (take (2 * n)) (sym (drop-drop 2 o b)))
    ∙ sym (take-add 2 (2 * n) (drop o b)) ∙ ap (λ (k : ℕ). take k (drop o b)) (sym e)

pub ushorts_taken : (b : List ℕ) (o n k : ℕ) → k ≤ n → take k (ushorts_at b o n) ≡ ushorts_at b o k
ushorts_taken b o n zero le = refl
ushorts_taken b o zero (suc k) le = absurd (omega arith)
ushorts_taken b o (suc n) (suc k) le = ap (λ (us : List ℕ). ushort_at b o ∷ us) (ushorts_taken b (o + 2) n k (omega arith))

-- the bytes of units among those of a list
pub part_bytes : (b : List ℕ) (from to : ℕ) → from ≤ to → 2 * to ≤ length b → ((i : ℕ) → get_or b i 0 < 256) → flat_map ushort (take (to - from) (drop from (units_in b))) ≡ take (2 * (to - from)) (drop (2 * from) b)
part_bytes b from to le within small =
    let n : length b / 2 ≡ length (units_in b) = sym (length_from b) in
    ap (λ (xs : List ℕ). flat_map ushort (take (to - from) xs)) (ushorts_from b 0 (length b / 2) from (omega arith)) ∙ ap (flat_map ushort) (ushorts_taken b (0 + 2 * from) (length b / 2 - from) (to - from) (omega arith))
    ∙ bytes_of_units b (0 + 2 * from) (to - from) (omega arith) small ∙ let z : 0 + 2 * from ≡ 2 * from = omega arith in ap (λ (k : ℕ). take (2 * (to - from)) (drop k b)) z

-- the two halves of a number
pub halves : (n : ℕ) → uint n ≡ flat_map ushort (index_units true n)
unfolding uint ushort bytes_of
halves n =
    let a : n % 256 ≡ n % 65536 % 256 = omega arith in
    let b : n / 256 % 256 ≡ n % 65536 / 256 % 256 = omega arith in let c : n / 256 / 256 % 256 ≡ n / 65536 % 256 = omega arith in let d : n / 256 / 256 / 256 % 256 ≡ n / 65536 / 256 % 256 = omega arith in cc

append_nil : (xs : List ℕ) → xs ≡ xs ++ []
append_nil [] = refl
append_nil (x ∷ xs) = ap (λ (ys : List ℕ). x ∷ ys) (append_nil xs)

pub one_half : (n : ℕ) → ushort n ≡ flat_map ushort (index_units false n)
one_half n = append_nil (ushort n)

-- ---- the loop

index_length : (w : Bool) (n unit : ℕ) → unit + 1 + length (index_units w n) ≡ after_index w unit
index_length true n unit = omega arith
index_length false n unit = omega arith

after_is_more : (w : Bool) (unit : ℕ) → unit + 1 < after_index w unit
after_is_more true unit = omega arith
after_is_more false unit = omega arith

pub follow_within : (us : List ℕ) (from : ℕ) (is : List Index) → Follow us from is → from ≤ length us
follow_within us from [] h = h
follow_within us from (i ∷ is) h = omega (arith, h.0, after_is_more (is_wide_index (drop i.unit us)) i.unit, follow_within us (after_index (is_wide_index (drop i.unit us)) i.unit) is h.1)

pub next_is : (is : List Index) (i : ℕ) (d : Index) → i < length is → drop i is ≡ get_or is i d ∷ drop (i + 1) is
next_is is i d lt = drop-cons is i d lt ∙ ap (λ (k : ℕ). get_or is i d ∷ drop k is) (sym (add-one i))

-- what is known at the next index
pub record Next (us : List ℕ) (from : ℕ) (x : Index) (rest : List Index) : Type 0 where
  pub first : from ≤ x.unit
  pub inside : x.unit + 1 < length us
  pub later : Follow us (after_index (is_wide_index (drop x.unit us)) x.unit) rest
  pub end : after_index (is_wide_index (drop x.unit us)) x.unit ≤ length us

pub next_index : (us : List ℕ) (from : ℕ) (is : List Index) (i : ℕ) (d : Index) → i < length is → Follow us from (drop i is) → Next us from (get_or is i d) (drop (i + 1) is)
next_index us from is i d lt h =
    let g : Follow us from (get_or is i d ∷ drop (i + 1) is) = subst (Follow us from) (next_is is i d lt) h in
    let on : after_index (is_wide_index (drop (get_or is i d).unit us)) (get_or is i d).unit ≤ length us = follow_within us (after_index (is_wide_index (drop (get_or is i d).unit us)) (get_or is i d).unit) (drop (i + 1) is) g.1 in
    record { first = g.0; inside = omega (arith, on, after_is_more (is_wide_index (drop (get_or is i d).unit us)) (get_or is i d).unit); later = g.1; end = on }

-- the bytes of a part, of an index, and of what follows
next_parts : (us : List ℕ) (from : ℕ) (x : Index) (is : List Index) (w : Bool) → w ≡ is_wide_index (drop x.unit us)
    → flat_map ushort (spelled_from us from (x ∷ is)) ≡ bytes_between us from (x.unit + 1) ++ (flat_map ushort (index_units w x.number) ++ flat_map ushort (spelled_from us (after_index w x.unit) is))
next_parts us from x is w wide =
    ap (λ (v : Bool). flat_map ushort (take (x.unit + 1 - from) (drop from us) ++ (index_units v x.number ++ spelled_from us (after_index v x.unit) is))) (sym wide)
    ∙ flat_map-append ushort (take (x.unit + 1 - from) (drop from us)) (index_units w x.number ++ spelled_from us (after_index w x.unit) is)
    ∙ ap (λ (xs : List ℕ). bytes_between us from (x.unit + 1) ++ xs) (flat_map-append ushort (index_units w x.number) (spelled_from us (after_index w x.unit) is))

-- a part and an index more
pub put_more : {O : Type 0} (gives : List ℕ → O → O → Type 0) (both : (x y : List ℕ) (a b c : O) → gives x a b → gives y b c → gives (x ++ y) a c) (us : List ℕ) (from : ℕ) (is : List Index) (i : ℕ) (d : Index) (w : Bool) (whole : List ℕ) (start a b c : O)
    → i < length is → w ≡ is_wide_index (drop (get_or is i d).unit us)
    → Completes gives (flat_map ushort (spelled_from us from (drop i is))) a whole start
    → gives (bytes_between us from ((get_or is i d).unit + 1)) a b
    → gives (flat_map ushort (index_units w (get_or is i d).number)) b c
    → Completes gives (flat_map ushort (spelled_from us (after_index w (get_or is i d).unit) (drop (i + 1) is))) c whole start
put_more gives both us from is i d w whole start a b c lt wide before part index =
    let rest = flat_map ushort (spelled_from us (after_index w (get_or is i d).unit) (drop (i + 1) is)) in
    let number = flat_map ushort (index_units w (get_or is i d).number) in
    let parts = ap (λ (js : List Index). flat_map ushort (spelled_from us from js)) (next_is is i d lt) ∙ next_parts us from (get_or is i d) (drop (i + 1) is) w wide in
    completes_more gives both number rest (number ++ rest) whole start b c refl
    (completes_more gives both (bytes_between us from ((get_or is i d).unit + 1)) (number ++ rest) (flat_map ushort (spelled_from us from (drop i is))) whole start a b parts before part) index

-- the units after the last index
pub put_last : {O : Type 0} (gives : List ℕ → O → O → Type 0) (us : List ℕ) (from n : ℕ) (is : List Index) (i : ℕ) (whole : List ℕ) (start a b : O) → length is ≤ i → n ≡ length us → from ≤ length us
    → Completes gives (flat_map ushort (spelled_from us from (drop i is))) a whole start → gives (bytes_between us from n) a b → gives whole start b
put_last gives us from n is i whole start a b end size le before last =
    before.on b (subst (λ (bs : List ℕ). gives bs a b)
    (ap (flat_map ushort) (take_all (n - from) (drop from us) (omega (arith, length-drop from us))) ∙ ap (λ (js : List Index). flat_map ushort (spelled_from us from js)) (sym (drop_all i is end))) last)

-- ---- lengths

spelled_length : (us : List ℕ) (from : ℕ) (is : List Index) → Follow us from is → length (spelled_from us from is) ≡ length us - from
spelled_length us from [] h = length-drop from us
spelled_length us from (i ∷ is) h =
    let later : length (spelled_from us (after_index (is_wide_index (drop i.unit us)) i.unit) is) ≡ length us - after_index (is_wide_index (drop i.unit us)) i.unit = spelled_length us (after_index (is_wide_index (drop i.unit us)) i.unit) is h.1 in
    let end : after_index (is_wide_index (drop i.unit us)) i.unit ≤ length us = follow_within us (after_index (is_wide_index (drop i.unit us)) i.unit) is h.1 in
    let more : i.unit + 1 < after_index (is_wide_index (drop i.unit us)) i.unit = after_is_more (is_wide_index (drop i.unit us)) i.unit in
    let width : i.unit + 1 + length (index_units (is_wide_index (drop i.unit us)) i.number) ≡ after_index (is_wide_index (drop i.unit us)) i.unit = index_length (is_wide_index (drop i.unit us)) i.number i.unit in
    let b = length-append (index_units (is_wide_index (drop i.unit us)) i.number) (spelled_from us (after_index (is_wide_index (drop i.unit us)) i.unit) is) in
    omega (arith, length-append (take (i.unit + 1 - from) (drop from us)) (index_units (is_wide_index (drop i.unit us)) i.number ++ spelled_from us (after_index (is_wide_index (drop i.unit us)) i.unit) is), b, h.0, length-take-le (i.unit + 1 - from) (drop from us) (omega (arith, h.0, length-drop from us)))

length-ushorts : (xs : List ℕ) → length (flat_map ushort xs) ≡ 2 * length xs
length-ushorts [] = refl
length-ushorts (x ∷ xs) = omega (arith, length-append (ushort x) (flat_map ushort xs), length-ushort x, length-ushorts xs)

-- two bytes are put for each unit
pub bytes_bound : (ps : List NumberedPiece) → length (numbered_bytes ps) ≤ 2 * unit_count ps
unfolding numbered_bytes
bytes_bound ps = omega (arith, length-ushorts (flat_map numbered_units ps))

-- two bytes for each unit
pub stored_length : (us : List ℕ) (is : List Index) → AreStored us is → length (numbered_bytes (pieces_with (parts_in us) is)) ≡ 2 * length us
stored_length us is s =
    let z : 2 * (length us - 0) ≡ 2 * length us = omega arith in ap length (stored_bytes us is s) ∙ length-ushorts (spelled_from us 0 is) ∙ ap (λ (n : ℕ). 2 * n) (spelled_length us 0 is (stored_follow us is s)) ∙ z
