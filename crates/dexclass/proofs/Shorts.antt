-- Numbers that are kept in two bytes each.
use Rattle.std.specs.Prelude.{◌/◌, slice_range}
use Rattle.dexclass.proofs.Common.{◌≡◌, ℕ, ◌+◌, ◌-◌, ◌*◌, ◌<◌, ◌≤◌, List, [], ◌∷◌, ◌++◌, length, take, drop, refl, sym, ap, ◌∙◌, subst, arith, append-nil, flat_map, flat_map-append, All, All-head, All-tail, All-push, ushort_at, ushorts_at, length-ushorts_at}
use Rattle.dexspec.specs.Bytes.{ushort, BytesAt}
use Rattle.dexspec.proofs.numbers.ByteNumbers.{length-ushort, ushort_at-encodes}
use Rattle.dexspec.proofs.written.PlacedBytes.{is_at, is_at_whole, length_rows}
use Rattle.dexspec.proofs.written.NumbersWritten.{prefix_is_at, suffix_is_at}
use Rattle.dexids.specs.Reading.{HasSpan, file_numbers}
use Rattle.dexids.specs.declared.rows.Span.{Span}
use Rattle.dexids.proofs.FileLists.{bytes_of_part}

-- bytes from one number to another encode a part of the numbers
pub shorts_between : (whole part : List ℕ) (start end : ℕ) → start ≤ end → end ≤ length whole / 2 → part ≡ take (2 * (end - start)) (drop (2 * start) whole)
    → ushorts_at part 0 (length part / 2) ≡ slice_range (ushorts_at whole 0 (length whole / 2)) start end
shorts_between whole part start end ordered room e =
    let s : Span = record { start = start; end = end } in
    let within : HasSpan (file_numbers whole) s = record { ordered = ordered; within = omega (arith, room, length-ushorts_at whole 0 (length whole / 2)) } in
    bytes_of_part whole part s within e

-- the numbers have room in two bytes each, and the bytes are these
pub record AreShorts (bytes numbers : List ℕ) : Type 0 where
  pub spelled : bytes ≡ flat_map ushort numbers
  pub small : All (λ n. n < 65536) numbers

pub shorts_more : (bytes more numbers : List ℕ) (n : ℕ) → AreShorts bytes numbers → n < 65536 → more ≡ bytes ++ ushort n → AreShorts more (numbers ++ n ∷ [])
shorts_more bytes more numbers n are lt e = record {
  spelled = e ∙ ap (λ (l : List ℕ). l ++ ushort n) are.spelled ∙ ap (λ (l : List ℕ). flat_map ushort numbers ++ l) (sym (append-nil (ushort n))) ∙ sym (flat_map-append ushort numbers (n ∷ []));
  small = All-push (λ (v : ℕ). v < 65536) numbers n are.small lt;
}

-- numbers that bytes encode from an offset on are read there
shorts_at : (b : List ℕ) (o : ℕ) (ns : List ℕ) → All (λ n. n < 65536) ns → BytesAt b o (flat_map ushort ns) → ushorts_at b o (length ns) ≡ ns
shorts_at b o [] are h = refl
shorts_at b o (n ∷ ns) are h =
    let small = λ (v : ℕ). v < 65536 in
    let rest = flat_map ushort ns in
    let first : ushort_at b o ≡ n = ushort_at-encodes (All-head small n ns are) (prefix_is_at (ushort n) rest h) in
    let others : ushorts_at b (o + 2) (length ns) ≡ ns = shorts_at b (o + 2) ns (All-tail small n ns are) (is_at (omega (arith, length-ushort n)) (suffix_is_at (ushort n) rest h)) in
    λ i. first i ∷ others i

-- the bytes encode the numbers
pub shorts_read : (bytes numbers : List ℕ) → AreShorts bytes numbers → ushorts_at bytes 0 (length bytes / 2) ≡ numbers
shorts_read bytes numbers are =
    let size : length bytes ≡ 2 * length numbers = ap length are.spelled ∙ length_rows ushort 2 length-ushort numbers in
    let half : length bytes / 2 ≡ length numbers = omega (arith, size) in
    ap (ushorts_at bytes 0) half ∙ shorts_at bytes 0 numbers are.small (subst (λ (l : List ℕ). BytesAt l 0 (flat_map ushort numbers)) (sym are.spelled) (is_at_whole (flat_map ushort numbers)))
