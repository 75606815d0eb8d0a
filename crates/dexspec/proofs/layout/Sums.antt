-- The magic and the two sums before the bytes that they cover: conditions 2, 3, 7 and 8.
use Rattle.dexspec.proofs.Common.{◌≡◌, ℕ, zero, suc, ◌+◌, ◌*◌, ◌/◌, ◌^◌, ◌<◌, List, [], ◌∷◌, ◌++◌, length, take, drop, refl, sym, ap, ◌∙◌, arith, slice_index, w32, to_be_bytes, length-append, take_at, drop_at, All-nil, All-cons, drop-append-add}
use Rattle.sha1.specs.Sha1.{sha1, digest_bytes, hash_after, padded_message}
use Rattle.dexspec.specs.{uint, BytesAt, adler_step, adler_sums, adler_32, HasMagic, HasVersion, HasChecksum, HasSignature, IsDigit, magic, with_sums}
use Rattle.dexspec.proofs.written.PlacedBytes.{is_at_first, is_at_later, is_at}
use Rattle.dexspec.proofs.numbers.ByteNumbers.{length-uint, uint_at-encodes}

-- ---- SHA-1

-- n words have 4 * n bytes
length-digest_bytes : (h : List ℕ) (n : ℕ) → length (digest_bytes h n) ≡ 4 * n
unfolding digest_bytes
length-digest_bytes h zero = refl
length-digest_bytes h (suc n) =
    let four : length (to_be_bytes w32 (slice_index h n)) ≡ 4 = refl in
    length-append (digest_bytes h n) (to_be_bytes w32 (slice_index h n)) ∙ omega (arith, length-digest_bytes h n, four)

-- a digest has 20 bytes
pub length-sha1 : (x : List ℕ) → length (sha1 x) ≡ 20
unfolding sha1
length-sha1 x = length-digest_bytes (hash_after (padded_message x) (length (padded_message x) / 64)) 5

-- ---- Adler-32

-- both sums are below the modulus
record AreSums (s : ℕ × ℕ) : Type 0 where
  first : s.0 < 65521
  second : s.1 < 65521

-- they stay below the modulus
sums_stay : (bytes : List ℕ) (s : ℕ × ℕ) → AreSums s → AreSums (adler_sums s bytes)
sums_stay [] s h = h
sums_stay (x ∷ xs) s h = sums_stay xs (adler_step s x) (record { first = omega arith; second = omega arith })

-- the sum fits four bytes
pub adler_32_small : (bytes : List ℕ) → adler_32 bytes < 2 ^ 32
unfolding adler_32
adler_32_small bytes = let h = sums_stay bytes (1, 0) (record { first = omega arith; second = omega arith }) in omega (arith, h.first, h.second)

-- ---- a file with its sums

-- the bytes after a list and more
drop_after : (p q : List ℕ) (n m : ℕ) → length p ≡ n → drop (n + m) (p ++ q) ≡ drop m q
drop_after p q n m e = ap (λ k. drop (k + m) (p ++ q)) (sym e) ∙ drop-append-add p q m

-- the bytes after the sums
pub with_sums_is_at : {rest x : List ℕ} {o : ℕ} → BytesAt rest o x → BytesAt (with_sums rest) (32 + o) x
unfolding with_sums
with_sums_is_at {rest} {x} {o} h =
    let s = uint (adler_32 (sha1 rest ++ rest)) in
    is_at (omega (arith, length-uint (adler_32 (sha1 rest ++ rest)), length-sha1 rest)) (is_at_later magic (is_at_later s (is_at_later (sha1 rest) h)))

-- magic and sums have 32 bytes
pub length-with_sums : (rest : List ℕ) → length (with_sums rest) ≡ 32 + length rest
unfolding with_sums
length-with_sums rest =
    let s = uint (adler_32 (sha1 rest ++ rest)) in
    omega (arith, length-append s (sha1 rest ++ rest), length-append (sha1 rest) rest, length-uint (adler_32 (sha1 rest ++ rest)), length-sha1 rest)

-- 2 Magic
pub with_sums_magic : (rest : List ℕ) → HasMagic (with_sums rest)
unfolding with_sums
with_sums_magic rest = record {
  word = refl;
  digits = All-cons IsDigit 0x30 (0x33 ∷ 0x35 ∷ []) (omega arith, omega arith) (All-cons IsDigit 0x33 (0x35 ∷ []) (omega arith, omega arith) (All-cons IsDigit 0x35 [] (omega arith, omega arith) (All-nil IsDigit)));
  end = refl;
}

-- 3 Version
pub with_sums_version : (rest : List ℕ) → HasVersion (with_sums rest)
unfolding with_sums
with_sums_version rest = refl

-- 7 Checksum
pub with_sums_checksum : (rest : List ℕ) → HasChecksum (with_sums rest)
unfolding with_sums
with_sums_checksum rest =
    let body = sha1 rest ++ rest in
    let n = adler_32 body in
    uint_at-encodes (adler_32_small body) (is_at refl (is_at_later magic (is_at_first (uint n) body)))
    ∙ ap adler_32 (sym (drop_at (uint n) body 4 (length-uint n)))

-- 8 Signature
pub with_sums_signature : (rest : List ℕ) → HasSignature (with_sums rest)
unfolding with_sums
with_sums_signature rest =
    let body = sha1 rest ++ rest in
    let n = adler_32 body in
    ap (take 20) (drop_at (uint n) body 4 (length-uint n)) ∙ take_at (sha1 rest) rest 20 (length-sha1 rest)
    ∙ ap sha1 (sym (drop_after (uint n) body 4 20 (length-uint n) ∙ drop_at (sha1 rest) rest 20 (length-sha1 rest)))
