-- A file whose sums are set.
use Rattle.dexhead.proofs.Common.{◌≡◌, ℕ, ◌+◌, ◌-◌, ◌≤◌, List, ◌++◌, length, take, drop, refl, sym, ap, ◌∙◌, arith, drop_at, drop-drop, length-take-le, take_at, take-append-le, take-take, take_rest, drop-append-add, sha1, little_bytes, uint, adler_32, HasChecksum, HasSignature, length-uint, uint_at-encodes, is_at_first, is_at_later, is_at, signed, with_sums_set}
use Rattle.dexspec.proofs.layout.Sums.{length-sha1, adler_32_small}
use Rattle.dexio.proofs.Spelled.{four_bytes}
use borrow.Rule.Slice.PartMut.{put_mid}

overwritten : (a k n : ℕ) (xs ys : List ℕ) → a + k ≡ n → put_mid a k xs ys ≡ take a xs ++ (ys ++ drop n xs)
overwritten a k n xs ys e = ap (λ zs. take a xs ++ (ys ++ zs)) (drop-drop k a xs ∙ ap (λ i. drop i xs) e)

pub signature_set : (f d : List ℕ) → d ≡ sha1 (take (length f - 32) (drop 32 f)) → put_mid 12 20 f d ≡ take 12 f ++ signed f
unfolding signed
signature_set f d e = overwritten 12 20 32 f d refl ∙ ap (λ ys. take 12 f ++ (ys ++ drop 32 f)) (e ∙ ap sha1 (take_rest f 32))

pub checksum_set : (f d : List ℕ) (n : ℕ) → d ≡ little_bytes 4 n → n ≡ adler_32 (take (length f - 12) (drop 12 f)) → put_mid 8 4 f d ≡ take 8 f ++ (uint (adler_32 (drop 12 f)) ++ drop 12 f)
checksum_set f d n e s = overwritten 8 4 12 f d refl ∙ ap (λ ys. take 8 f ++ (ys ++ drop 12 f)) (e ∙ sym (four_bytes n) ∙ ap uint (s ∙ ap adler_32 (take_rest f 12)))

pub sums_set : (f g h : List ℕ) → 32 ≤ length f → g ≡ take 12 f ++ signed f → h ≡ take 8 g ++ (uint (adler_32 (drop 12 g)) ++ drop 12 g) → h ≡ with_sums_set f
unfolding with_sums_set
sums_set f g h long e e' =
    let prefix : take 8 g ≡ take 8 f = ap (take 8) e ∙ take-append-le 8 (take 12 f) (signed f) (omega (arith, length-take-le 12 f (omega arith))) ∙ take-take 8 12 f (omega arith) in
    e' ∙ ap (λ xs. xs ++ (uint (adler_32 (drop 12 g)) ++ drop 12 g)) prefix ∙ ap (λ xs. take 8 f ++ (uint (adler_32 xs) ++ xs)) (ap (drop 12) e ∙ drop_at (take 12 f) (signed f) 12 (length-take-le 12 f (omega arith)))

-- what follows a part of this length and more
pub drop_after : (part rest : List ℕ) (n m : ℕ) → length part ≡ n → drop (n + m) (part ++ rest) ≡ drop m rest
drop_after part rest n m e = ap (λ k. drop (k + m) (part ++ rest)) (sym e) ∙ drop-append-add part rest m

-- sums that are set are right
checksum_is : (prefix body : List ℕ) → length prefix ≡ 8 → HasChecksum (prefix ++ (uint (adler_32 body) ++ body))
checksum_is prefix body eight =
    let n = adler_32 body in
    uint_at-encodes (adler_32_small body) (is_at (omega (arith, eight)) (is_at_later prefix (is_at_first (uint n) body)))
    ∙ ap adler_32 (sym (drop_after prefix (uint n ++ body) 8 4 eight ∙ drop_at (uint n) body 4 (length-uint n)))

signature_is : (prefix checksum rest : List ℕ) → length prefix ≡ 8 → length checksum ≡ 4 → HasSignature (prefix ++ (checksum ++ (sha1 rest ++ rest)))
signature_is prefix checksum rest eight four =
    let body = sha1 rest ++ rest in
    ap (take 20) (drop_after prefix (checksum ++ body) 8 4 eight ∙ drop_at checksum body 4 four) ∙ take_at (sha1 rest) rest 20 (length-sha1 rest)
    ∙ ap sha1 (sym (drop_after prefix (checksum ++ body) 8 24 eight ∙ drop_after checksum body 4 20 four ∙ drop_at (sha1 rest) rest 20 (length-sha1 rest)))

pub has_checksum_set : (file : List ℕ) → 32 ≤ length file → HasChecksum (with_sums_set file)
unfolding with_sums_set
has_checksum_set file long = checksum_is (take 8 file) (signed file) (length-take-le 8 file (omega arith))

pub has_signature_set : (file : List ℕ) → 32 ≤ length file → HasSignature (with_sums_set file)
unfolding with_sums_set signed
has_signature_set file long = signature_is (take 8 file) (uint (adler_32 (signed file))) (drop 32 file) (length-take-le 8 file (omega arith)) (length-uint (adler_32 (signed file)))
