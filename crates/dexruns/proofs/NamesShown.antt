-- Names with their control characters escaped.
use Rattle.std.proofs.Common.{◌≡◌, ℕ, ◌+◌, ◌/◌, ◌%◌, ◌<◌, nat_lt, ◌==◌, ◌||◌, if◌then◌else◌, Bool, true, false, ◌≤◌, List, [], ◌∷◌, ◌++◌, length, get_or, take, drop, All, refl, sym, ap, ◌∙◌, append_assoc, arith}
use Rattle.std.proofs.lemmas.Bool.{le-ltb, ltb-true, eqb-true, ne_eqb}
use Rattle.std.proofs.lemmas.Grind.{flat_map-append}
use Rattle.std.proofs.lemmas.List.{drop_more, take_more, take-append-drop}
use Rattle.std.proofs.lemmas.List.Elements.{All-nil, All-cons, All-append}
use Rattle.dexstr.specs.Escapes.{escaped, hexadecimal_digit}
use Rattle.dexruns.specs.Names.{is_control, name_byte, escaped_name, IsFirstControl}

one_plain : (b : ℕ) → is_control b ≡ false → escaped_name (b ∷ []) ≡ b ∷ []
one_plain b plain = ap (λ t. (if t then escaped b else b ∷ []) ++ []) plain

-- one more byte that is no control character
pub plain_more : (bs : List ℕ) (i : ℕ) → i < length bs → is_control (get_or bs i 0) ≡ false → escaped_name (take i bs) ≡ take i bs → escaped_name (take (i + 1) bs) ≡ take (i + 1) bs
plain_more bs i lt plain before =
    ap escaped_name (take_more bs i 0 lt) ∙ flat_map-append name_byte (take i bs) (get_or bs i 0 ∷ []) ∙ ap (λ l. l ++ escaped_name (get_or bs i 0 ∷ [])) before
    ∙ ap (λ l. take i bs ++ l) (one_plain (get_or bs i 0) plain) ∙ sym (take_more bs i 0 lt)

one_control : (b : ℕ) (rest : List ℕ) → is_control b ≡ true → escaped_name (b ∷ rest) ≡ escaped b ++ escaped_name rest
one_control b rest control = ap (λ t. (if t then escaped b else b ∷ []) ++ escaped_name rest) control

-- a name up to its first control character, that one, and the rest
split_name : (bs : List ℕ) (i : ℕ) → IsFirstControl bs i → escaped_name bs ≡ take i bs ++ (escaped (get_or bs i 0) ++ escaped_name (drop (i + 1) bs))
split_name bs i first =
    ap escaped_name (sym (take-append-drop i bs)) ∙ flat_map-append name_byte (take i bs) (drop i bs) ∙ ap (λ l. l ++ escaped_name (drop i bs)) first.plain
    ∙ ap (λ l. take i bs ++ escaped_name l) (drop_more bs i 0 first.within) ∙ ap (λ l. take i bs ++ l) (one_control (get_or bs i 0) (drop (i + 1) bs) first.control)

-- the text with what is left of the name is as it was, where the name up to that character is appended, and the character
pub printed_more : (old mid new rest all : List ℕ) (i : ℕ) → IsFirstControl rest i → mid ≡ old ++ take i rest → new ≡ mid ++ escaped (get_or rest i 0) → old ++ escaped_name rest ≡ all →
    new ++ escaped_name (drop (i + 1) rest) ≡ all
printed_more old mid new rest all i first mid_is new_is before =
    ap (λ l. l ++ escaped_name (drop (i + 1) rest)) (new_is ∙ ap (λ l. l ++ escaped (get_or rest i 0)) mid_is)
    ∙ append_assoc (old ++ take i rest) (escaped (get_or rest i 0)) (escaped_name (drop (i + 1) rest))
    ∙ append_assoc old (take i rest) (escaped (get_or rest i 0) ++ escaped_name (drop (i + 1) rest))
    ∙ ap (λ l. old ++ l) (sym (split_name rest i first)) ∙ before

not_control : (x : ℕ) → 32 ≤ x → x < 127 → is_control x ≡ false
not_control x above below = rw (le-ltb x 32 above, ne_eqb x 127 (λ e. omega (arith, e, below))) refl

digit_bounds : (low : Bool) (m : ℕ) → m < 16 → (32 ≤ (if low then m + 48 else m + 87)) × ((if low then m + 48 else m + 87) < 127)
digit_bounds true m h = (omega (arith, h), omega (arith, h))
digit_bounds false m h = (omega (arith, h), omega (arith, h))

digit_plain : (n : ℕ) → is_control (hexadecimal_digit n) ≡ false
digit_plain n =
    let small : n % 16 < 16 = omega arith in
    let bounds = digit_bounds (nat_lt (n % 16) 10) (n % 16) small in
    not_control (hexadecimal_digit n) bounds.0 bounds.1

abbrev IsPlain : ℕ → Type 0
IsPlain b = is_control b ≡ false

one_more : (b : ℕ) (bs : List ℕ) → is_control b ≡ false → All IsPlain bs → All IsPlain (b ∷ bs)
one_more b bs e h = All-cons IsPlain b bs e h

escaped_plain : (b : ℕ) → All IsPlain (escaped b)
escaped_plain b =
    let first = hexadecimal_digit (b / 4096) in
    let second = hexadecimal_digit (b / 256) in
    let third = hexadecimal_digit (b / 16) in
    let last = hexadecimal_digit b in
    one_more 0x5c (0x75 ∷ first ∷ second ∷ third ∷ last ∷ []) refl
    (one_more 0x75 (first ∷ second ∷ third ∷ last ∷ []) refl
    (one_more first (second ∷ third ∷ last ∷ []) (digit_plain (b / 4096))
    (one_more second (third ∷ last ∷ []) (digit_plain (b / 256))
    (one_more third (last ∷ []) (digit_plain (b / 16)) (one_more last [] (digit_plain b) (All-nil IsPlain))))))

byte_plain : (b : ℕ) (t : Bool) → is_control b ≡ t → All IsPlain (if t then escaped b else b ∷ [])
byte_plain b true e = escaped_plain b
byte_plain b false e = All-cons IsPlain b [] e (All-nil IsPlain)

-- no byte of such a name is a control character
pub plain_name : (name : List ℕ) → All (λ byte. is_control byte ≡ false) (escaped_name name)
plain_name [] = All-nil IsPlain
plain_name (b ∷ bs) = All-append IsPlain (name_byte b) (escaped_name bs) (byte_plain b (is_control b) refl) (plain_name bs)

ascii_by : (b : ℕ) (low : Bool) → nat_lt b 0x20 ≡ low → (low || (b == 0x7f)) ≡ true → b < 128
ascii_by b true e h = omega (arith, ltb-true b 0x20 e)
ascii_by b false e h = omega (arith, eqb-true b 0x7f h)

-- a control character is in ASCII
pub control_is_ascii : (b : ℕ) → is_control b ≡ true → b < 128
control_is_ascii b e = ascii_by b (nat_lt b 0x20) refl e
