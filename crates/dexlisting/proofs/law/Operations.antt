-- The operations of a debug program are read back.
use Rattle.dexspec.proofs.Common.{◌≡◌, ℕ, ℤ, ◌<◌, ◌^◌, List, [], ◌++◌, Option, Some, None, refl, sym, ap, ◌∙◌, arith, codes, append_assoc, append_cancel_left}
use Rattle.dexspec.specs.Texts.{Text, AreUnits}
use Rattle.dexspec.specs.Debug.{Operation, AdvancePc, AdvanceLine, StartLocal, StartLocalExtended, EndLocal, RestartLocal, SetPrologueEnd, SetEpilogueBegin, SetFile, Special}
use Rattle.dexspec.specs.Mentions.{optional_text, optional_type, operation_symbols}
use Rattle.dexspec.specs.WellFormed.{IsOperation}
use Rattle.dexout.specs.Printed.{quoted, count_text, place_text}
use Rattle.dexlisting.specs.FullListing.{signed_text, register_text, text_or_dash, local_text, operation_text}
use Rattle.dexlisting.proofs.law.Reads.{Reads, Anything, Ends, IfAny, skip, part, reads_words}
use Rattle.dexlisting.proofs.law.Words.{not_both}
use Rattle.dexlisting.proofs.law.Parts.{reads_both}
use Rattle.dexlisting.proofs.law.Numbers.{is_digit, reads_place, reads_count, reads_register, reads_signed, same_signed, fits_int}
use Rattle.dexlisting.proofs.law.Texts.{reads_text_or_dash}
use Rattle.dexlisting.proofs.law.Types.{KnownType, reads_type_or_dash}
use Rattle.dexlisting.proofs.law.Symbols.{KnownSymbol}
use Rattle.dexlisting.proofs.law.Goods.{Knows}
use Rattle.dexlisting.proofs.law.Lists.{each_append}

-- its operands fit, and its texts and types are known
abbrev pub KnownOperation : Operation → Type 0
KnownOperation op = IsOperation op × Knows (operation_symbols op)

-- ---- texts and types that may be absent

-- a text
pub known_text : (s : Option Text) → Knows (optional_text s) → IfAny AreUnits s
known_text None h = tt
known_text (Some s) h = h.0

-- a type
pub known_type : (t : Option Text) → Knows (optional_type t) → IfAny KnownType t
known_type None h = tt
known_type (Some t) h = h.0

-- a register, a name and a type
abbrev Local : Type 0
Local = ℕ × (Option Text × Option Text)

-- of a local variable
reads_local : Reads {X = Local} (λ p. (p.0 < 2 ^ 64) × (IfAny AreUnits p.1.0 × IfAny KnownType p.1.1)) Anything (λ p. local_text p.0 p.1.0 p.1.1)
reads_local = reads_both reads_register (λ y r g f. refl) (reads_words (codes " ") (reads_both reads_text_or_dash (λ y r g f. tt) (reads_words (codes " ") reads_type_or_dash)))

-- and its signature
reads_extended : Reads {X = Local × Option Text} (λ p. ((p.0.0 < 2 ^ 64) × (IfAny AreUnits p.0.1.0 × IfAny KnownType p.0.1.1)) × IfAny AreUnits p.1) Anything (λ p. local_text p.0.0 p.0.1.0 p.0.1.1 ++ (codes " " ++ text_or_dash quoted p.1))
reads_extended = reads_both reads_local (λ y r g f. tt) (reads_words (codes " ") reads_text_or_dash)

-- what is known of a local variable
known_local : (register : ℕ) (name type : Option Text) → register < 2 ^ 32 → Knows (optional_text name) → Knows (optional_type type) → (register < 2 ^ 64) × (IfAny AreUnits name × IfAny KnownType type)
known_local register name type lt n t = (omega (arith, lt), (known_text name n, known_type type t))

-- ---- an operation

-- its words
abbrev word : Operation → List ℕ
word (AdvancePc addresses) = codes "advance-pc "
word (AdvanceLine lines) = codes "advance-line "
word (StartLocal register name type) = codes "start-local "
word (StartLocalExtended register name type signature) = codes "start-local-extended "
word (EndLocal register) = codes "end-local "
word (RestartLocal register) = codes "restart-local "
word SetPrologueEnd = codes "set-prologue-end"
word SetEpilogueBegin = codes "set-epilogue-begin"
word (SetFile name) = codes "set-file "
word (Special opcode) = codes "position "

-- what is after them, from an address and a line on
abbrev after_word : ℕ → ℤ → Operation → List ℕ
after_word a l (AdvancePc addresses) = count_text [] addresses
after_word a l (AdvanceLine lines) = signed_text lines
after_word a l (StartLocal register name type) = local_text register name type
after_word a l (StartLocalExtended register name type signature) = local_text register name type ++ (codes " " ++ text_or_dash quoted signature)
after_word a l (EndLocal register) = register_text register
after_word a l (RestartLocal register) = register_text register
after_word a l SetPrologueEnd = []
after_word a l SetEpilogueBegin = []
after_word a l (SetFile name) = text_or_dash quoted name
after_word a l (Special opcode) = place_text a ++ (codes " line=" ++ (signed_text l ++ count_text (codes " opcode=") opcode))

-- both are the text
split : (a : ℕ) (l : ℤ) (op : Operation) → operation_text a l op ≡ word op ++ after_word a l op
unfolding count_text
split a l (AdvancePc addresses) = refl
split a l (AdvanceLine lines) = refl
split a l (StartLocal register name type) = refl
split a l (StartLocalExtended register name type signature) = refl
split a l (EndLocal register) = refl
split a l (RestartLocal register) = refl
split a l SetPrologueEnd = refl
split a l SetEpilogueBegin = refl
split a l (SetFile name) = refl
split a l (Special opcode) = refl

-- equal values make equal operations
made : {X : Type 0} (make : X → Operation) (x y : X) (r s : List ℕ) → (x ≡ y) × (r ≡ s) → (make x ≡ make y) × (r ≡ s)
made make x y r s e = (ap make e.0, e.1)

-- the opcode of a special operation, after an address and a line
same_opcode : (a b : ℕ) (l k : ℤ) (x y : ℕ) (r s : List ℕ) → a < 2 ^ 64 → b < 2 ^ 64 → x < 2 ^ 64 → y < 2 ^ 64 → Ends is_digit r → Ends is_digit s
    → after_word a l (Special x) ++ r ≡ after_word b k (Special y) ++ s → (x ≡ y) × (r ≡ s)
unfolding count_text
same_opcode a b l k x y r s la lb lx ly fr fs e =
    let c = count_text (codes " opcode=") x in
    let d = count_text (codes " opcode=") y in
    let one = part reads_place a b (codes " line=" ++ (signed_text l ++ c)) (codes " line=" ++ (signed_text k ++ d)) r s la lb refl refl e in
    let two = skip (codes " line=") (signed_text l ++ c) (signed_text k ++ d) r s one.1 in
    let three = same_signed l k (c ++ r) (d ++ s) refl refl (sym (append_assoc (signed_text l) c r) ∙ two ∙ append_assoc (signed_text k) d s) in
    (reads_count (codes " opcode=")).read x y r s lx ly fr fs three

-- operations at two addresses and lines
pub operation_from : (a b : ℕ) (l k : ℤ) (x y : Operation) (r s : List ℕ) → a < 2 ^ 64 → b < 2 ^ 64 → KnownOperation x → KnownOperation y → Ends is_digit r → Ends is_digit s
    → operation_text a l x ++ r ≡ operation_text b k y ++ s → (x ≡ y) × (r ≡ s)
operation_from a b l k (AdvancePc x) (AdvancePc y) r s la lb gx gy fr fs e =
    made AdvancePc x y r s ((reads_count (codes "advance-pc ")).read x y r s (omega (arith, gx.0)) (omega (arith, gy.0)) fr fs e)
operation_from a b l k (AdvanceLine x) (AdvanceLine y) r s la lb gx gy fr fs e =
    made AdvanceLine x y r s ((reads_words (codes "advance-line ") reads_signed).read x y r s (fits_int x gx.0) (fits_int y gy.0) fr fs e)
operation_from a b l k (StartLocal x n t) (StartLocal y m u) r s la lb gx gy fr fs e =
    let kx = each_append KnownSymbol (optional_text n) (optional_type t) gx.1 in
    let ky = each_append KnownSymbol (optional_text m) (optional_type u) gy.1 in
    made (λ (p : Local). StartLocal p.0 p.1.0 p.1.1) (x, (n, t)) (y, (m, u)) r s
    ((reads_words (codes "start-local ") reads_local).read (x, (n, t)) (y, (m, u)) r s (known_local x n t gx.0 kx.0 kx.1) (known_local y m u gy.0 ky.0 ky.1) tt tt e)
operation_from a b l k (StartLocalExtended x n t v) (StartLocalExtended y m u w) r s la lb gx gy fr fs e =
    let kx = each_append KnownSymbol (optional_text n) (optional_type t ++ optional_text v) gx.1 in
    let ky = each_append KnownSymbol (optional_text m) (optional_type u ++ optional_text w) gy.1 in
    let lx = each_append KnownSymbol (optional_type t) (optional_text v) kx.1 in
    let ly = each_append KnownSymbol (optional_type u) (optional_text w) ky.1 in
    made (λ (p : Local × Option Text). StartLocalExtended p.0.0 p.0.1.0 p.0.1.1 p.1) ((x, (n, t)), v) ((y, (m, u)), w) r s
    ((reads_words (codes "start-local-extended ") reads_extended).read ((x, (n, t)), v) ((y, (m, u)), w) r s (known_local x n t gx.0 kx.0 lx.0, known_text v lx.1) (known_local y m u gy.0 ky.0 ly.0, known_text w ly.1) tt tt e)
operation_from a b l k (EndLocal x) (EndLocal y) r s la lb gx gy fr fs e =
    made EndLocal x y r s ((reads_words (codes "end-local ") reads_register).read x y r s (omega (arith, gx.0)) (omega (arith, gy.0)) fr fs e)
operation_from a b l k (RestartLocal x) (RestartLocal y) r s la lb gx gy fr fs e =
    made RestartLocal x y r s ((reads_words (codes "restart-local ") reads_register).read x y r s (omega (arith, gx.0)) (omega (arith, gy.0)) fr fs e)
operation_from a b l k SetPrologueEnd SetPrologueEnd r s la lb gx gy fr fs e = (refl, append_cancel_left (codes "set-prologue-end") r s e)
operation_from a b l k SetEpilogueBegin SetEpilogueBegin r s la lb gx gy fr fs e = (refl, append_cancel_left (codes "set-epilogue-begin") r s e)
operation_from a b l k (SetFile n) (SetFile m) r s la lb gx gy fr fs e =
    made SetFile n m r s ((reads_words (codes "set-file ") reads_text_or_dash).read n m r s (known_text n gx.1) (known_text m gy.1) tt tt e)
operation_from a b l k (Special x) (Special y) r s la lb gx gy fr fs e =
    made Special x y r s (same_opcode a b l k x y r s la lb (omega (arith, gx.0.1)) (omega (arith, gy.0.1)) fr fs
    (skip (codes "position ") (after_word a l (Special x)) (after_word b k (Special y)) r s e))
operation_from a b l k x y r s la lb gx gy fr fs e =
    absurd (not_both (word x) (word y) (after_word a l x ++ r) (after_word b k y ++ s) refl
    (sym (ap (λ z. z ++ r) (split a l x) ∙ append_assoc (word x) (after_word a l x) r) ∙ e ∙ ap (λ z. z ++ s) (split b k y) ∙ append_assoc (word y) (after_word b k y) s))
