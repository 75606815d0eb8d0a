-- The lines of instructions and payloads are read back: the units are, and the rest of a line but for a symbol is a
-- function of the units.
use Rattle.dexspec.proofs.Common.{◌≡◌, ℕ, ◌+◌, ◌<◌, ◌^◌, Bool, true, false, ◌&&◌, if◌then◌else◌, List, [], ◌∷◌, ◌++◌, length, drop, Option, Some, None, refl, sym, ap, ◌∙◌, arith, codes, slice_index, option_and_then, append_assoc, append_cancel_left, length-append, flat_map, AllByRecursion}
use Rattle.dexspec.specs.Opcodes.{opcode_of}
use Rattle.dexspec.specs.Pieces.{Piece, Instruction, Payload, units_of, index_pool, is_payload_ident, low_byte}
use Rattle.dexspec.specs.Symbols.{Symbol, pool_of}
use Rattle.dexspec.specs.Mentions.{piece_symbols}
use Rattle.dexout.specs.Printed.{place_text}
use Rattle.dexlisting.specs.Listing.{symbol_text}
use Rattle.dexlisting.specs.FullListing.{plain, instruction_text, full_piece_text, units_text, full_piece_line, full_piece_lines}
use Rattle.dexlisting.proofs.law.Reads.{Reads, Anything, Ends, begins, begins_with, skip, part, reads_words, reads_closed, reads_weaker, reads_list}
use Rattle.dexlisting.proofs.law.Numbers.{is_hexadecimal, reads_place}
use Rattle.dexlisting.proofs.law.Begins.{place_begins}
use Rattle.dexlisting.proofs.law.Symbols.{reads_symbol}
use Rattle.dexlisting.proofs.law.Goods.{Knows}
use Rattle.dexlisting.proofs.law.Pieces.{FitsUnits}

-- the piece fits its units, which are units, and its symbol is known
abbrev pub KnownPiece : Piece → Type 0
KnownPiece p = FitsUnits p × AllByRecursion (λ u. u < 2 ^ 16) (units_of p) × Knows (piece_symbols p)

-- ---- units

-- a unit and the blank after it
reads_unit : Reads (λ (u : ℕ). u < 2 ^ 16) Anything (λ u. place_text u ++ codes " ")
reads_unit = reads_closed (codes " ") (λ r f. refl) (reads_weaker (λ u lt. omega (arith, lt)) (λ r f. f) reads_place)

-- a unit begins with a digit
unit_begins : (u : ℕ) (r s : List ℕ) → u < 2 ^ 16 → Ends is_hexadecimal s → (place_text u ++ codes " ") ++ r ≡ s → ⊥
unit_begins u r s lt ends e =
    let z : true ≡ false = sym (place_begins u (codes " " ++ r) (omega (arith, lt))) ∙ ap (begins is_hexadecimal) (sym (append_assoc (place_text u) (codes " ") r) ∙ e) ∙ ends in
    absurd cc

-- the units of a line
pub reads_units : Reads (AllByRecursion (λ (u : ℕ). u < 2 ^ 16)) (λ r. Anything r × Ends is_hexadecimal r) units_text
reads_units = reads_list (Ends is_hexadecimal) reads_unit (λ u r g. tt) unit_begins

-- ---- what a piece is

-- a payload has no index
no_pool : (us : List ℕ) → is_payload_ident (slice_index us 0) ≡ true → index_pool us ≡ None
no_pool us e = ap (λ (t : Bool). if t then None else option_and_then (λ op. op.index) (opcode_of (low_byte (slice_index us 0)))) e

-- an option has a value or none
not_mixed : {X : Type 0} (x : X) (o : Option X) → o ≡ None → o ≡ Some x → ⊥
not_mixed x o e f = let z : None ≡ Some x = sym e ∙ f in absurd cc

-- the value of an option
same_some : {X : Type 0} (o : Option X) (x y : X) → o ≡ Some x → o ≡ Some y → x ≡ y
same_some o x y e f = let z : Some x ≡ Some y = sym e ∙ f in cc

-- symbols after instructions of the same units
same_symbol : (at : ℕ) (us vs tail : List ℕ) (a b : Symbol) (r s : List ℕ) → KnownPiece (Instruction us (Some a)) → KnownPiece (Instruction vs (Some b)) → us ≡ vs
    → (full_piece_text at (Instruction us (Some a)) ++ tail) ++ r ≡ (full_piece_text at (Instruction vs (Some b)) ++ tail) ++ s → a ≡ b
same_symbol at us vs tail a b r s ga gb units e =
    let x = codes ", " ++ symbol_text plain a in
    let y = codes ", " ++ symbol_text plain b in
    let one : (instruction_text at vs ++ x) ++ (tail ++ r) ≡ (instruction_text at vs ++ y) ++ (tail ++ s) =
    ap (λ (ws : List ℕ). (instruction_text at ws ++ x) ++ (tail ++ r)) (sym units) ∙ sym (append_assoc (instruction_text at us ++ x) tail r) ∙ e ∙ append_assoc (instruction_text at vs ++ y) tail s in
    let two = skip (codes ", ") (symbol_text plain a) (symbol_text plain b) (tail ++ r) (tail ++ s) (skip (instruction_text at vs) x y (tail ++ r) (tail ++ s) one) in
    let pool = same_some (index_pool vs) (pool_of a) (pool_of b) (ap index_pool (sym units) ∙ ga.0) gb.0 in
    ((reads_symbol (pool_of b)).read a b (tail ++ r) (tail ++ s) (ga.2.0, pool) (gb.2.0, refl) tt tt two).0

-- pieces of the same units
same_piece : (at : ℕ) (tail : List ℕ) (p q : Piece) (r s : List ℕ) → KnownPiece p → KnownPiece q → units_of p ≡ units_of q
    → (full_piece_text at p ++ tail) ++ r ≡ (full_piece_text at q ++ tail) ++ s → p ≡ q
same_piece at tail (Instruction us None) (Instruction vs None) r s gp gq units e = λ i. Instruction (units i) None
same_piece at tail (Instruction us None) (Instruction vs (Some b)) r s gp gq units e = absurd (not_mixed (pool_of b) (index_pool us) gp.0.1 (ap index_pool units ∙ gq.0))
same_piece at tail (Instruction us None) (Payload vs) r s gp gq units e = absurd (let z : false ≡ true = sym gp.0.0 ∙ ap (λ ws. is_payload_ident (slice_index ws 0)) units ∙ gq.0 in cc)
same_piece at tail (Instruction us (Some a)) (Instruction vs None) r s gp gq units e = absurd (not_mixed (pool_of a) (index_pool vs) gq.0.1 (ap index_pool (sym units) ∙ gp.0))
same_piece at tail (Instruction us (Some a)) (Instruction vs (Some b)) r s gp gq units e = let symbol = same_symbol at us vs tail a b r s gp gq units e in λ i. Instruction (units i) (Some (symbol i))
same_piece at tail (Instruction us (Some a)) (Payload vs) r s gp gq units e = absurd (not_mixed (pool_of a) (index_pool vs) (no_pool vs gq.0) (ap index_pool (sym units) ∙ gp.0))
same_piece at tail (Payload us) (Instruction vs None) r s gp gq units e = absurd (let z : false ≡ true = sym gq.0.0 ∙ ap (λ ws. is_payload_ident (slice_index ws 0)) (sym units) ∙ gp.0 in cc)
same_piece at tail (Payload us) (Instruction vs (Some b)) r s gp gq units e = absurd (not_mixed (pool_of b) (index_pool us) (no_pool us gp.0) (ap index_pool units ∙ gq.0))
same_piece at tail (Payload us) (Payload vs) r s gp gq units e = ap Payload units

-- ---- lines

-- units, and what a piece is
piece_from : (at : ℕ) (tail : List ℕ) (p q : Piece) (r s : List ℕ) → KnownPiece p → KnownPiece q → Anything r → Anything s
    → (units_text (units_of p) ++ (codes "| " ++ (full_piece_text at p ++ tail))) ++ r ≡ (units_text (units_of q) ++ (codes "| " ++ (full_piece_text at q ++ tail))) ++ s → (p ≡ q) × (r ≡ s)
piece_from at tail p q r s gp gq fr fs e =
    let x = full_piece_text at p ++ tail in
    let y = full_piece_text at q ++ tail in
    let units = part reads_units (units_of p) (units_of q) (codes "| " ++ x) (codes "| " ++ y) r s gp.1 gq.1 (tt, refl) (tt, refl) e in
    let after = skip (codes "| ") x y r s units.1 in
    let same = same_piece at tail p q r s gp gq units.0 after in
    (same, append_cancel_left y r s (ap (λ z. (full_piece_text at z ++ tail) ++ r) (sym same) ∙ after))

-- the line of a piece
pub reads_piece : (method : List ℕ) (at : ℕ) → Reads KnownPiece Anything (full_piece_line method at)
unfolding full_piece_line
reads_piece method at = reads_words (codes "    ") (reads_words (place_text at) (reads_words (codes ": ") (record { read = piece_from at (codes "\t" ++ (method ++ codes "\n")) })))

-- whether a text begins as such a line does
abbrev pub begins_piece : List ℕ → Bool
begins_piece r = begins_with (codes "    ") r && begins is_hexadecimal (drop 4 r)

-- such a line does
piece_begins : (method : List ℕ) (at : ℕ) (p : Piece) (r : List ℕ) → at < 2 ^ 64 → begins_piece (full_piece_line method at p ++ r) ≡ true
unfolding full_piece_line
piece_begins method at p r lt =
    let x = codes ": " ++ (units_text (units_of p) ++ (codes "| " ++ (full_piece_text at p ++ (codes "\t" ++ (method ++ codes "\n"))))) in
    ap (begins is_hexadecimal) (append_assoc (place_text at) x r) ∙ place_begins at (x ++ r) lt

-- the lines of pieces, in front of what does not begin as they do
pub reads_pieces : (method : List ℕ) (at : ℕ) (ps qs : List Piece) (r s : List ℕ) → AllByRecursion KnownPiece ps → AllByRecursion KnownPiece qs
    → at + length (flat_map units_of ps) < 2 ^ 64 → at + length (flat_map units_of qs) < 2 ^ 64 → begins_piece r ≡ false → begins_piece s ≡ false
    → full_piece_lines method at ps ++ r ≡ full_piece_lines method at qs ++ s → (ps ≡ qs) × (r ≡ s)
reads_pieces method at [] [] r s gp gq lp lq fr fs e = (refl, e)
reads_pieces method at [] (q ∷ qs) r s gp gq lp lq fr fs e =
    let rest = full_piece_lines method (at + length (units_of q)) qs in
    absurd (let z : true ≡ false = sym (piece_begins method at q (rest ++ s) (omega (arith, lq))) ∙ ap begins_piece (sym (append_assoc (full_piece_line method at q) rest s) ∙ sym e) ∙ fr in cc)
reads_pieces method at (p ∷ ps) [] r s gp gq lp lq fr fs e =
    let rest = full_piece_lines method (at + length (units_of p)) ps in
    absurd (let z : true ≡ false = sym (piece_begins method at p (rest ++ r) (omega (arith, lp))) ∙ ap begins_piece (sym (append_assoc (full_piece_line method at p) rest r) ∙ e) ∙ fs in cc)
reads_pieces method at (p ∷ ps) (q ∷ qs) r s gp gq lp lq fr fs e =
    let x = full_piece_lines method (at + length (units_of p)) ps in
    let y = full_piece_lines method (at + length (units_of q)) qs in
    let first = part (reads_piece method at) p q x y r s gp.0 gq.0 tt tt e in
    let moved : full_piece_lines method (at + length (units_of q)) ps ++ r ≡ y ++ s = ap (λ z. full_piece_lines method (at + length (units_of z)) ps ++ r) (sym first.0) ∙ first.1 in
    let few : at + length (units_of q) + length (flat_map units_of ps) < 2 ^ 64 = omega (arith, lp, length-append (units_of p) (flat_map units_of ps), ap (λ z. length (units_of z)) first.0) in
    let rest = reads_pieces method (at + length (units_of q)) ps qs r s gp.1 gq.1 few (omega (arith, lq, length-append (units_of q) (flat_map units_of qs))) fr fs moved in
    ((λ i. first.0 i ∷ rest.0 i), rest.1)
