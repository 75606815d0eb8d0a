-- The lines of code are read back.
use Rattle.std.specs.Prelude.{decimal}
use Rattle.dexspec.proofs.Common.{◌≡◌, ℕ, pos, ◌<◌, ◌^◌, Bool, false, ◌&&◌, List, [], ◌∷◌, ◌++◌, length, drop, Option, Some, None, refl, sym, ap, ◌∙◌, arith, codes, append_assoc, flat_map, option_map_or, option_to_list, Code, Debug}
use Rattle.dexspec.specs.Pieces.{units_of}
use Rattle.dexspec.specs.Code.{Try, handlers_of}
use Rattle.dexspec.specs.Mentions.{piece_symbols, handler_symbols, debug_symbols, code_symbols}
use Rattle.dexspec.specs.WellFormed.{IsCodeItem}
use Rattle.dexout.specs.Printed.{count_text}
use Rattle.dexlisting.specs.Listing.{counts_line}
use Rattle.dexlisting.specs.FullListing.{full_piece_lines, try_lines, parameter_name_line, operation_lines, debug_lines, full_code_lines}
use Rattle.dexlisting.proofs.law.Reads.{Reads, Anything, Lacks, IfAny, begins, part, reads_closed, reads_weaker, reads_optional}
use Rattle.dexlisting.proofs.law.Parts.{reads_both, lacks_more}
use Rattle.dexlisting.proofs.law.Numbers.{is_hexadecimal, reads_count}
use Rattle.dexlisting.proofs.law.Symbols.{KnownSymbol}
use Rattle.dexlisting.proofs.law.Goods.{Knows, each_append}
use Rattle.dexlisting.proofs.law.PieceLines.{begins_piece, reads_pieces}
use Rattle.dexlisting.proofs.law.Tries.{reads_tries}
use Rattle.dexlisting.proofs.law.Debugs.{KnownDebug, reads_debug}
use Rattle.dexlisting.proofs.law.KnownCode.{known_pieces, known_tries, known_debug}

-- ---- counts

-- registers, ins, outs, units and tries
abbrev Counts : Type 0
Counts = ℕ × (ℕ × (ℕ × (ℕ × ℕ)))

-- of code
abbrev counts_of : Code → Counts
counts_of c = (c.registers, (c.ins, (c.outs, (length (flat_map units_of c.pieces), length c.tries))))

-- their line
abbrev counts_text : Counts → List ℕ
counts_text n = count_text (codes "    code registers=") n.0 ++ (count_text (codes " ins=") n.1.0 ++ (count_text (codes " outs=") n.1.1.0 ++ (count_text (codes " units=") n.1.1.1.0 ++ (count_text (codes " tries=") n.1.1.1.1 ++ codes "\n"))))

-- the line is read back
reads_counts : Reads (λ n. (n.0 < 2 ^ 64) × ((n.1.0 < 2 ^ 64) × ((n.1.1.0 < 2 ^ 64) × ((n.1.1.1.0 < 2 ^ 64) × (n.1.1.1.1 < 2 ^ 64))))) Anything counts_text
unfolding count_text
reads_counts = reads_both (reads_count (codes "    code registers=")) (λ y r g f. refl) (reads_both (reads_count (codes " ins=")) (λ y r g f. refl) (reads_both (reads_count (codes " outs=")) (λ y r g f. refl)
    (reads_both (reads_count (codes " units=")) (λ y r g f. refl) (reads_closed (codes "\n") (λ r f. refl) (reads_count (codes " tries="))))))

-- ---- what follows

-- what follows pieces
after_pieces : (ts : List Try) (d : Option Debug) (r : List ℕ) → Lacks (codes "    ") r → begins_piece ((flat_map try_lines ts ++ option_map_or debug_lines d []) ++ r) ≡ false
unfolding try_lines debug_lines count_text
after_pieces [] None r f = ap (λ (b : Bool). b && begins is_hexadecimal (drop 4 r)) f
after_pieces [] (Some d) r f = refl
after_pieces (t ∷ ts) d r f = refl

-- what follows tries
after_tries : (d : Option Debug) (r : List ℕ) → Lacks (codes "    ") r → Lacks (codes "      ") (option_map_or debug_lines d [] ++ r) × Lacks (codes "    try ") (option_map_or debug_lines d [] ++ r)
unfolding debug_lines count_text
after_tries None r f = (lacks_more (codes "    ") (codes "  ") r f, lacks_more (codes "    ") (codes "try ") r f)
after_tries (Some d) r f = (refl, refl)

-- the lines of an optional debug program
reads_some_debug : Reads (IfAny KnownDebug) (Lacks (codes "    ")) (λ d. option_map_or debug_lines d [])
unfolding debug_lines count_text
reads_some_debug = reads_weaker (λ d g. g) (λ r f. (lacks_more (codes "    ") (codes "  ") r f, lacks_more (codes "    ") (codes "line-start ") r f))
    (reads_optional (codes "    line-start ") (λ d. decimal d.line_start ++ (codes "\n" ++ (flat_map parameter_name_line d.parameter_names ++ operation_lines 0 (pos d.line_start) d.operations))) (λ d. refl) reads_debug)

-- ---- the whole

-- well formed, and its symbols are known
abbrev pub KnownCode : Code → Type 0
KnownCode c = IsCodeItem c × Knows (code_symbols c)

-- the symbols of its parts
pieces_named : (c : Code) → KnownCode c → Knows (flat_map piece_symbols c.pieces)
pieces_named c g = (each_append KnownSymbol (flat_map piece_symbols c.pieces) (flat_map handler_symbols (handlers_of c.tries) ++ flat_map debug_symbols (option_to_list c.debug)) g.1).0

others_named : (c : Code) → KnownCode c → Knows (flat_map handler_symbols (handlers_of c.tries)) × Knows (flat_map debug_symbols (option_to_list c.debug))
others_named c g = each_append KnownSymbol (flat_map handler_symbols (handlers_of c.tries)) (flat_map debug_symbols (option_to_list c.debug))
    (each_append KnownSymbol (flat_map piece_symbols c.pieces) (flat_map handler_symbols (handlers_of c.tries) ++ flat_map debug_symbols (option_to_list c.debug)) g.1).1

-- its counts are small
counts_small : (c : Code) → KnownCode c → (c.registers < 2 ^ 64) × ((c.ins < 2 ^ 64) × ((c.outs < 2 ^ 64) × ((length (flat_map units_of c.pieces) < 2 ^ 64) × (length c.tries < 2 ^ 64))))
counts_small c g = (omega (arith, g.0.registers), (omega (arith, g.0.ins), (omega (arith, g.0.outs), (omega (arith, g.0.pieces.count), omega (arith, g.0.many)))))

code_from : (method : List ℕ) (x y : Code) (r s : List ℕ) → KnownCode x → KnownCode y → Lacks (codes "    ") r → Lacks (codes "    ") s
    → full_code_lines method x ++ r ≡ full_code_lines method y ++ s → (x ≡ y) × (r ≡ s)
unfolding full_code_lines counts_line
code_from method x y r s gx gy fr fs e =
    let dx = option_map_or debug_lines x.debug [] in
    let dy = option_map_or debug_lines y.debug [] in
    let tx = flat_map try_lines x.tries ++ dx in
    let ty = flat_map try_lines y.tries ++ dy in
    let px = full_piece_lines method 0 x.pieces in
    let py = full_piece_lines method 0 y.pieces in
    let one = part reads_counts (counts_of x) (counts_of y) (px ++ tx) (py ++ ty) r s (counts_small x gx) (counts_small y gy) tt tt e in
    let two = reads_pieces method 0 x.pieces y.pieces (tx ++ r) (ty ++ s) (known_pieces x.pieces gx.0.cuts gx.0.pieces (pieces_named x gx)) (known_pieces y.pieces gy.0.cuts gy.0.pieces (pieces_named y gy))
    (omega (arith, gx.0.pieces.count)) (omega (arith, gy.0.pieces.count)) (after_pieces x.tries x.debug r fr) (after_pieces y.tries y.debug s fs)
    (sym (append_assoc px tx r) ∙ one.1 ∙ append_assoc py ty s) in
    let nx = others_named x gx in
    let ny = others_named y gy in
    let three = part reads_tries x.tries y.tries dx dy r s
    (known_tries (flat_map units_of x.pieces) gx.0.cuts gx.0.pieces.code.cut gx.0.pieces.count x.tries gx.0.tries nx.0)
    (known_tries (flat_map units_of y.pieces) gy.0.cuts gy.0.pieces.code.cut gy.0.pieces.count y.tries gy.0.tries ny.0) (after_tries x.debug r fr) (after_tries y.debug s fs) two.1 in
    let four = reads_some_debug.read x.debug y.debug r s (known_debug x.debug gx.0.debug nx.1) (known_debug y.debug gy.0.debug ny.1) fr fs three.1 in
    ((λ i. record { registers = (one.0 i).0; ins = (one.0 i).1.0; outs = (one.0 i).1.1.0; pieces = two.0 i; tries = three.0 i; debug = four.0 i }), four.1)

-- the lines of code, in front of what does not begin with four blanks
pub reads_code : (method : List ℕ) → Reads KnownCode (Lacks (codes "    ")) (full_code_lines method)
reads_code method = record { read = code_from method }
