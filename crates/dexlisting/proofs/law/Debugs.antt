-- The lines of a debug program are read back.
use Rattle.dexspec.proofs.Common.{◌≡◌, ℕ, ℤ, pos, ◌+◌, ◌+ℤ◌, ◌*◌, ◌<◌, ◌≤◌, ◌^◌, List, [], ◌∷◌, ◌++◌, length, refl, sym, ap, ◌∙◌, arith, codes, append_assoc, append_cancel_left, flat_map, AllByRecursion, Debug}
use Rattle.dexspec.specs.Debug.{Operation, AdvancePc, SetPrologueEnd, Special}
use Rattle.dexspec.specs.Mentions.{optional_text, operation_symbols, debug_symbols}
use Rattle.dexspec.specs.WellFormed.{IsOperation, IsDebug}
use Rattle.dexdebug.specs.Positions.{address_step, line_step}
use Rattle.dexout.specs.Printed.{quoted, count_text}
use Rattle.dexlisting.specs.FullListing.{text_or_dash, operation_text, operation_line, operation_lines, parameter_name_line, debug_lines}
use Rattle.dexlisting.proofs.law.Reads.{Reads, Anything, Lacks, begins_with, skip, part, not_lacking, reads_words, reads_closed, reads_weaker, reads_lines}
use Rattle.dexlisting.proofs.law.Parts.{lacks_more}
use Rattle.dexlisting.proofs.law.Numbers.{reads_count}
use Rattle.dexlisting.proofs.law.Texts.{reads_text_or_dash}
use Rattle.dexlisting.proofs.law.Symbols.{KnownSymbol}
use Rattle.dexlisting.proofs.law.Goods.{Knows}
use Rattle.dexlisting.proofs.law.Lists.{each_append, each_flat_map, each_from_all, each_both}
use Rattle.dexlisting.proofs.law.Operations.{KnownOperation, known_text, operation_from}

-- ---- lines of operations

-- the line of an operation, at two addresses and lines
line_from : (a b : ℕ) (l k : ℤ) (x y : Operation) (r s : List ℕ) → a < 2 ^ 64 → b < 2 ^ 64 → KnownOperation x → KnownOperation y
    → operation_line a l x ++ r ≡ operation_line b k y ++ s → (x ≡ y) × (r ≡ s)
unfolding operation_line
line_from a b l k x y r s la lb gx gy e =
    let t = operation_text a l x in
    let u = operation_text b k y in
    let one = skip (codes "      ") (t ++ codes "\n") (u ++ codes "\n") r s e in
    let two = operation_from a b l k x y (codes "\n" ++ r) (codes "\n" ++ s) la lb gx gy refl refl (sym (append_assoc t (codes "\n") r) ∙ one ∙ append_assoc u (codes "\n") s) in
    (two.0, append_cancel_left (codes "\n") r s two.1)

-- an operation advances the address by a number of 32 bits
step_bound : (op : Operation) → IsOperation op → address_step op ≤ 2 ^ 32
step_bound (AdvancePc addresses) h = omega (arith, h)
step_bound (Special opcode) h = omega (arith, h.1)
step_bound op h = omega arith

-- the lines of operations, in front of what does not begin as they do
operations_from : (a : ℕ) (l : ℤ) (xs ys : List Operation) (r s : List ℕ) → AllByRecursion KnownOperation xs → AllByRecursion KnownOperation ys
    → a + 2 ^ 32 * length xs < 2 ^ 64 → a + 2 ^ 32 * length ys < 2 ^ 64 → Lacks (codes "      ") r → Lacks (codes "      ") s
    → operation_lines a l xs ++ r ≡ operation_lines a l ys ++ s → (xs ≡ ys) × (r ≡ s)
unfolding operation_line
operations_from a l [] [] r s gx gy lx ly fr fs e = (refl, e)
operations_from a l [] (y ∷ ys) r s gx gy lx ly fr fs e =
    let b = a + address_step y in
    let k = l +ℤ line_step y in
    absurd (not_lacking (codes "      ") (((operation_text b k y ++ codes "\n") ++ operation_lines b k ys) ++ s) r fr (sym e))
operations_from a l (x ∷ xs) [] r s gx gy lx ly fr fs e =
    let b = a + address_step x in
    let k = l +ℤ line_step x in
    absurd (not_lacking (codes "      ") (((operation_text b k x ++ codes "\n") ++ operation_lines b k xs) ++ r) s fs e)
operations_from a l (x ∷ xs) (y ∷ ys) r s gx gy lx ly fr fs e =
    let b = a + address_step x in
    let k = l +ℤ line_step x in
    let c = a + address_step y in
    let j = l +ℤ line_step y in
    let v = operation_lines b k xs in
    let w = operation_lines c j ys in
    let first = line_from b c k j x y (v ++ r) (w ++ s) (omega (arith, lx, step_bound x gx.0.0)) (omega (arith, ly, step_bound y gy.0.0)) gx.0 gy.0
    (sym (append_assoc (operation_line b k x) v r) ∙ e ∙ append_assoc (operation_line c j y) w s) in
    let moved : operation_lines c j xs ++ r ≡ w ++ s = ap (λ op. operation_lines (a + address_step op) (l +ℤ line_step op) xs ++ r) (sym first.0) ∙ first.1 in
    let rest = operations_from c j xs ys r s gx.1 gy.1 (omega (arith, lx, step_bound y gy.0.0)) (omega (arith, ly, step_bound y gy.0.0)) fr fs moved in
    ((λ i. first.0 i ∷ rest.0 i), rest.1)

-- ---- names of parameters

-- the line of a name
reads_parameter_name : Reads (λ s. Knows (optional_text s)) Anything parameter_name_line
unfolding parameter_name_line
reads_parameter_name = reads_words (codes "      parameter ") (reads_closed (codes "\n") (λ r f. tt) (reads_weaker known_text (λ r f. f) reads_text_or_dash))

-- the lines of names
reads_parameter_names : Reads (AllByRecursion (λ s. Knows (optional_text s))) (λ r. Anything r × Lacks (codes "      parameter ") r) (flat_map parameter_name_line)
unfolding parameter_name_line
reads_parameter_names = reads_lines (codes "      parameter ") (λ s. text_or_dash quoted s ++ codes "\n") (λ s. refl) (λ r. tt) reads_parameter_name

-- no operation is such a line
no_parameter : (a : ℕ) (l : ℤ) (op : Operation) (r : List ℕ) → Lacks (codes "      parameter ") (operation_line a l op ++ r)
unfolding operation_line count_text
no_parameter a l SetPrologueEnd r = refl
no_parameter a l op r = refl

-- what follows the names
after_names : (a : ℕ) (l : ℤ) (ops : List Operation) (r : List ℕ) → Lacks (codes "      ") r → Lacks (codes "      parameter ") (operation_lines a l ops ++ r)
after_names a l [] r f = lacks_more (codes "      ") (codes "parameter ") r f
after_names a l (op ∷ ops) r f =
    let b = a + address_step op in
    let k = l +ℤ line_step op in
    let rest = operation_lines b k ops in
    ap (begins_with (codes "      parameter ")) (append_assoc (operation_line b k op) rest r) ∙ no_parameter b k op (rest ++ r)

-- ---- the whole

-- well formed, and its texts and types are known
abbrev pub KnownDebug : Debug → Type 0
KnownDebug d = IsDebug d × Knows (debug_symbols d)

-- its names
known_names : (d : Debug) → KnownDebug d → AllByRecursion (λ s. Knows (optional_text s)) d.parameter_names
known_names d g = each_flat_map KnownSymbol optional_text d.parameter_names (each_append KnownSymbol (flat_map optional_text d.parameter_names) (flat_map operation_symbols d.operations) g.1).0

-- its operations
known_operations : (d : Debug) → KnownDebug d → AllByRecursion KnownOperation d.operations
known_operations d g = each_both IsOperation (λ op. Knows (operation_symbols op)) d.operations (each_from_all IsOperation d.operations g.0.operations)
    (each_flat_map KnownSymbol operation_symbols d.operations (each_append KnownSymbol (flat_map optional_text d.parameter_names) (flat_map operation_symbols d.operations) g.1).1)

debug_from : (x y : Debug) (r s : List ℕ) → KnownDebug x → KnownDebug y → Lacks (codes "      ") r → Lacks (codes "      ") s → debug_lines x ++ r ≡ debug_lines y ++ s → (x ≡ y) × (r ≡ s)
unfolding debug_lines
debug_from x y r s gx gy fr fs e =
    let nx = flat_map parameter_name_line x.parameter_names in
    let ny = flat_map parameter_name_line y.parameter_names in
    let ox = operation_lines 0 (pos x.line_start) x.operations in
    let oy = operation_lines 0 (pos y.line_start) y.operations in
    let one = part (reads_count (codes "    line-start ")) x.line_start y.line_start (codes "\n" ++ (nx ++ ox)) (codes "\n" ++ (ny ++ oy)) r s (omega (arith, gx.0.line_start)) (omega (arith, gy.0.line_start)) refl refl e in
    let two = skip (codes "\n") (nx ++ ox) (ny ++ oy) r s one.1 in
    let three = part reads_parameter_names x.parameter_names y.parameter_names ox oy r s (known_names x gx) (known_names y gy)
    (tt, after_names 0 (pos x.line_start) x.operations r fr) (tt, after_names 0 (pos y.line_start) y.operations s fs) two in
    let moved : operation_lines 0 (pos y.line_start) x.operations ++ r ≡ oy ++ s = ap (λ n. operation_lines 0 (pos n) x.operations ++ r) (sym one.0) ∙ three.1 in
    let four = operations_from 0 (pos y.line_start) x.operations y.operations r s (known_operations x gx) (known_operations y gy) (omega (arith, gx.0.few)) (omega (arith, gy.0.few)) fr fs moved in
    ((λ i. record { line_start = one.0 i; parameter_names = three.0 i; operations = four.0 i }), four.1)

-- the lines of a debug program, in front of what does not begin with six blanks
pub reads_debug : Reads KnownDebug (Lacks (codes "      ")) debug_lines
reads_debug = record { read = debug_from }
