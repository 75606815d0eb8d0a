-- The lines of methods are read back.
use Rattle.dexspec.proofs.Common.{◌≡◌, ℕ, List, [], ◌∷◌, ◌++◌, length, Option, Some, None, refl, sym, ap, ◌∙◌, arith, codes, flat_map, option_map_or, option_to_list, IfSome, Code}
use Rattle.std.specs.Prelude.{decimal}
use Rattle.dexspec.specs.Pieces.{units_of}
use Rattle.dexspec.specs.Texts.{Text}
use Rattle.dexspec.specs.Symbols.{MethodSymbol, Proto}
use Rattle.dexspec.specs.Annotations.{AnnotationSet}
use Rattle.dexspec.specs.Classes.{MethodDef}
use Rattle.dexspec.specs.Mentions.{set_symbols, code_symbols, method_symbols}
use Rattle.dexspec.specs.WellFormed.{IsSet, IsCodeItem, IsMethodDef}
use Rattle.dexflags.specs.Flags.{OfMethod, flags_text}
use Rattle.dexout.specs.Printed.{count_text}
use Rattle.dexlisting.specs.Listing.{own_method_text, symbol_text, counts_line}
use Rattle.dexlisting.specs.FullListing.{plain, set_lines, parameter_lines, full_piece_lines, try_lines, debug_lines, full_code_lines, full_method_lines}
use Rattle.dexlisting.proofs.law.Reads.{Reads, Lacks, IfAny, skip, part, reads_weaker, reads_optional}
use Rattle.dexlisting.proofs.law.Parts.{lacks_more}
use Rattle.dexlisting.proofs.law.Numbers.{reads_flags}
use Rattle.dexlisting.proofs.law.Symbols.{KnownSymbol, reads_own_method}
use Rattle.dexlisting.proofs.law.Goods.{Knows, each_append, each_from_all}
use Rattle.dexlisting.proofs.law.Annotations.{known_set, known_sets, reads_set, reads_parameters}
use Rattle.dexlisting.proofs.law.Codes.{KnownCode, reads_code}

-- ---- what is known of the parts

-- of optional code
known_code : (c : Option Code) → IfSome c IsCodeItem → Knows (flat_map code_symbols (option_to_list c)) → IfAny KnownCode c
known_code None is named = tt
known_code (Some c) is named = (is, (each_append KnownSymbol (code_symbols c) [] named).0)

-- well formed, and its symbols are known
abbrev pub KnownMethodDef : Text → MethodDef → Type 0
KnownMethodDef class m = IsMethodDef m × Knows (method_symbols class m)

-- code, and annotations
parts_named : (class : Text) (m : MethodDef) → KnownMethodDef class m
    → Knows (flat_map code_symbols (option_to_list m.code)) × (Knows (set_symbols m.annotations) × Knows (flat_map set_symbols m.parameter_annotations))
parts_named class m g =
    let code = each_append KnownSymbol (flat_map code_symbols (option_to_list m.code)) (set_symbols m.annotations ++ flat_map set_symbols m.parameter_annotations) g.1.1 in
    (code.0, each_append KnownSymbol (set_symbols m.annotations) (flat_map set_symbols m.parameter_annotations) code.1)

-- ---- what follows

-- the lines of optional code
abbrev code_part : List ℕ → Option Code → List ℕ
code_part method c = option_map_or (full_code_lines method) c []

-- are read back
reads_some_code : (method : List ℕ) → Reads (IfAny KnownCode) (Lacks (codes "    ")) (code_part method)
unfolding full_code_lines counts_line count_text
reads_some_code method = reads_weaker (λ c g. g) (λ r f. (f, lacks_more (codes "    ") (codes "code registers=") r f))
    (reads_optional (codes "    code registers=") (λ c. decimal c.registers ++ (count_text (codes " ins=") c.ins ++ (count_text (codes " outs=") c.outs
    ++ (count_text (codes " units=") (length (flat_map units_of c.pieces)) ++ (count_text (codes " tries=") (length c.tries) ++ codes "\n"))))
    ++ (full_piece_lines method 0 c.pieces ++ (flat_map try_lines c.tries ++ option_map_or debug_lines c.debug []))) (λ c. refl) (reads_code method))

-- what follows the annotations of parameters
after_parameters : (method : List ℕ) (c : Option Code) (r : List ℕ) → Lacks (codes "    ") r → Lacks (codes "    parameter ") (code_part method c ++ r) × Lacks (codes "      annotation ") (code_part method c ++ r)
unfolding full_code_lines counts_line count_text
after_parameters method None r f = (lacks_more (codes "    ") (codes "parameter ") r f, lacks_more (codes "    ") (codes "  annotation ") r f)
after_parameters method (Some c) r f = (refl, refl)

-- what follows its own annotations
after_set : (method : List ℕ) (sets : List AnnotationSet) (c : Option Code) (r : List ℕ) → Lacks (codes "    ") r → Lacks (codes "    annotation ") ((parameter_lines 0 sets ++ code_part method c) ++ r)
unfolding full_code_lines counts_line count_text
after_set method [] None r f = lacks_more (codes "    ") (codes "annotation ") r f
after_set method [] (Some c) r f = refl
after_set method (set ∷ sets) c r f = refl

-- ---- the whole

-- the method after each instruction
abbrev method_text : Text → Text × Proto → List ℕ
method_text class own = symbol_text plain (MethodSymbol (record { class = class; name = own.0; proto = own.1 }))

method_from : (class : Text) (words : List ℕ) (x y : MethodDef) (r s : List ℕ) → KnownMethodDef class x → KnownMethodDef class y → Lacks (codes "    ") r → Lacks (codes "    ") s
    → full_method_lines class words x ++ r ≡ full_method_lines class words y ++ s → (x ≡ y) × (r ≡ s)
unfolding full_method_lines
method_from class words x y r s gx gy fr fs e =
    let cx = code_part (method_text class (x.name, x.proto)) x.code in
    let cy = code_part (method_text class (y.name, y.proto)) y.code in
    let px = parameter_lines 0 x.parameter_annotations ++ cx in
    let py = parameter_lines 0 y.parameter_annotations ++ cy in
    let ax = set_lines (codes "    ") x.annotations ++ px in
    let ay = set_lines (codes "    ") y.annotations ++ py in
    let fx = flags_text OfMethod x.flags ++ (codes "\n" ++ ax) in
    let fy = flags_text OfMethod y.flags ++ (codes "\n" ++ ay) in
    let nx = parts_named class x gx in
    let ny = parts_named class y gy in
    let own = part reads_own_method (x.name, x.proto) (y.name, y.proto) (codes " flags=" ++ fx) (codes " flags=" ++ fy) r s
    (gx.1.0.name, gx.1.0.proto) (gy.1.0.name, gy.1.0.proto) tt tt
    (skip words (own_method_text plain x.name x.proto ++ (codes " flags=" ++ fx)) (own_method_text plain y.name y.proto ++ (codes " flags=" ++ fy)) r s e) in
    let flags = part (reads_flags OfMethod) x.flags y.flags (codes "\n" ++ ax) (codes "\n" ++ ay) r s (omega (arith, gx.0.flags)) (omega (arith, gy.0.flags)) tt tt (skip (codes " flags=") fx fy r s own.1) in
    let set = part (reads_set (codes "    ")) x.annotations y.annotations px py r s (known_set x.annotations gx.0.annotations nx.1.0) (known_set y.annotations gy.0.annotations ny.1.0)
    (after_set (method_text class (x.name, x.proto)) x.parameter_annotations x.code r fr) (after_set (method_text class (y.name, y.proto)) y.parameter_annotations y.code s fs)
    (skip (codes "\n") ax ay r s flags.1) in
    let sets = part (reads_parameters 0) x.parameter_annotations y.parameter_annotations cx cy r s
    (known_sets x.parameter_annotations (each_from_all IsSet x.parameter_annotations gx.0.parameters) nx.1.1)
    (known_sets y.parameter_annotations (each_from_all IsSet y.parameter_annotations gy.0.parameters) ny.1.1)
    (after_parameters (method_text class (x.name, x.proto)) x.code r fr) (after_parameters (method_text class (y.name, y.proto)) y.code s fs) set.1 in
    let moved : code_part (method_text class (y.name, y.proto)) x.code ++ r ≡ cy ++ s = ap (λ o. code_part (method_text class o) x.code ++ r) (sym own.0) ∙ sets.1 in
    let code = (reads_some_code (method_text class (y.name, y.proto))).read x.code y.code r s (known_code x.code gx.0.code nx.0) (known_code y.code gy.0.code ny.0) fr fs moved in
    ((λ i. record { name = (own.0 i).0; proto = (own.0 i).1; flags = flags.0 i; code = code.0 i; annotations = set.0 i; parameter_annotations = sets.0 i }), code.1)

-- the lines of a method, in front of what does not begin with four blanks
pub reads_method_def : (class : Text) (words : List ℕ) → Reads (KnownMethodDef class) (Lacks (codes "    ")) (full_method_lines class words)
reads_method_def class words = record { read = method_from class words }
