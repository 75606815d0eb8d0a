-- The symbols that stripped definitions mention are mentioned by the definitions, and their short strings are the same.
use Rattle.dexspec.proofs.Common.{◌≡◌, ◌≤◌, List, [], ◌++◌, length, map, Option, Some, None, refl, sym, ap, ◌∙◌, subst, Contains, flat_map, option_map, option_to_list, same_Some, Code}
use Rattle.dexspec.specs.{rank, Text, text_cmp, Instruction, Symbol, TextSymbol, TypeSymbol, MethodSymbol, proto_cmp, field_cmp, method_cmp, handlers_of, MethodDef, Body, Definition, declared_fields, declared_methods, mentions, symbols_of, optional_text, optional_type, piece_symbols, handler_symbols, debug_symbols, code_symbols, set_symbols, field_symbols, method_symbols, values_symbols, method_of, texts_in, types_in, protos_in, fields_in, methods_in, HasShortString, strip_code, strip_method, strip_body, strip_definition, strip}
use Rattle.dexspec.proofs.lists.{AreAmong, length-among, AreDistinct-from_Rises, rank-among, AreAmong-refl, AreAmong-none, AreAmong-cons, AreAmong-append, Contains-map_source, AreAmong-flat_map_map}
use Rattle.dexspec.proofs.merge.{text_total, proto_total, field_total, method_total, AreMentioned, mentions-rising, Occurs, texts-listed, texts-source, types-listed, types-source, protos-listed, protos-source, fields-listed, fields-source, methods-listed, methods-source, Contains-map}
use Rattle.dexspec.proofs.strip.StripUnion.{declared_methods-strip}

-- ---- the symbols that occur

-- stripped code has symbols of the code
code_symbols-strip : (c : Code) → AreAmong (code_symbols (strip_code c)) (code_symbols c)
code_symbols-strip c =
    let pieces = flat_map piece_symbols c.pieces in
    let handlers = flat_map handler_symbols (handlers_of c.tries) in
    let debug = flat_map debug_symbols (option_to_list c.debug) in
    AreAmong-append pieces (handlers ++ []) pieces (handlers ++ debug) (AreAmong-refl pieces)
    (AreAmong-append handlers [] handlers debug (AreAmong-refl handlers) (AreAmong-none debug))

-- optional code
codes_symbols-strip : (o : Option Code) → AreAmong (flat_map code_symbols (option_to_list (option_map strip_code o))) (flat_map code_symbols (option_to_list o))
codes_symbols-strip None = AreAmong-none []
codes_symbols-strip (Some c) = AreAmong-append (code_symbols (strip_code c)) [] (code_symbols c) [] (code_symbols-strip c) (AreAmong-refl [])

-- a stripped method has symbols of the method
method_symbols-strip : (class : Text) (m : MethodDef) → AreAmong (method_symbols class (strip_method m)) (method_symbols class m)
method_symbols-strip class m =
    let codes = flat_map code_symbols (option_to_list m.code) in
    let stripped = flat_map code_symbols (option_to_list (option_map strip_code m.code)) in
    let sets = set_symbols m.annotations ++ flat_map set_symbols m.parameter_annotations in
    AreAmong-cons (MethodSymbol (method_of class m)) (stripped ++ sets) (codes ++ sets) (AreAmong-append stripped sets codes sets (codes_symbols-strip m.code) (AreAmong-refl sets))

-- the symbols of methods, then others
methods_symbols-strip : (class : Text) (c : Body) (others : List Symbol)
    → AreAmong (flat_map (method_symbols class) (declared_methods (strip_body c)) ++ others) (flat_map (method_symbols class) (declared_methods c) ++ others)
methods_symbols-strip class c others =
    let methods = flat_map (method_symbols class) (declared_methods c) in
    subst (λ ms. AreAmong (flat_map (method_symbols class) ms ++ others) (methods ++ others)) (sym (declared_methods-strip c))
    (AreAmong-append (flat_map (method_symbols class) (map strip_method (declared_methods c))) others methods others
    (AreAmong-flat_map_map strip_method (method_symbols class) (method_symbols-strip class) (declared_methods c)) (AreAmong-refl others))

-- a stripped definition has symbols of the definition
pub symbols_of-strip : (d : Definition) → AreAmong (symbols_of (strip_definition d)) (symbols_of d)
unfolding symbols_of
symbols_of-strip (name, c) =
    let superclass = optional_type c.superclass in
    let interfaces = map TypeSymbol c.interfaces in
    let source = optional_text c.source in
    let annotations = set_symbols c.annotations in
    let fields = flat_map (field_symbols name) (declared_fields c) in
    let values = values_symbols c.static_values in
    let methods = flat_map (method_symbols name) (declared_methods c) ++ values in
    let stripped = flat_map (method_symbols name) (declared_methods (strip_body c)) ++ values in
    AreAmong-cons (TypeSymbol name) (superclass ++ (interfaces ++ ([] ++ (annotations ++ (fields ++ stripped))))) (superclass ++ (interfaces ++ (source ++ (annotations ++ (fields ++ methods)))))
    (AreAmong-append superclass (interfaces ++ ([] ++ (annotations ++ (fields ++ stripped)))) superclass (interfaces ++ (source ++ (annotations ++ (fields ++ methods)))) (AreAmong-refl superclass)
    (AreAmong-append interfaces ([] ++ (annotations ++ (fields ++ stripped))) interfaces (source ++ (annotations ++ (fields ++ methods))) (AreAmong-refl interfaces)
    (AreAmong-append [] (annotations ++ (fields ++ stripped)) source (annotations ++ (fields ++ methods)) (AreAmong-none source)
    (AreAmong-append annotations (fields ++ stripped) annotations (fields ++ methods) (AreAmong-refl annotations)
    (AreAmong-append fields stripped fields methods (AreAmong-refl fields) (methods_symbols-strip name c values))))))

-- ---- mentioned symbols

module _ (D : List Definition) where
  -- a part that occurs in stripped definitions occurs in the definitions
  occurs-strip : {X : Type 0} (parts : Symbol → List X) (x : X) → Occurs parts (strip D) x → Occurs parts D x
  occurs-strip parts x w =
      let s = Contains-map_source strip_definition D w.definition w.member in
      record { definition = s.0; symbol = w.symbol; member = s.1; occurs = symbols_of-strip s.0 w.symbol (subst (λ d. Contains (symbols_of d) w.symbol) (sym s.2) w.occurs); part = w.part }

  -- a symbol that stripped definitions mention is mentioned by the definitions
  pub mentions-strip : AreMentioned (mentions (strip D)) (mentions D)
  mentions-strip = record {
    texts = λ x c. texts-listed D x (occurs-strip texts_in x (texts-source (strip D) x c));
    types = λ x c. types-listed D x (occurs-strip types_in x (types-source (strip D) x c));
    protos = λ x c. protos-listed D x (occurs-strip protos_in x (protos-source (strip D) x c));
    fields = λ x c. fields-listed D x (occurs-strip fields_in x (fields-source (strip D) x c));
    methods = λ x c. methods-listed D x (occurs-strip methods_in x (methods-source (strip D) x c));
  }

  -- at most as many types
  pub types-strip : length (mentions (strip D)).types ≤ length (mentions D).types
  types-strip = length-among (mentions (strip D)).types (mentions D).types (AreDistinct-from_Rises text_cmp text_total (mentions (strip D)).types (mentions-rising (strip D)).types) mentions-strip.types

  -- at most as many protos
  pub protos-strip : length (mentions (strip D)).protos ≤ length (mentions D).protos
  protos-strip = length-among (mentions (strip D)).protos (mentions D).protos (AreDistinct-from_Rises proto_cmp proto_total (mentions (strip D)).protos (mentions-rising (strip D)).protos) mentions-strip.protos

  -- at most as many fields
  pub fields-strip : length (mentions (strip D)).fields ≤ length (mentions D).fields
  fields-strip = length-among (mentions (strip D)).fields (mentions D).fields (AreDistinct-from_Rises field_cmp field_total (mentions (strip D)).fields (mentions-rising (strip D)).fields) mentions-strip.fields

  -- at most as many methods
  pub methods-strip : length (mentions (strip D)).methods ≤ length (mentions D).methods
  methods-strip = length-among (mentions (strip D)).methods (mentions D).methods (AreDistinct-from_Rises method_cmp method_total (mentions (strip D)).methods (mentions-rising (strip D)).methods) mentions-strip.methods

  -- ranks of texts are no greater
  pub text_rank-strip : (s : Text) → rank text_cmp s (mentions (strip D)).texts ≤ rank text_cmp s (mentions D).texts
  text_rank-strip s = rank-among text_cmp text_total s (mentions (strip D)).texts (mentions D).texts (mentions-rising (strip D)).texts mentions-strip.texts

  -- ---- short strings

  -- a short string stays one
  pub HasShortString-strip : (s : Text) → HasShortString D s → HasShortString (strip D) s
  HasShortString-strip s x = record {
    definition = strip_definition x.definition;
    method = strip_method x.method;
    code = strip_code x.code;
    units = x.units;
    member = Contains-map strip_definition D x.definition x.member;
    declared = subst (λ ms. Contains ms (strip_method x.method)) (sym (declared_methods-strip x.definition.1)) (Contains-map strip_method (declared_methods x.definition.1) x.method x.declared);
    has_code = ap (option_map strip_code) x.has_code;
    piece = x.piece;
    short = x.short;
  }

-- stripped code comes from code
code_source : (o : Option Code) (c : Code) → option_map strip_code o ≡ Some c → (b : Code) × (o ≡ Some b) × (strip_code b ≡ c)
code_source None c e = absurd cc
code_source (Some b) c e = (b, refl, same_Some (strip_code b) c e)

-- a short string of stripped definitions was a short string
pub HasShortString-strip_source : (D : List Definition) (s : Text) → HasShortString (strip D) s → HasShortString D s
HasShortString-strip_source D s x =
    let d = Contains-map_source strip_definition D x.definition x.member in
    let methods : declared_methods x.definition.1 ≡ map strip_method (declared_methods d.0.1) = ap (λ (e : Definition). declared_methods e.1) (sym d.2) ∙ declared_methods-strip d.0.1 in
    let m = Contains-map_source strip_method (declared_methods d.0.1) x.method (subst (λ ms. Contains ms x.method) methods x.declared) in
    let c = code_source m.0.code x.code (ap (λ (n : MethodDef). n.code) m.2 ∙ x.has_code) in
    record {
      definition = d.0;
      method = m.0;
      code = c.0;
      units = x.units;
      member = d.1;
      declared = m.1;
      has_code = c.1;
      piece = subst (λ (e : Code). Contains e.pieces (Instruction x.units (Some (TextSymbol s)))) (sym c.2) x.piece;
      short = x.short;
    }
