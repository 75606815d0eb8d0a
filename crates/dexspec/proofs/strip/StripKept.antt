-- Stripping removes no proto, field or method from the mentions of definitions.
use Rattle.dexspec.proofs.Common.{◌≡◌, List, [], ◌∷◌, ◌++◌, map, Option, Some, None, sym, subst, arith, inl, inr, Contains, flat_map, option_map, option_to_list, Contains-append_left, Contains-append_right, Contains-append_cases, Debug, Code}
use Rattle.dexspec.specs.{Text, Symbol, TextSymbol, TypeSymbol, MethodSymbol, Proto, Field, Method, proto_cmp, field_cmp, method_cmp, Operation, AdvancePc, AdvanceLine, StartLocal, StartLocalExtended, EndLocal, RestartLocal, SetPrologueEnd, SetEpilogueBegin, SetFile, Special, handlers_of, MethodDef, Definition, declared_fields, declared_methods, mentions, symbols_of, optional_text, optional_type, piece_symbols, operation_symbols, handler_symbols, debug_symbols, code_symbols, set_symbols, field_symbols, method_symbols, values_symbols, method_of, protos_in, fields_in, methods_in, strip_code, strip_method, strip_body, strip_definition, strip}
use Rattle.dexspec.proofs.lists.{Contains-nil, Contains-later, Contains-cons_cases, Contains-flat_map_source, Rises-same}
use Rattle.dexspec.proofs.merge.{proto_total, field_total, method_total, mentions-rising, Occurs, protos-listed, protos-source, fields-listed, fields-source, methods-listed, methods-source, Contains-map}
use Rattle.dexspec.proofs.strip.StripUnion.{declared_methods-strip}
use Rattle.dexspec.proofs.strip.StripMentions.{mentions-strip}

-- neither a text nor a type
abbrev IsOther : Symbol → Type 0
IsOther (TextSymbol s) = ⊥
IsOther (TypeSymbol t) = ⊥
IsOther _ = Unit {0}

-- all are texts and types
abbrev AreNames : List Symbol → Type 0
AreNames xs = (s : Symbol) → IsOther s → Contains xs s → ⊥

-- each other member of the first is one of the second
abbrev AreKept : List Symbol → List Symbol → Type 0
AreKept xs ys = (s : Symbol) → IsOther s → Contains xs s → Contains ys s

-- ---- texts and types

-- two lists of texts and types, joined
names-append : (xs ys : List Symbol) → AreNames xs → AreNames ys → AreNames (xs ++ ys)
names-append xs ys f g s o c = elim (Contains-append_cases xs ys s c) [ inl l ↦ f s o l | inr r ↦ g s o r ]

-- many lists of texts and types, joined
names-flat_map : {X : Type 0} (f : X → List Symbol) (xs : List X) → ((x : X) → AreNames (f x)) → AreNames (flat_map f xs)
names-flat_map f xs h s o c = let w = Contains-flat_map_source f xs s c in h w.0 s o w.2

-- the empty list
names-none : AreNames []
names-none s o c = Contains-nil s c

-- an optional text
names-text : (t : Option Text) → AreNames (optional_text t)
names-text None s o c = Contains-nil s c
names-text (Some t) s o c = elim (Contains-cons_cases (TextSymbol t) s [] c) [ inl e ↦ subst IsOther (sym e) o | inr l ↦ Contains-nil s l ]

-- an optional type
names-type : (t : Option Text) → AreNames (optional_type t)
names-type None s o c = Contains-nil s c
names-type (Some t) s o c = elim (Contains-cons_cases (TypeSymbol t) s [] c) [ inl e ↦ subst IsOther (sym e) o | inr l ↦ Contains-nil s l ]

-- an operation names only texts and types
names-operation : (op : Operation) → AreNames (operation_symbols op)
names-operation (StartLocal register name type) = names-append (optional_text name) (optional_type type) (names-text name) (names-type type)
names-operation (StartLocalExtended register name type signature) =
    names-append (optional_text name) (optional_type type ++ optional_text signature) (names-text name)
    (names-append (optional_type type) (optional_text signature) (names-type type) (names-text signature))
names-operation (SetFile name) = names-text name
names-operation (AdvancePc addresses) = names-none
names-operation (AdvanceLine lines) = names-none
names-operation (EndLocal register) = names-none
names-operation (RestartLocal register) = names-none
names-operation SetPrologueEnd = names-none
names-operation SetEpilogueBegin = names-none
names-operation (Special opcode) = names-none

-- a debug program names only texts and types
names-debug : (d : Debug) → AreNames (debug_symbols d)
names-debug d =
    names-append (flat_map optional_text d.parameter_names) (flat_map operation_symbols d.operations)
    (names-flat_map optional_text d.parameter_names names-text) (names-flat_map operation_symbols d.operations names-operation)

-- ---- kept symbols

-- a list keeps its own symbols
kept-all : (xs : List Symbol) → AreKept xs xs
kept-all xs s o c = c

-- texts and types do not matter
kept-names : (xs ys : List Symbol) → AreNames xs → AreKept xs ys
kept-names xs ys h s o c = absurd (h s o c)

-- with one more at the start of both
kept-cons : (x : Symbol) (xs ys : List Symbol) → AreKept xs ys → AreKept (x ∷ xs) (x ∷ ys)
kept-cons x xs ys h s o c = elim (Contains-cons_cases x s xs c) [ inl e ↦ (0, omega arith, e) | inr l ↦ Contains-later x s ys (h s o l) ]

-- two lists joined
kept-append : (xs ys zs ws : List Symbol) → AreKept xs zs → AreKept ys ws → AreKept (xs ++ ys) (zs ++ ws)
kept-append xs ys zs ws f g s o c = elim (Contains-append_cases xs ys s c) [
  | inl l ↦ Contains-append_left zs ws s (f s o l)
  | inr r ↦ Contains-append_right zs ws s (g s o r)
]

-- code loses only texts and types
kept-code : (c : Code) → AreKept (code_symbols c) (code_symbols (strip_code c))
kept-code c =
    let pieces = flat_map piece_symbols c.pieces in
    let handlers = flat_map handler_symbols (handlers_of c.tries) in
    let debug = flat_map debug_symbols (option_to_list c.debug) in
    kept-append pieces (handlers ++ debug) pieces (handlers ++ []) (kept-all pieces)
    (kept-append handlers debug handlers [] (kept-all handlers) (kept-names debug [] (names-flat_map debug_symbols (option_to_list c.debug) names-debug)))

-- optional code
kept-codes : (o : Option Code) → AreKept (flat_map code_symbols (option_to_list o)) (flat_map code_symbols (option_to_list (option_map strip_code o)))
kept-codes None = kept-all []
kept-codes (Some c) = kept-append (code_symbols c) [] (code_symbols (strip_code c)) [] (kept-code c) (kept-all [])

-- a method loses only texts and types
kept-method : (class : Text) (m : MethodDef) → AreKept (method_symbols class m) (method_symbols class (strip_method m))
kept-method class m =
    let codes = flat_map code_symbols (option_to_list m.code) in
    let stripped = flat_map code_symbols (option_to_list (option_map strip_code m.code)) in
    let sets = set_symbols m.annotations ++ flat_map set_symbols m.parameter_annotations in
    kept-cons (MethodSymbol (method_of class m)) (codes ++ sets) (stripped ++ sets) (kept-append codes sets stripped sets (kept-codes m.code) (kept-all sets))

-- methods lose only texts and types
kept-methods : (class : Text) (ms : List MethodDef) → AreKept (flat_map (method_symbols class) ms) (flat_map (method_symbols class) (map strip_method ms))
kept-methods class [] = kept-all []
kept-methods class (m ∷ ms) =
    kept-append (method_symbols class m) (flat_map (method_symbols class) ms) (method_symbols class (strip_method m)) (flat_map (method_symbols class) (map strip_method ms))
    (kept-method class m) (kept-methods class ms)

-- a definition loses only texts and types
kept-definition : (d : Definition) → AreKept (symbols_of d) (symbols_of (strip_definition d))
unfolding symbols_of
kept-definition (name, c) =
    let superclass = optional_type c.superclass in
    let interfaces = map TypeSymbol c.interfaces in
    let source = optional_text c.source in
    let annotations = set_symbols c.annotations in
    let fields = flat_map (field_symbols name) (declared_fields c) in
    let values = values_symbols c.static_values in
    let methods = flat_map (method_symbols name) (declared_methods c) in
    let stripped = flat_map (method_symbols name) (declared_methods (strip_body c)) in
    let ms = subst (λ l. AreKept methods (flat_map (method_symbols name) l)) (sym (declared_methods-strip c)) (kept-methods name (declared_methods c)) in
    kept-cons (TypeSymbol name) (superclass ++ (interfaces ++ (source ++ (annotations ++ (fields ++ (methods ++ values)))))) (superclass ++ (interfaces ++ ([] ++ (annotations ++ (fields ++ (stripped ++ values))))))
    (kept-append superclass (interfaces ++ (source ++ (annotations ++ (fields ++ (methods ++ values))))) superclass (interfaces ++ ([] ++ (annotations ++ (fields ++ (stripped ++ values))))) (kept-all superclass)
    (kept-append interfaces (source ++ (annotations ++ (fields ++ (methods ++ values)))) interfaces ([] ++ (annotations ++ (fields ++ (stripped ++ values)))) (kept-all interfaces)
    (kept-append source (annotations ++ (fields ++ (methods ++ values))) [] (annotations ++ (fields ++ (stripped ++ values))) (kept-names source [] (names-text c.source))
    (kept-append annotations (fields ++ (methods ++ values)) annotations (fields ++ (stripped ++ values)) (kept-all annotations)
    (kept-append fields (methods ++ values) fields (stripped ++ values) (kept-all fields)
    (kept-append methods values stripped values ms (kept-all values)))))))

-- ---- mentioned symbols

-- a text or type has no proto
protos-other : (s : Symbol) (p : Proto) → Contains (protos_in s) p → IsOther s
protos-other (TextSymbol s) p c = Contains-nil p c
protos-other (TypeSymbol t) p c = Contains-nil p c
protos-other _ p c = tt

-- a text or type has no field
fields-other : (s : Symbol) (f : Field) → Contains (fields_in s) f → IsOther s
fields-other (TextSymbol s) f c = Contains-nil f c
fields-other (TypeSymbol t) f c = Contains-nil f c
fields-other _ f c = tt

-- a text or type has no method
methods-other : (s : Symbol) (m : Method) → Contains (methods_in s) m → IsOther s
methods-other (TextSymbol s) m c = Contains-nil m c
methods-other (TypeSymbol t) m c = Contains-nil m c
methods-other _ m c = tt

module _ (D : List Definition) where
  -- a part that is not a part of a text or type still occurs
  occurs-kept : {X : Type 0} (parts : Symbol → List X) (x : X) → ((s : Symbol) → Contains (parts s) x → IsOther s) → Occurs parts D x → Occurs parts (strip D) x
  occurs-kept parts x other w = record {
    definition = strip_definition w.definition;
    symbol = w.symbol;
    member = Contains-map strip_definition D w.definition w.member;
    occurs = kept-definition w.definition w.symbol (other w.symbol w.part) w.occurs;
    part = w.part;
  }

  -- the protos are the same
  pub protos-kept : (mentions (strip D)).protos ≡ (mentions D).protos
  protos-kept =
      Rises-same proto_cmp proto_total (mentions (strip D)).protos (mentions D).protos (mentions-rising (strip D)).protos (mentions-rising D).protos (mentions-strip D).protos
      (λ p c. protos-listed (strip D) p (occurs-kept protos_in p (λ s. protos-other s p) (protos-source D p c)))

  -- the fields are the same
  pub fields-kept : (mentions (strip D)).fields ≡ (mentions D).fields
  fields-kept =
      Rises-same field_cmp field_total (mentions (strip D)).fields (mentions D).fields (mentions-rising (strip D)).fields (mentions-rising D).fields (mentions-strip D).fields
      (λ f c. fields-listed (strip D) f (occurs-kept fields_in f (λ s. fields-other s f) (fields-source D f c)))

  -- the methods are the same
  pub methods-kept : (mentions (strip D)).methods ≡ (mentions D).methods
  methods-kept =
      Rises-same method_cmp method_total (mentions (strip D)).methods (mentions D).methods (mentions-rising (strip D)).methods (mentions-rising D).methods (mentions-strip D).methods
      (λ m c. methods-listed (strip D) m (occurs-kept methods_in m (λ s. methods-other s m) (methods-source D m c)))
