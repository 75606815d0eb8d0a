-- The weight of class definitions: an upper bound on the bytes of their canonical file, and on what a program keeps of
-- them. This project's rule.
use Rattle.std.specs.Prelude.{ℕ, ◌+◌, ◌*◌, ◌^◌, List, [], ◌∷◌, length, option_to_list, sum_by}
use Rattle.std.specs.List.{flat_map}
use Rattle.dexspec.specs.Texts.{Text}
use Rattle.dexspec.specs.Symbols.{Proto}
use Rattle.dexspec.specs.Pieces.{units_of}
use Rattle.dexspec.specs.Debug.{Operation, AdvancePc, AdvanceLine, StartLocal, StartLocalExtended, EndLocal}
use Rattle.dexspec.specs.Debug.{RestartLocal}
use Rattle.dexspec.specs.Debug.{SetPrologueEnd, SetEpilogueBegin, SetFile, Special, Debug}
use Rattle.dexspec.specs.Code.{Try, Code, handlers_of, handlers_weight}
use Rattle.dexspec.specs.Values.{Value, ArrayValue, AnnotationValue, Values, NoValues, ThenValue, Elements, NoElements}
use Rattle.dexspec.specs.Values.{ThenElement}
use Rattle.dexspec.specs.Annotations.{Annotation, AnnotationSet}
use Rattle.dexspec.specs.Classes.{FieldDef, MethodDef, Body, Definition, declared_fields, declared_methods}
use Rattle.dexspec.specs.Mentions.{Mentions, mentions}

-- ---- mentioned symbols

-- a string_id and its string_data_item
abbrev pub text_weight : Text → ℕ
text_weight s = 10 + 3 * length s

-- a proto_id and its type_list
abbrev pub proto_weight : Proto → ℕ
proto_weight p = 20 + 2 * length p.parameters

-- all rows of the five pools, with the items that they refer to
abbrev pub mentions_weight : Mentions → ℕ
mentions_weight m =
    sum_by text_weight m.texts + 4 * length m.types + sum_by proto_weight m.protos + 8 * length m.fields
    + 8 * length m.methods

-- ---- parts of a definition

-- the number of operands of an operation; a special operation has none
abbrev pub operands : Operation → ℕ
operands (AdvancePc addresses) = 1
operands (AdvanceLine lines) = 1
operands (StartLocal register name type) = 3
operands (StartLocalExtended register name type signature) = 4
operands (EndLocal register) = 1
operands (RestartLocal register) = 1
operands SetPrologueEnd = 0
operands SetEpilogueBegin = 0
operands (SetFile name) = 1
operands (Special opcode) = 0

-- a debug_info_item
abbrev pub debug_weight : Debug → ℕ
debug_weight d = 11 + 5 * length d.parameter_names + sum_by (λ op. 1 + 5 * operands op) d.operations

-- code without tries has no handler list
abbrev pub tries_weight : List Try → ℕ
tries_weight [] = 0
tries_weight (t ∷ ts) = 8 * length (t ∷ ts) + handlers_weight (handlers_of (t ∷ ts))

-- a code_item without its debug program
abbrev pub code_weight : Code → ℕ
code_weight c = 24 + 2 * length (flat_map units_of c.pieces) + tries_weight c.tries

abbrev mutual
  -- an encoded_value
  pub value_weight : Value → ℕ
  value_weight (ArrayValue vs) = 6 + values_weight vs
  value_weight (AnnotationValue t es) = 12 + elements_weight es
  value_weight _ = 9

  -- values in sequence
  pub values_weight : Values → ℕ
  values_weight NoValues = 0
  values_weight (ThenValue v vs) = value_weight v + values_weight vs

  -- annotation_elements in sequence
  pub elements_weight : Elements → ℕ
  elements_weight NoElements = 0
  elements_weight (ThenElement name v es) = 5 + value_weight v + elements_weight es

-- an annotation_item
abbrev pub annotation_weight : Annotation → ℕ
annotation_weight a = 12 + elements_weight a.elements

-- an empty set weighs nothing
abbrev pub set_weight : AnnotationSet → ℕ
set_weight [] = 0
set_weight (x ∷ xs) = 8 + sum_by (λ a. 4 + annotation_weight a) (x ∷ xs)

-- a set for each parameter, and the list of them
abbrev pub ref_list_weight : List AnnotationSet → ℕ
ref_list_weight [] = 0
ref_list_weight (s ∷ ss) = 8 + 4 * length (s ∷ ss) + sum_by set_weight (s ∷ ss)

-- an array of static values; an empty one weighs nothing
abbrev pub static_values_weight : Values → ℕ
static_values_weight NoValues = 0
static_values_weight (ThenValue v vs) = 6 + values_weight (ThenValue v vs)

-- a declared field with its set
abbrev pub field_weight : FieldDef → ℕ
field_weight f = 18 + set_weight f.annotations

-- a declared method with its code, debug program and sets
abbrev pub method_weight : MethodDef → ℕ
method_weight m = 31 + sum_by (λ c. code_weight c + sum_by debug_weight (option_to_list c.debug))
    (option_to_list m.code) + set_weight m.annotations + ref_list_weight m.parameter_annotations

-- a class row with the other items of the class
abbrev pub body_weight : Body → ℕ
body_weight c = 96 + 2 * length c.interfaces + set_weight c.annotations + sum_by field_weight (declared_fields c)
    + sum_by method_weight (declared_methods c) + static_values_weight c.static_values

-- ---- the whole

-- the weight of definitions of which no two are equal
unfoldable pub weight : List Definition → ℕ
weight D = 1024 + mentions_weight (mentions D) + sum_by (λ d. body_weight d.1) D

-- the maximum weight of the classes of a file
abbrev pub most_weight : ℕ
most_weight = 2 ^ 30
