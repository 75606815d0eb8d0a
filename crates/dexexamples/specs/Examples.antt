-- Small classes whose files, weights and ranks are known from other sources.
use Rattle.std.specs.Prelude.{ℕ, List, [], ◌∷◌, ◌++◌, Some, None, codes, pos}
use Rattle.std.specs.FinMap.{from_entries}
use Rattle.dexspec.specs.Texts.{Text}
use Rattle.dexspec.specs.Symbols.{Proto, TextSymbol}
use Rattle.dexspec.specs.Pieces.{Instruction}
use Rattle.dexspec.specs.Code.{Code}
use Rattle.dexspec.specs.Debug.{Special}
use Rattle.dexspec.specs.Values.{Value, ShortValue, IntValue, NoValues, ThenValue, NoElements, ThenElement}
use Rattle.dexspec.specs.Annotations.{AnnotationSet}
use Rattle.dexspec.specs.Classes.{Body, Definition, FieldDef, MethodDef}
use Rattle.dexspec.specs.Files.{Collection}

abbrev pub object : Text
object = codes "Ljava/lang/Object;"

-- a public class without members
abbrev pub body_under : Text → Body
body_under parent = record {
  flags = 1;
  superclass = Some parent;
  interfaces = [];
  source = None;
  annotations = [];
  static_fields = [];
  instance_fields = [];
  direct_methods = [];
  virtual_methods = [];
  static_values = NoValues;
}

abbrev pub class_a : Definition
class_a = (codes "LA;", body_under object)

-- below `class_a`
abbrev pub class_b : Definition
class_b = (codes "LB;", body_under (codes "LA;"))

-- of the same name, below Object
abbrev pub class_d : Definition
class_d = (codes "LB;", body_under object)

abbrev pub class_z : Definition
class_z = (codes "LZ;", body_under object)

-- below `class_z`, though its name is less
abbrev pub class_b_under_z : Definition
class_b_under_z = (codes "LB;", body_under (codes "LZ;"))

-- `()V`
abbrev pub void_proto : Proto
void_proto = record { return_type = codes "V"; parameters = [] }

-- const-string v0 of a text, return-void
abbrev pub string_code : Text → Code
string_code s = record {
  registers = 1;
  ins = 0;
  outs = 0;
  pieces = Instruction (0x001a ∷ 0x0000 ∷ []) (Some (TextSymbol s)) ∷ Instruction (0x000e ∷ []) None ∷ [];
  tries = [];
  debug = None;
}

-- the public static method `m()V` with this code
abbrev pub method_m : Code → MethodDef
method_m code =
    record {
      name = codes "m";
      proto = void_proto;
      flags = 9;
      code = Some code;
      annotations = [];
      parameter_annotations = [];
    }

-- `LA;` with such a method, which loads a text
abbrev pub class_p : Text → Definition
class_p s = (codes "LA;", record (body_under object) { direct_methods = method_m (string_code s) ∷ [] })

-- `LA;` with a static field `x:I` that has the value 5, annotated with `LN;`
abbrev pub class_f : Definition
class_f = (
  codes "LA;",
  record (body_under object) {
    annotations = record { visibility = 1; type = codes "LN;"; elements = NoElements } ∷ [];
    static_fields = record { name = codes "x"; type = codes "I"; flags = 9; annotations = [] } ∷ [];
    static_values = ThenValue (IntValue (pos 5)) NoValues;
  },
)

-- a static field `:I` with a set
abbrev pub int_field : Text → AnnotationSet → FieldDef
int_field name set = record { name = name; type = codes "I"; flags = 9; annotations = set }

-- `LN;`, and `LN;` with this value of its element `v`
abbrev pub set_n : AnnotationSet
set_n = record { visibility = 1; type = codes "LN;"; elements = NoElements } ∷ []

abbrev pub set_v : Value → AnnotationSet
set_v value = record { visibility = 1; type = codes "LN;"; elements = ThenElement (codes "v") value NoElements } ∷ []

-- `LA;` with a set of its own, and fields
abbrev pub annotated : AnnotationSet → List FieldDef → Definition
annotated set fields = (codes "LA;", record (body_under object) { annotations = set; static_fields = fields })

-- `LA;` and its field with one set, and the field has the value 5
abbrev pub class_set_twice : Definition
class_set_twice = (
  codes "LA;",
  record (annotated set_n (int_field (codes "x") set_n ∷ [])).1
      { static_values = ThenValue (IntValue (pos 5)) NoValues },
)

-- the set of `LA;` is that of its second field
abbrev pub class_set_first_use : Definition
class_set_first_use =
    annotated (set_v (IntValue (pos 1)))
    (int_field (codes "x") (set_v (IntValue (pos 2))) ∷ int_field (codes "y") (set_v (IntValue (pos 1))) ∷ [])

-- the sets of `LA;` and its field have one type, and different values
abbrev pub class_equal_sets : Definition
class_equal_sets = annotated (set_v (IntValue (pos 1))) (int_field (codes "x") (set_v (IntValue (pos 2))) ∷ [])

-- the same with one number of two kinds
abbrev pub class_sets_kind : Definition
class_sets_kind = annotated (set_v (IntValue (pos 1))) (int_field (codes "x") (set_v (ShortValue (pos 1))) ∷ [])

-- return-void with a debug program: one position, at this line
abbrev pub code_at : ℕ → Code
code_at line = record {
  registers = 1;
  ins = 0;
  outs = 0;
  pieces = Instruction (0x000e ∷ []) None ∷ [];
  tries = [];
  debug = Some (record { line_start = line; parameter_names = []; operations = Special 0x0e ∷ [] });
}

-- the public static method of this name with such code
abbrev pub method_at : Text → ℕ → MethodDef
method_at name line = record (method_m (code_at line)) { name = name }

-- `LA;` with two methods that have equal debug programs
abbrev pub class_debug_twice : Definition
class_debug_twice = (
  codes "LA;",
  record (body_under object)
      { direct_methods = method_at (codes "m") 10 ∷ method_at (codes "n") 10 ∷ [] },
)

-- the debug program of the first method is that of the third
abbrev pub class_debug_first_use : Definition
class_debug_first_use = (
  codes "LA;",
  record (body_under object)
      { direct_methods = method_at (codes "m") 10 ∷ method_at (codes "n") 11 ∷ method_at (codes "o") 10 ∷ [] },
)

-- `LA;` and `LB;` with the interface `LI;`, and `LA;` with a method `m(LI;)V`
abbrev pub classes_list_thrice : List Definition
classes_list_thrice = (
  codes "LA;",
  record (body_under object) {
    interfaces = codes "LI;" ∷ [];
    direct_methods =
        record {
          name = codes "m";
          proto = record { return_type = codes "V"; parameters = codes "LI;" ∷ [] };
          flags = 9;
          code = None;
          annotations = [];
          parameter_annotations = [];
        } ∷ [];
  },
)
    ∷ (codes "LB;", record (body_under object) { interfaces = codes "LI;" ∷ [] }) ∷ []

-- the sets of `LA;` and its field have an equal annotation, and are different
abbrev pub class_annotation_twice : Definition
class_annotation_twice =
    annotated set_n
    (int_field (codes "x") (set_n ++ record { visibility = 1; type = codes "LP;"; elements = NoElements } ∷ []) ∷ [])

-- a class of this name with the interface `LI;`, a set, and a method `m(LI;)V` with a debug program
abbrev pub class_sharing : Text → Definition
class_sharing name = (
  name,
  record (body_under object) {
    interfaces = codes "LI;" ∷ [];
    annotations = set_v (IntValue (pos 7));
    direct_methods =
        record (method_at (codes "m") 10) { proto = record { return_type = codes "V"; parameters = codes "LI;" ∷ [] } }
        ∷ [];
  },
)

-- three of them
abbrev pub classes_sharing : List Definition
classes_sharing = class_sharing (codes "LA;") ∷ class_sharing (codes "LB;") ∷ class_sharing (codes "LC;") ∷ []

-- the collection of `class_p` with the text "hi"
abbrev pub with_hi : Collection
with_hi = from_entries (class_p (codes "hi") ∷ [])

-- the collection of `class_debug_twice`
abbrev pub with_debug_twice : Collection
with_debug_twice = from_entries (class_debug_twice ∷ [])
