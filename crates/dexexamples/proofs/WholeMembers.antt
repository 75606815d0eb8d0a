-- A file whose class has a method with code: what its rows, class data and code denote.
use Rattle.dexexamples.proofs.Common.{◌≡◌, ℕ, ◌<◌, inl, inr, [], ◌∷◌, refl, arith, codes, All-from_recursion, All-nil, AllPass-from_list_all, number_of, uint_at, ushort_at, IsNameUnit, IsMemberName, VoidType, ClassType, IsValueType, IsStringData, Method, opcode_of, opcode_runs, piece_size, has_right_targets, IsCode, StringRow, TypeRow, ProtoRow, MethodRow, CodeAt, PiecesAt, no_directory, ClassData, ClassDataAt, ClassRow, HasMembers}
use Rattle.dexspec.specs.Numbers.{IsUleb128}
use Rattle.dexexamples.specs.{object, void_proto, string_code, class_p, cut, whole_p}
use Rattle.dexexamples.proofs.WholeRows.{class_of_a, class_of_object, units_by, data_of_a, data_of_object}

data_of_v : IsStringData (0x01 ∷ 0x56 ∷ 0x00 ∷ []) (codes "V")
data_of_v = record { count = 0x01 ∷ []; says = record { chain = omega arith; few = omega arith; value = refl; in_range = omega arith }; units = units_by (codes "V") refl; parts = refl }

data_of_hi : IsStringData (0x02 ∷ 0x68 ∷ 0x69 ∷ 0x00 ∷ []) (codes "hi")
data_of_hi = record { count = 0x02 ∷ []; says = record { chain = omega arith; few = omega arith; value = refl; in_range = omega arith }; units = units_by (codes "hi") refl; parts = refl }

data_of_m : IsStringData (0x01 ∷ 0x6d ∷ 0x00 ∷ []) (codes "m")
data_of_m = record { count = 0x01 ∷ []; says = record { chain = omega arith; few = omega arith; value = refl; in_range = omega arith }; units = units_by (codes "m") refl; parts = refl }

-- ---- the rows

string_0 : StringRow whole_p 0 (codes "LA;")
unfolding whole_p uint_at number_of
string_0 = record { row = omega arith; in_data = omega arith; encodes = (5, record { within = omega arith; spelled = data_of_a }) }

string_1 : StringRow whole_p 1 object
unfolding whole_p uint_at number_of
string_1 = record { row = omega arith; in_data = omega arith; encodes = (20, record { within = omega arith; spelled = data_of_object }) }

string_2 : StringRow whole_p 2 (codes "V")
unfolding whole_p uint_at number_of
string_2 = record { row = omega arith; in_data = omega arith; encodes = (3, record { within = omega arith; spelled = data_of_v }) }

string_3 : StringRow whole_p 3 (codes "hi")
unfolding whole_p uint_at number_of
string_3 = record { row = omega arith; in_data = omega arith; encodes = (4, record { within = omega arith; spelled = data_of_hi }) }

string_4 : StringRow whole_p 4 (codes "m")
unfolding whole_p uint_at number_of
string_4 = record { row = omega arith; in_data = omega arith; encodes = (3, record { within = omega arith; spelled = data_of_m }) }

type_0 : TypeRow whole_p 0 (codes "LA;")
unfolding whole_p uint_at number_of
type_0 = record { row = omega arith; text = string_0; descriptor = (ClassType, class_of_a) }

type_1 : TypeRow whole_p 1 object
unfolding whole_p uint_at number_of
type_1 = record { row = omega arith; text = string_1; descriptor = (ClassType, class_of_object) }

type_2 : TypeRow whole_p 2 (codes "V")
unfolding whole_p uint_at number_of
type_2 = record { row = omega arith; text = string_2; descriptor = (VoidType, refl) }

pub proto_0 : ProtoRow whole_p 0 void_proto
unfolding whole_p uint_at number_of
proto_0 = record { row = omega arith; shorty = string_2; return_type = type_2; parameters = inl (refl, refl); values = All-nil IsValueType }

-- `LA;.m()V`
abbrev the_method : Method
the_method = record { class = codes "LA;"; name = codes "m"; proto = void_proto }

name_m : IsMemberName (codes "m")
name_m = record { some = omega arith; units = All-from_recursion IsNameUnit (codes "m") ((omega arith, omega arith, omega arith, omega arith), tt) }

pub method_0 : MethodRow whole_p 0 the_method
unfolding whole_p uint_at ushort_at number_of
method_0 = record {
  row = omega arith;
  class = type_0;
  proto = proto_0;
  name = string_4;
  formed = record { class = inl class_of_a; name = name_m; proto = record { return_type = (VoidType, refl); parameters = All-nil IsValueType } };
}

-- ---- the code

code_is : IsCode (0x001a ∷ 0x0003 ∷ 0x000e ∷ []) (cut 0 2 ∷ cut 2 1 ∷ [])
unfolding piece_size has_right_targets opcode_of opcode_runs
code_is = record {
  some = omega arith;
  cut = (refl, refl, (refl, refl, refl));
  targets = AllPass-from_list_all (has_right_targets (0x001a ∷ 0x0003 ∷ 0x000e ∷ []) (cut 0 2 ∷ cut 2 1 ∷ [])) (cut 0 2 ∷ cut 2 1 ∷ []) refl;
}

pieces_at : PiecesAt whole_p 232 (cut 0 2 ∷ cut 2 1 ∷ []) (string_code (codes "hi")).pieces
unfolding whole_p uint_at ushort_at number_of opcode_of opcode_runs
pieces_at = record {
  in_data = record { following = omega arith; within = omega arith };
  aligned = refl;
  code = code_is;
  pieces = ((refl, string_3, refl), ((refl, refl, refl), tt));
}

pub code_at : CodeAt whole_p 232 (string_code (codes "hi"))
unfolding whole_p uint_at ushort_at number_of
code_at = record {
  registers = record { registers_size = refl; ins_size = refl; outs_size = refl };
  cuts = cut 0 2 ∷ cut 2 1 ∷ [];
  pieces = pieces_at;
  tries = inl (refl, refl);
  debug = inl (refl, refl);
}

-- ---- the class data

abbrev class_data : ClassData
class_data = record { static_fields = []; instance_fields = []; direct_methods = record { method = the_method; flags = 9; code_off = 232 } ∷ []; virtual_methods = [] }

-- a number of one byte
byte_is : (v : ℕ) → v < 128 → IsUleb128 (v ∷ []) v
byte_is v lt = record { chain = lt; few = omega arith; value = omega arith; in_range = omega arith }

pub class_data_at : ClassDataAt whole_p 254 class_data
unfolding whole_p uint_at ushort_at number_of
class_data_at = record {
  in_data = omega arith;
  counts_bytes = 4;
  static_fields_bytes = 0;
  instance_fields_bytes = 0;
  direct_methods_bytes = 4;
  virtual_methods_bytes = 0;
  counts = (
    1,
    3,
    record { within = omega arith; spelled = byte_is 0 (omega arith) },
    (1, 2, record { within = omega arith; spelled = byte_is 0 (omega arith) }, (1, 1, record { within = omega arith; spelled = byte_is 1 (omega arith) }, (1, 0, record { within = omega arith; spelled = byte_is 0 (omega arith) }, refl, refl), refl), refl),
    refl,
  );
  static_fields = refl;
  instance_fields = refl;
  direct_methods = (
    1,
    1,
    2,
    0,
    0,
    0,
    record { within = omega arith; spelled = byte_is 0 (omega arith) },
    record { within = omega arith; spelled = byte_is 9 (omega arith) },
    record { within = omega arith; spelled = record { chain = (omega arith, omega arith); few = omega arith; value = refl; in_range = omega arith } },
    refl,
    method_0,
    refl,
    refl,
  );
  virtual_methods = refl;
}

pub members : HasMembers whole_p 0
unfolding whole_p uint_at number_of
members = (
  class_data,
  record {
    name = codes "LA;";
    class = record { row = type_0; class = class_of_a };
    is = inr (omega arith, class_data_at);
    own = record {
      fields = All-nil (λ x. x.field.class ≡ codes "LA;");
      methods = All-from_recursion (λ x. x.method.class ≡ codes "LA;") class_data.direct_methods (refl, tt);
      fields_apart = λ x h g. absurd (let lt = h.1 in omega arith);
      methods_apart = λ x h g. absurd (let lt = g.1 in omega arith);
    };
  },
)

pub class_row : ClassRow whole_p 0 (codes "LA;") (class_p (codes "hi")).1
unfolding whole_p uint_at number_of
class_row = record {
  row = omega arith;
  class = record { row = type_0; class = class_of_a };
  flags = refl;
  superclass = record { row = type_1; class = class_of_object };
  interfaces = inl (refl, refl);
  source = refl;
  directory = no_directory;
  directory_is = inl (refl, refl);
  members = class_data;
  members_are = inr (omega arith, class_data_at);
  annotations = refl;
  static_fields = refl;
  instance_fields = refl;
  direct_methods = (record { name = refl; proto = refl; flags = refl; code = inr (omega arith, code_at); annotations = refl; parameter_annotations = refl }, tt);
  virtual_methods = tt;
  static_values = inl (refl, refl);
}
