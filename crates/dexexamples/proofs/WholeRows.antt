-- What the rows of the whole file denote: conditions 11 to 16.
use Rattle.dexexamples.proofs.Common.{◌≡◌, ℕ, zero, suc, ◌+◌, ◌<◌, inl, [], ◌∷◌, refl, ap, arith, ◌++◌, ◌^◌, length, take, drop, true, nat_lt, Some, None, codes, list_all, All-from_recursion, All-cons, All-weaker, AllPass-from_list_all, ltb-true, number_of, uint_at, IsNameUnit, IsMemberName, IsClass, ClassType, Text, text_cmp, AreUnits, IsStringData, StringRow, TypeRow, Follows, type_row_key, no_directory, no_class_data, ClassTypeRow, ClassRow, Condition, HoldsThroughout, IsDefinedBefore, parent_indices, one_string}
use Rattle.std.specs.declared.cmp.Ordering.TheVariants.{Less}
use Rattle.dexexamples.specs.{object, body_under, prefix_a, file_a, whole_a}

-- ---- texts and types

-- units above `[`
above_bracket : (u : ℕ) → nat_lt 0x5b u ≡ true → IsNameUnit u
above_bracket u h =
    let lt = ltb-true 0x5b u h in
    (omega arith, omega arith, omega arith, omega arith)

-- a name of such units
small_name : (s : Text) → 0 < length s → list_all (nat_lt 0x5b) s ≡ true → IsMemberName s
small_name s some h = record { some = some; units = All-weaker (λ u. nat_lt 0x5b u ≡ true) IsNameUnit above_bracket s (AllPass-from_list_all (nat_lt 0x5b) s h) }

-- units, by a test
pub units_by : (s : Text) → list_all (λ u. nat_lt u 65536) s ≡ true → AreUnits s
units_by s h = All-weaker (λ u. nat_lt u 65536 ≡ true) (λ u. u < 2 ^ 16) (λ u lt. ltb-true u 65536 lt) s (AllPass-from_list_all (λ u. nat_lt u 65536) s h)

name_a : IsMemberName (codes "A")
name_a = record { some = omega arith; units = All-from_recursion IsNameUnit (codes "A") ((omega arith, omega arith, omega arith, omega arith), tt) }

name_object : IsMemberName (codes "Object")
name_object = record {
  some = omega arith;
  units = All-cons IsNameUnit 0x4f (codes "bject") (omega arith, omega arith, omega arith, omega arith) (small_name (codes "bject") (omega arith) refl).units;
}

pub class_of_a : IsClass (codes "LA;")
class_of_a = record {
  name = codes "A";
  is = refl;
  named = record { parts = codes "A" ∷ []; some = omega arith; names = All-from_recursion IsMemberName (codes "A" ∷ []) (name_a, tt); joined = refl };
}

pub class_of_object : IsClass object
class_of_object = record {
  name = codes "java/lang/Object";
  is = refl;
  named = record {
    parts = codes "java" ∷ codes "lang" ∷ codes "Object" ∷ [];
    some = omega arith;
    names = All-from_recursion IsMemberName (codes "java" ∷ codes "lang" ∷ codes "Object" ∷ [])
        (small_name (codes "java") (omega arith) refl, (small_name (codes "lang") (omega arith) refl, (name_object, tt)));
    joined = refl;
  };
}

pub data_of_a : IsStringData (0x03 ∷ 0x4c ∷ 0x41 ∷ 0x3b ∷ 0x00 ∷ []) (codes "LA;")
data_of_a = record { count = 0x03 ∷ []; says = record { chain = omega arith; few = omega arith; value = refl; in_range = omega arith }; units = units_by (codes "LA;") refl; parts = refl }

pub data_of_object : IsStringData (take 20 (drop 0xa5 (prefix_a ++ file_a))) object
data_of_object = record { count = 0x12 ∷ []; says = record { chain = omega arith; few = omega arith; value = refl; in_range = omega arith }; units = units_by object refl; parts = refl }

-- ---- conditions 11 and 12

pub string_0 : StringRow whole_a 0 (codes "LA;")
unfolding whole_a uint_at number_of
string_0 = record { row = omega arith; in_data = omega arith; encodes = (5, record { within = omega arith; spelled = data_of_a }) }

pub string_1 : StringRow whole_a 1 object
unfolding whole_a uint_at number_of
string_1 = record { row = omega arith; in_data = omega arith; encodes = (20, record { within = omega arith; spelled = data_of_object }) }

pub type_0 : TypeRow whole_a 0 (codes "LA;")
unfolding whole_a uint_at number_of
type_0 = record { row = omega arith; text = string_0; descriptor = (ClassType, class_of_a) }

pub type_1 : TypeRow whole_a 1 object
unfolding whole_a uint_at number_of
type_1 = record { row = omega arith; text = string_1; descriptor = (ClassType, class_of_object) }

-- the text before the second is less
string_follows : (j : ℕ) (before : Text) → j + 1 ≡ 1 → StringRow whole_a j before → text_cmp before object ≡ Less
string_follows zero before e h = ap (λ (t : Text). text_cmp t object) (one_string whole_a 0 before (codes "LA;") h string_0)
string_follows (suc j) before e h = absurd (omega arith)

pub strings : HoldsThroughout Condition.Strings whole_a
unfolding whole_a uint_at number_of
strings zero row = record { text = codes "LA;"; is = string_0; follows = λ j before e h. absurd (omega arith) }
strings (suc zero) row = record { text = object; is = string_1; follows = string_follows }
strings (suc (suc r)) row = absurd (omega arith)

type_follows : Follows type_row_key whole_a 1
unfolding whole_a uint_at number_of
type_follows zero e = refl
type_follows (suc j) e = absurd (omega arith)

pub types : HoldsThroughout Condition.Types whole_a
unfolding whole_a uint_at number_of
types zero row = record { item = codes "LA;"; is = type_0; follows = λ j e. absurd (omega arith) }
types (suc zero) row = record { item = object; is = type_1; follows = type_follows }
types (suc (suc r)) row = absurd (omega arith)

-- ---- conditions 13 to 15: there are no such rows

pub protos : HoldsThroughout Condition.Protos whole_a
unfolding whole_a uint_at number_of
protos r row = absurd (omega arith)

pub fields : HoldsThroughout Condition.Fields whole_a
unfolding whole_a uint_at number_of
fields r row = absurd (omega arith)

pub methods : HoldsThroughout Condition.Methods whole_a
unfolding whole_a uint_at number_of
methods r row = absurd (omega arith)

-- ---- condition 16, and the class

class_type_0 : ClassTypeRow whole_a 0 (codes "LA;")
class_type_0 = record { row = type_0; class = class_of_a }

class_type_1 : ClassTypeRow whole_a 1 object
class_type_1 = record { row = type_1; class = class_of_object }

pub class_row : ClassRow whole_a 0 (codes "LA;") (body_under object)
unfolding whole_a uint_at number_of
class_row = record {
  row = omega arith;
  class = class_type_0;
  flags = refl;
  superclass = class_type_1;
  interfaces = inl (refl, refl);
  source = refl;
  directory = no_directory;
  directory_is = inl (refl, refl);
  members = no_class_data;
  members_are = inl (refl, refl);
  annotations = refl;
  static_fields = refl;
  instance_fields = refl;
  direct_methods = tt;
  virtual_methods = tt;
  static_values = inl (refl, refl);
}

-- the superclass is not a class of this file
superclass_elsewhere : IsDefinedBefore whole_a 0 1
unfolding whole_a uint_at number_of
superclass_elsewhere zero row e = absurd (omega arith)
superclass_elsewhere (suc k) row e = absurd (omega arith)

pub classes : HoldsThroughout Condition.Classes whole_a
unfolding whole_a uint_at number_of
classes zero row = record {
  name = codes "LA;";
  is = class_type_0;
  first = λ k lt. absurd (omega arith);
  superclass = (Some object, class_type_1);
  interfaces = ([], inl (refl, refl));
  source = (None, refl);
  parents = All-from_recursion (IsDefinedBefore whole_a 0) (parent_indices whole_a 0) (superclass_elsewhere, tt);
}
classes (suc r) row = absurd (omega arith)
