-- What a class declares, spelled in the file: class data and annotations directories, with numbers put in.
use Rattle.std.specs.Prelude.{ℕ, ◌-◌, List, [], ◌∷◌, ◌++◌, length, take, drop, ◌≡◌, ◌+◌, ◌*◌, Result}
use Rattle.std.specs.Global.{Vec}
use Rattle.dexspec.specs.Numbers.{uleb128}
use Rattle.dexspec.specs.Classes.{Body}
use Rattle.dexspec.specs.Mentions.{Mentions}
use Rattle.dexspec.specs.Spellings.{class_data_bytes}
use Rattle.dexspec.specs.Texts.{Text}
use Rattle.dexspec.specs.internal.Writing.{Puts}
use Rattle.dexmembers.specs.Numbered.{NumberedField, NumberedMethod, NumberedMembers, AreKnownMembers, AreOfClass}
use Rattle.dexmembers.specs.Numbered.{fields_of, methods_of, members_in, members_of}
use Rattle.dexpool.specs.Numberings.{AreRising}

-- ---- class data

-- an encoded_field after one with the number `last`
abbrev pub numbered_field_bytes : ℕ → NumberedField → List ℕ
numbered_field_bytes last f = uleb128 (f.number - last) ++ uleb128 f.flags

-- encoded_fields one after the other
abbrev pub numbered_fields_bytes : ℕ → List NumberedField → List ℕ
numbered_fields_bytes last [] = []
numbered_fields_bytes last (f ∷ fs) = numbered_field_bytes last f ++ numbered_fields_bytes f.number fs

-- an encoded_method after one with the number `last`, with the offset of its code
abbrev pub numbered_method_bytes : ℕ → NumberedMethod → ℕ → List ℕ
numbered_method_bytes last x code_off = uleb128 (x.number - last) ++ (uleb128 x.flags ++ uleb128 code_off)

-- encoded_methods one after the other, each with the offset of its code
abbrev pub numbered_methods_bytes : ℕ → List NumberedMethod → List ℕ → List ℕ
numbered_methods_bytes last [] code_offs = []
numbered_methods_bytes last (x ∷ xs) [] = []
numbered_methods_bytes last (x ∷ xs) (o ∷ code_offs) =
    numbered_method_bytes last x o ++ numbered_methods_bytes x.number xs code_offs

-- a class_data_item, from the offsets of the code of its methods, the direct ones first
abbrev pub numbered_class_data_bytes : NumberedMembers → List ℕ → List ℕ
numbered_class_data_bytes x code_offs =
    uleb128 (length x.static_fields)
    ++ (uleb128 (length x.instance_fields) ++ (uleb128 (length x.direct_methods) ++ (uleb128 (length x.virtual_methods)
    ++ (numbered_fields_bytes 0 x.static_fields ++ (numbered_fields_bytes 0 x.instance_fields
    ++ (numbered_methods_bytes 0 x.direct_methods (take (length x.direct_methods) code_offs)
    ++ numbered_methods_bytes 0 x.virtual_methods (drop (length x.direct_methods) code_offs)))))))

-- the room that is enough for a class_data_item: 20 bytes, ten for each field and 15 for each method
abbrev pub class_data_room : NumberedMembers → ℕ
class_data_room x = 20 + 10 * length (fields_of x) + 15 * length (methods_of x)

-- what is put is the class_data_item of each class definition that the members denote, under a numbering whose symbols
-- rise
abbrev pub PutsDenotedClassData : {T E : Type 0} → NumberedMembers → List ℕ → Vec ℕ → Vec ℕ → Result T E → Type 0
PutsDenotedClassData x code_offs old new r =
    (m : Mentions) (name : Text) (c : Body) → AreRising m → AreKnownMembers m x → AreOfClass m name x
    → members_of c ≡ members_in m x → Puts (class_data_bytes m (name, c) code_offs) old new r
