-- What a class declares, with its numbers mapped to those of another numbering.
use Rattle.std.specs.Prelude.{map, All, IfSome}
use Rattle.std.specs.Option.{option_map}
use Rattle.dexpool.specs.declared.symbols.SymbolKind.TheVariants as kinds
use Rattle.dexpool.specs.Numberings.{Maps}
use Rattle.dexcode.specs.Renumbering.{renumbered_item}
use Rattle.dexcode.specs.Renumbering as code
use Rattle.dexval.specs.Renumbering.{remapped, renumbered_set, renumbered_values, SetHasPlaces, HavePlaces}
use Rattle.dexpool.specs.Images.{IsMapped}
use Rattle.dexmembers.specs.Numbered.{NumberedField, NumberedMethod, NumberedMembers}
use Rattle.dexmembers.specs.Held.{HeldField, HeldMethod}

-- ---- other numbers

-- the field with each number remapped
abbrev pub renumbered_field : Maps → NumberedField → NumberedField
renumbered_field r f =
    record { number = remapped r kinds.Field f.number; flags = f.flags; annotations = renumbered_set r f.annotations }

-- the method
abbrev pub renumbered_method : Maps → NumberedMethod → NumberedMethod
renumbered_method r x = record {
  number = remapped r kinds.Method x.number;
  flags = x.flags;
  code = option_map (renumbered_item r) x.code;
  annotations = renumbered_set r x.annotations;
  parameter_annotations = map (renumbered_set r) x.parameter_annotations;
}

-- all of them
abbrev pub renumbered_members : Maps → NumberedMembers → NumberedMembers
renumbered_members r x = record {
  annotations = renumbered_set r x.annotations;
  static_fields = map (renumbered_field r) x.static_fields;
  instance_fields = map (renumbered_field r) x.instance_fields;
  direct_methods = map (renumbered_method r) x.direct_methods;
  virtual_methods = map (renumbered_method r) x.virtual_methods;
  static_values = renumbered_values r x.static_values;
}

-- the field as it is held, its number remapped
abbrev pub remapped_field : Maps → HeldField → HeldField
remapped_field r f = record { number = remapped r kinds.Field f.number; flags = f.flags; set = f.set }

-- the method as it is held, its number and those of its code remapped
abbrev pub remapped_method : Maps → HeldMethod → HeldMethod
remapped_method r x =
    record {
      number = remapped r kinds.Method x.number;
      flags = x.flags;
      code = option_map (renumbered_item r) x.code;
      set = x.set;
      list = x.list;
    }

-- ---- places of numbers

-- the image of the field's number fits its place
abbrev pub IsHeldFieldMapped : Maps → HeldField → Type 0
IsHeldFieldMapped r f = IsMapped r kinds.Field f.number

-- the number of the method, and each of its code
pub record IsHeldMethodMapped (r : Maps) (x : HeldMethod) : Type 0 where
  pub number_mapped : IsMapped r kinds.Method x.number
  pub code_mapped : IfSome x.code (code.HasPlaces r)

-- the image of each number of the field fits its place
pub record FieldHasPlaces (r : Maps) (f : NumberedField) : Type 0 where
  pub number_mapped : IsMapped r kinds.Field f.number
  pub annotations_mapped : SetHasPlaces r f.annotations

-- of the method
pub record MethodHasPlaces (r : Maps) (x : NumberedMethod) : Type 0 where
  pub number_mapped : IsMapped r kinds.Method x.number
  pub code_mapped : IfSome x.code (code.HasPlaces r)
  pub annotations_mapped : SetHasPlaces r x.annotations
  pub parameters_mapped : All (SetHasPlaces r) x.parameter_annotations

-- of all of them
pub record MembersHavePlaces (r : Maps) (x : NumberedMembers) : Type 0 where
  pub annotations_mapped : SetHasPlaces r x.annotations
  pub static_fields_mapped : All (FieldHasPlaces r) x.static_fields
  pub instance_fields_mapped : All (FieldHasPlaces r) x.instance_fields
  pub direct_methods_mapped : All (MethodHasPlaces r) x.direct_methods
  pub virtual_methods_mapped : All (MethodHasPlaces r) x.virtual_methods
  pub values_mapped : HavePlaces r x.static_values
