-- What a class declares, as it is held: each set once, in a table, and members with the places of theirs.
use Rattle.std.specs.Prelude.{map, All}
use Rattle.dexval.specs.Tables.{IsPlaceIn, set_at}
use Rattle.dexmembers.specs.Numbered.{NumberedMembers, AreFew}
use Rattle.dexmembers.specs.Held.{field_of, method_of, IsHeldField, IsHeldMethod}
use Rattle.dexmembers.specs.HeldCodes.{methods_in, AreCodesPlaced}
use Rattle.dexmembers.specs.StaticValues.{values_in}
use Rattle.dexmembers.specs.declared.members.Contents.{Contents}

-- what is held, with sets instead of their places
abbrev pub contents_in : Contents → NumberedMembers
contents_in x = record {
  annotations = set_at x.table.sets x.set;
  static_fields = map (field_of x.table.sets) x.static_fields.items;
  instance_fields = map (field_of x.table.sets) x.instance_fields.items;
  direct_methods = map (method_of x.table) (methods_in x.direct_methods);
  virtual_methods = map (method_of x.table) (methods_in x.virtual_methods);
  static_values = values_in x.static_values;
}

-- each place is one of the table's, or one of the code's
pub record AreHeld (x : Contents) : Type 0 where
  pub own_held : IsPlaceIn x.table.sets x.set
  pub static_fields_held : All (IsHeldField x.table.sets) x.static_fields.items
  pub instance_fields_held : All (IsHeldField x.table.sets) x.instance_fields.items
  pub direct_methods_held : All (IsHeldMethod x.table) (methods_in x.direct_methods)
  pub virtual_methods_held : All (IsHeldMethod x.table) (methods_in x.virtual_methods)
  pub direct_codes_placed : AreCodesPlaced x.direct_methods
  pub virtual_codes_placed : AreCodesPlaced x.virtual_methods

-- members are few, and their places are such
pub record AreKept (x : Contents) : Type 0 where
  pub few : AreFew (contents_in x).static_fields (contents_in x).instance_fields (contents_in x).direct_methods
      (contents_in x).virtual_methods
  pub held : AreHeld x
