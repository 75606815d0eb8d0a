-- Members as they are held: each by its number, with the places of its sets in a table.
use Rattle.std.specs.Prelude.{ℕ, List, Option}
use Rattle.dexcode.specs.Numbered.{NumberedItem}
use Rattle.dexval.specs.Numbered.{NumberedSet}
use Rattle.dexval.specs.Tables.{NumberedTable, IsPlaceIn, set_at, sets_at}
use Rattle.dexmembers.specs.Numbered.{NumberedField, NumberedMethod}

-- A field: its number, its access flags, and the place of its annotations.
pub record HeldField : Type 0 where
  pub number : ℕ
  pub flags : ℕ
  pub set : Option ℕ

-- A method: its number, its access flags, its code, and the places of its annotations and of those of its parameters.
pub record HeldMethod : Type 0 where
  pub number : ℕ
  pub flags : ℕ
  pub code : Option NumberedItem
  pub set : Option ℕ
  pub list : Option ℕ

-- the field, with its set among these
abbrev pub field_of : List NumberedSet → HeldField → NumberedField
field_of sets f = record { number = f.number; flags = f.flags; annotations = set_at sets f.set }

-- the method, with its set and its list in this table
abbrev pub method_of : NumberedTable → HeldMethod → NumberedMethod
method_of t x =
    record {
      number = x.number;
      flags = x.flags;
      code = x.code;
      annotations = set_at t.sets x.set;
      parameter_annotations = sets_at t x.list;
    }

-- the place of the field's set, if it has one, is one of the sets'
abbrev pub IsHeldField : List NumberedSet → HeldField → Type 0
IsHeldField sets f = IsPlaceIn sets f.set

-- each place of the method is one of the table's
pub record IsHeldMethod (t : NumberedTable) (x : HeldMethod) : Type 0 where
  pub set_held : IsPlaceIn t.sets x.set
  pub list_held : IsPlaceIn t.lists x.list
