-- Directories whose sets and lists of sets are in a table.
use Rattle.std.specs.Prelude.{◌≡◌, ◌⊎◌, ℕ, ◌<◌, List, length, map, All, Option, Some}
use Rattle.std.specs.List.{Contains}
use Rattle.dexval.specs.declared.directory.SharedDirectory.{SharedDirectory}
use Rattle.dexval.specs.Numbered.{NumberedSet, NumberedDirectory}
use Rattle.dexval.specs.Tables.{NumberedTable, IsPlaceIn, IsListed, set_at, sets_at}

-- members with their sets
abbrev pub sets_of_members : NumberedTable → List (ℕ × ℕ) → List (ℕ × NumberedSet)
sets_of_members t members = map (λ e. (e.0, set_at t.sets (Some e.1))) members

-- members with their lists of sets
abbrev pub lists_of_members : NumberedTable → List (ℕ × ℕ) → List (ℕ × List NumberedSet)
lists_of_members t members = map (λ e. (e.0, sets_at t (Some e.1))) members

-- the directory of these places, with each set and each list instead of its place in the table
abbrev pub looked_up : NumberedTable → Option ℕ → List (ℕ × ℕ) → List (ℕ × ℕ) → List (ℕ × ℕ) → NumberedDirectory
looked_up t own fields methods parameters = record {
  own = set_at t.sets own;
  fields = sets_of_members t fields;
  methods = sets_of_members t methods;
  parameters = lists_of_members t parameters;
}

-- the directory
abbrev pub shared_directory_of : SharedDirectory → NumberedDirectory
shared_directory_of d = looked_up d.table d.own d.fields.items d.methods.items d.parameters.items

-- each place is one of the table's
pub record HoldsPlaces (t : NumberedTable) (own : Option ℕ) (fields methods parameters : List (ℕ × ℕ)) : Type 0 where
  pub own_held : IsPlaceIn t.sets own
  pub fields_held : All (λ e. IsPlaceIn t.sets (Some e.1)) fields
  pub methods_held : All (λ e. IsPlaceIn t.sets (Some e.1)) methods
  pub parameters_held : All (λ e. IsPlaceIn t.lists (Some e.1)) parameters

-- each place of the directory is one of its table's
abbrev pub HoldsItsPlaces : SharedDirectory → Type 0
HoldsItsPlaces d = HoldsPlaces d.table d.own d.fields.items d.methods.items d.parameters.items

-- some member has the place
abbrev pub IsNamedBy : List (ℕ × ℕ) → ℕ → Type 0
IsNamedBy members i = (number : ℕ) × Contains members (number, i)

-- each set of the table is that of the class, of a field, of a method or of a list, and each list is that of a method
pub record NamesAll (t : NumberedTable) (own : Option ℕ) (fields methods parameters : List (ℕ × ℕ)) : Type 0 where
  pub sets_named : (i : ℕ) → i < length t.sets
      → (own ≡ Some i) ⊎ IsNamedBy fields i ⊎ IsNamedBy methods i ⊎ IsListed t i
  pub lists_named : (i : ℕ) → i < length t.lists → IsNamedBy parameters i

-- the table has what the places name, and nothing else
pub record IsTight (d : SharedDirectory) : Type 0 where
  pub held : HoldsPlaces d.table d.own d.fields.items d.methods.items d.parameters.items
  pub named : NamesAll d.table d.own d.fields.items d.methods.items d.parameters.items
