-- Members put together: what class data, a directory and the code of methods make.
use Rattle.std.specs.Prelude.{◌≡◌, ℕ, ◌<◌, List, map, length, slice_index_or, Option, All, IfSome}
use Rattle.std.specs.FinMap.Entries.{find}
use Rattle.std.specs.Ordering.{nat_cmp}
use Rattle.std.specs.Global.{Vec}
use Rattle.std.specs.List.{Contains}
use Rattle.dexspec.specs.Annotations.{annotated}
use Rattle.dexspec.specs.Lists.{zip_with}
use Rattle.dexval.specs.Numbered.{NumberedSet}
use Rattle.dexcode.specs.Numbered.{NumberedItem}
use Rattle.dexmembers.specs.Numbered.{NumberedField, NumberedMethod, NumbersRise}
use Rattle.dexmembers.specs.Held.{HeldField, HeldMethod}
use Rattle.dexmembers.specs.declared.class_data.EncodedField.{EncodedField as FieldRead}
use Rattle.dexmembers.specs.declared.class_data.EncodedMethod.{EncodedMethod as MethodRead}

-- the numbers of entries rise
abbrev pub EntriesRise : {X : Type 0} → List (ℕ × X) → Type 0
EntriesRise es = NumbersRise (map (λ e. e.0) es)

-- at this index is the entry of the number
pub record HasNumberAt {X : Type 0} (es : List (ℕ × X)) (number at : ℕ) : Type 0 where
  pub within : at < length es
  pub is : (d : ℕ × X) → (slice_index_or es at d).0 ≡ number

-- the entries, if their numbers rise, have none of the number
abbrev pub LacksNumber : {X : Type 0} → List (ℕ × X) → ℕ → Type 0
LacksNumber es number = EntriesRise es → Contains (map (λ e. e.0) es) number → ⊥

-- the places of entries are below a limit
abbrev pub PlacesBelow : ℕ → List (ℕ × ℕ) → Type 0
PlacesBelow limit es = All (λ e. e.1 < limit) es

-- ---- with places

-- the place that the entries have for a number, if there is one
abbrev pub place_for : List (ℕ × ℕ) → ℕ → Option ℕ
place_for es n = find nat_cmp n es

-- the field with the place of its set
abbrev pub held_field : List (ℕ × ℕ) → FieldRead → HeldField
held_field sets x = record { number = x.index; flags = x.flags; set = place_for sets x.index }

-- the method with its code, and the places of its set and its list
abbrev pub held_method : List (ℕ × ℕ) → List (ℕ × ℕ) → MethodRead → Option NumberedItem → HeldMethod
held_method sets lists x code =
    record {
      number = x.index;
      flags = x.flags;
      code = code;
      set = place_for sets x.index;
      list = place_for lists x.index;
    }

-- the fields of a list of class data, with the places of their sets
abbrev pub AreHeldFields : List (ℕ × ℕ) → List FieldRead → Vec HeldField → Type 0
AreHeldFields sets listed fields = fields.items ≡ map (held_field sets) listed

-- the code of each method
abbrev pub held_codes : List HeldMethod → List (Option NumberedItem)
held_codes methods = map (λ x. x.code) methods

-- where both lists of entries rise, these are the methods of a list of class data
abbrev pub AreHeldMethods : List (ℕ × ℕ) → List (ℕ × ℕ) → List MethodRead → List HeldMethod → Type 0
AreHeldMethods sets lists listed methods =
    EntriesRise sets → EntriesRise lists → methods ≡ zip_with (held_method sets lists) listed (held_codes methods)

-- the places of the fields' sets are below a limit
abbrev pub HaveFieldSetsBelow : ℕ → Vec HeldField → Type 0
HaveFieldSetsBelow limit fields = All (λ f. IfSome f.set (λ place. place < limit)) fields.items

-- those of the methods' sets
abbrev pub HaveSetsBelow : ℕ → List HeldMethod → Type 0
HaveSetsBelow limit methods = All (λ x. IfSome x.set (λ place. place < limit)) methods

-- those of their lists of sets
abbrev pub HaveListsBelow : ℕ → List HeldMethod → Type 0
HaveListsBelow limit methods = All (λ x. IfSome x.list (λ place. place < limit)) methods

-- ---- with sets

-- the field with the set of its number
abbrev pub field_with : List (ℕ × NumberedSet) → FieldRead → NumberedField
field_with sets x = record { number = x.index; flags = x.flags; annotations = annotated nat_cmp sets x.index }

-- the method with its code, and the sets of its number
abbrev pub method_with : List (ℕ × NumberedSet) → List (ℕ × List NumberedSet) → MethodRead → Option NumberedItem
    → NumberedMethod
method_with sets lists x code = record {
  number = x.index;
  flags = x.flags;
  code = code;
  annotations = annotated nat_cmp sets x.index;
  parameter_annotations = annotated nat_cmp lists x.index;
}
