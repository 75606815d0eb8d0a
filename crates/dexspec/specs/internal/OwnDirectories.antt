-- The annotations directory of a definition, by its members. Terms of this project.
use Rattle.std.specs.Prelude.{◌≡◌, ◌≢◌, ℕ, List, [], ◌∷◌, map, slice_index}
use Rattle.std.specs.List.{AllZip}
use Rattle.std.specs.FinMap.Entries.{put}
use Rattle.std.specs.declared.cmp.Ordering.{Ordering}
use Rattle.dexspec.specs.Texts.{Text}
use Rattle.dexspec.specs.Symbols.{Field, Method, field_cmp, method_cmp}
use Rattle.dexspec.specs.Annotations.{AnnotationSet, SetAt, RefListAt, Directory}
use Rattle.dexspec.specs.Classes.{Body, declared_fields, declared_methods}
use Rattle.dexspec.specs.Mentions.{field_of, method_of}
use Rattle.dexspec.specs.Placing.{SetOffsets}

-- nothing for offset 0, and otherwise the item at the offset
abbrev pub BytesIfSome : {X : Type 0} → (ℕ → List X → Type 0) → ℕ → List X → Type 0
BytesIfSome At o [] = o ≡ 0
BytesIfSome At o (x ∷ xs) = (o ≢ 0) × At o (x ∷ xs)

-- the members with a list that is not empty, in order, with their lists
abbrev pub entries_of : {M X : Type 0} → (M → M → Ordering) → List (M × List X) → List (M × List X)
entries_of R [] = []
entries_of R ((m, []) ∷ ms) = entries_of R ms
entries_of R ((m, x ∷ xs) ∷ ms) = put R m (x ∷ xs) (entries_of R ms)

-- the declared fields with their sets
abbrev pub field_sets : Text → Body → List (Field × AnnotationSet)
field_sets name c = map (λ f. (field_of name f, f.annotations)) (declared_fields c)

-- the declared methods with their own sets
abbrev pub own_method_sets : Text → Body → List (Method × AnnotationSet)
own_method_sets name c = map (λ x. (method_of name x, x.annotations)) (declared_methods c)

-- the declared methods with the sets of their parameters
abbrev pub parameter_sets : Text → Body → List (Method × List AnnotationSet)
parameter_sets name c = map (λ x. (method_of name x, x.parameter_annotations)) (declared_methods c)

-- the annotations of the class of this name and of its members
abbrev pub own_directory : Text → Body → Directory
own_directory name c = record {
  own = c.annotations;
  fields = entries_of field_cmp (field_sets name c);
  methods = entries_of method_cmp (own_method_sets name c);
  parameters = entries_of method_cmp (parameter_sets name c);
}

-- the class's set and those of its members are at these offsets, and so is, for each method, a list of the sets of its
-- parameters
pub record HasSetsAt (b : List ℕ) (name : Text) (c : Body) (sets : SetOffsets) (ref_lists : List ℕ) : Type 0 where
  pub own : BytesIfSome (SetAt b) sets.own c.annotations
  pub fields : AllZip (λ o (x : Field × AnnotationSet). BytesIfSome (SetAt b) o x.1) sets.fields (field_sets name c)
  pub methods : AllZip (λ o (x : Method × AnnotationSet). BytesIfSome (SetAt b) o x.1)
      (map (λ offs. slice_index offs 0) sets.methods) (own_method_sets name c)
  pub parameters : AllZip (λ o (x : Method × List AnnotationSet). BytesIfSome (RefListAt b) o x.1) ref_lists
      (parameter_sets name c)
