-- Annotation items, sets, ref lists and directories.
-- Source: "Dalvik Executable format", "annotation_item", "annotation_set_item", "annotation_set_ref_list",
-- "annotations_directory_item". An empty set or list equals none (this project's rule).
use Rattle.std.specs.Prelude.{◌≡◌, ◌≢◌, ℕ, zero, suc, ◌+◌, ◌*◌, ◌%◌, ◌≤◌, IsTrue, List, [], ◌∷◌, map, unwrap_or}
use Rattle.std.specs.List.{AllZip}
use Rattle.std.specs.Ordering.{nat_cmp}
use Rattle.std.specs.FinMap.Entries.{find}
use Rattle.std.specs.declared.cmp.Ordering.{Ordering}
use Rattle.dexspec.specs.Lists.{rises, OrNone}
use Rattle.dexspec.specs.Bytes.{uint_at, uints_at, BytesAt}
use Rattle.dexspec.specs.Texts.{Text, text_cmp}
use Rattle.dexspec.specs.Symbols.{Field, Method}
use Rattle.dexspec.specs.Header.{data_off}
use Rattle.dexspec.specs.Sections.{IsInData}
use Rattle.dexspec.specs.Rows.{FieldRow, MethodRow}
use Rattle.dexspec.specs.Values.{Elements, EncodedAnnotationAt, elements_depth, most_depth}

-- an annotation with its visibility: 0 build, 1 runtime, 2 system
pub record Annotation : Type 0 where
  pub visibility : ℕ
  pub type : Text
  pub elements : Elements

-- A set: its annotations by type, each type once.
abbrev pub AnnotationSet : Type 0
AnnotationSet = List Annotation

-- an annotation_item is at offset o of the data
pub record AnnotationAt (b : List ℕ) (o : ℕ) (a : Annotation) : Type 0 where
  pub in_data : data_off b ≤ o
  pub known : a.visibility ≤ 2
  pub visibility : BytesAt b o (a.visibility ∷ [])
  pub annotation : (n : ℕ) × EncodedAnnotationAt a.type b (o + 1) a.elements n
  pub shallow : elements_depth a.elements ≤ most_depth

-- an annotation_set_item is at offset o of the data; the types of its annotations rise strictly
pub record SetAt (b : List ℕ) (o : ℕ) (set : AnnotationSet) : Type 0 where
  pub in_data : IsInData b o (4 + 4 * uint_at b o)
  pub aligned : o % 4 ≡ 0
  pub annotations : AllZip (AnnotationAt b) (uints_at b (o + 4) (uint_at b o)) set
  pub rise : IsTrue (rises text_cmp (map (λ a. a.type) set))

-- an annotation_set_ref_list is at offset o of the data: for each parameter a set, perhaps empty
pub record RefListAt (b : List ℕ) (o : ℕ) (list : List AnnotationSet) : Type 0 where
  pub in_data : IsInData b o (4 + 4 * uint_at b o)
  pub aligned : o % 4 ≡ 0
  pub sets : AllZip (OrNone SetAt [] b) (uints_at b (o + 4) (uint_at b o)) list

-- the annotations of a class and its members
pub record Directory : Type 0 where
  pub own : AnnotationSet
  pub fields : List (Field × AnnotationSet)
  pub methods : List (Method × AnnotationSet)
  pub parameters : List (Method × List AnnotationSet)

-- the directory of a class without annotations
abbrev pub no_directory : Directory
no_directory = record { own = []; fields = []; methods = []; parameters = [] }

-- n pairs of an index and an offset, from o on
abbrev pub pairs_at : List ℕ → ℕ → ℕ → List (ℕ × ℕ)
pairs_at b o zero = []
pairs_at b o (suc n) = (uint_at b o, uint_at b (o + 4)) ∷ pairs_at b (o + 8) n

-- the index names the member, and its item is at the offset, which is not 0
abbrev pub PairAt : {M X : Type 0} → (List ℕ → ℕ → M → Type 0) → (List ℕ → ℕ → X → Type 0) → List ℕ → ℕ × ℕ → M × X
    → Type 0
PairAt Row At b pair entry = Row b pair.0 entry.0 × (pair.1 ≢ 0) × At b pair.1 entry.1

-- the pairs of a list of a directory: their indices rise strictly
pub record PairsAt {M X : Type 0} (Row : List ℕ → ℕ → M → Type 0)
    (At : List ℕ → ℕ → X → Type 0) (b : List ℕ) (o n : ℕ) (entries : List (M × X)) : Type 0 where
  pub pairs : AllZip (PairAt Row At b) (pairs_at b o n) entries
  pub rise : IsTrue (rises nat_cmp (map (λ pair. pair.0) (pairs_at b o n)))

-- the number of fields that a directory annotates
abbrev pub fields_count : List ℕ → ℕ → ℕ
fields_count b o = uint_at b (o + 4)

-- the number of methods that it annotates
abbrev pub methods_count : List ℕ → ℕ → ℕ
methods_count b o = uint_at b (o + 8)

-- the number of methods whose parameters it annotates
abbrev pub parameters_count : List ℕ → ℕ → ℕ
parameters_count b o = uint_at b (o + 12)

-- an annotations_directory_item is at offset o of the data
pub record DirectoryAt (b : List ℕ) (o : ℕ) (d : Directory) : Type 0 where
  pub in_data : IsInData b o (16 + 8 * (fields_count b o + methods_count b o + parameters_count b o))
  pub aligned : o % 4 ≡ 0
  pub own : OrNone SetAt [] b (uint_at b o) d.own
  pub fields : PairsAt FieldRow SetAt b (o + 16) (fields_count b o) d.fields
  pub methods : PairsAt MethodRow SetAt b (o + 16 + 8 * fields_count b o) (methods_count b o) d.methods
  pub parameters : PairsAt MethodRow RefListAt b (o + 16 + 8 * (fields_count b o + methods_count b o))
      (parameters_count b o) d.parameters

-- the list of a directory for a member, or the empty list
abbrev pub annotated : {M X : Type 0} → (M → M → Ordering) → List (M × List X) → M → List X
annotated R entries m = unwrap_or (find R m entries) []
