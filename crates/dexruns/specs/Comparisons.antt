-- The classes of several files, compared by the digests of their copies. This project's rules.
use Rattle.std.specs.Prelude.{◌≡◌, ◌≢◌, ◌↔◌, ℕ, suc, Bool, false, not, nat_lt, if◌then◌else◌, List, [], ◌∷◌, ◌++◌, map}
use Rattle.std.specs.Prelude.{filter, codes, slice_index_or, Option, Some, None}
use Rattle.std.specs.List.{flat_map, list_any, Contains}
use Rattle.std.specs.List.Sorted.{IsStrictlySortedBy}
use Rattle.dexspec.specs.Texts.{Text, text_cmp, same_text}
use Rattle.dexspec.specs.Classes.{Definition}
use Rattle.dexspec.specs.Files.{Collection, definitions}
use Rattle.dexspec.specs.Depth.{in_class_order}
use Rattle.dexspec.specs.Accepted.{IsRefused}
use Rattle.dexcanon.specs.Digests.{class_digest}
use Rattle.dexout.specs.Printed.{shown}
use Rattle.dexruns.specs.declared.copies.ClassCopy.{ClassCopy}
use Rattle.dexruns.specs.declared.comparing.Change.{Change}
use Rattle.dexruns.specs.declared.comparing.Change.TheVariants.{Added, Removed, Changed}
use Rattle.dexruns.specs.declared.comparing.Comparison.{Comparison}
use Rattle.dexruns.specs.declared.comparing.Comparison.TheVariants.{Conflicts, Changes}
use Rattle.dexruns.specs.declared.faults.RunFault.{RunFault}
use Rattle.dexruns.specs.declared.faults.RunFault.TheVariants as run
use Rattle.dexruns.specs.declared.names.NameForm.{NameForm}
use Rattle.dexruns.specs.Digests.{hexadecimal}
use Rattle.dexruns.specs.Names.{name_in_form}
use Rattle.dexruns.specs.Merges.{AreReadFrom, IsRefusedAt, stripped_if}

-- ---- the copies of a class

-- the copy that a definition of the file with this number is
abbrev pub copy_of : ℕ → Definition → ClassCopy
copy_of file d = record { file = file; digest = class_digest d }

-- the copies of the class of a name among definitions of the file with this number
abbrev pub copies_in : ℕ → List Definition → Text → List ClassCopy
copies_in file D name = map (copy_of file) (filter (λ d. same_text d.0 name) D)

-- the copies of the class of a name in files, of which the first has this number, in their order
abbrev pub copies_from : ℕ → List Collection → Text → List ClassCopy
copies_from file [] name = []
copies_from file (K ∷ Ks) name = copies_in file (in_class_order (definitions K)) name ++ copies_from (suc file) Ks name

-- the copies of the class of a name in files, in their order
abbrev pub copies_of : List Collection → Text → List ClassCopy
copies_of Ks name = copies_from 0 Ks name

-- some copy has another digest than the first: so not all are equal
abbrev pub differ : List ClassCopy → Bool
differ [] = false
differ (first ∷ others) = list_any (λ copy. not (same_text copy.digest first.digest)) others

-- some copy is in one of the first files, of which there are `old`
abbrev pub has_old : ℕ → List ClassCopy → Bool
has_old old copies = list_any (λ copy. nat_lt copy.file old) copies

-- some copy is in one of the files after these
abbrev pub has_new : ℕ → List ClassCopy → Bool
has_new old copies = list_any (λ copy. not (nat_lt copy.file old)) copies

-- ---- the lines of a class

-- the line of a copy: the name of the class, the digest, and the name of the file
unfoldable pub copy_line : NameForm → List (List ℕ) → Text → ClassCopy → List ℕ
copy_line form files name copy =
    shown name
    ++ (codes "\t"
    ++ (hexadecimal copy.digest ++ (codes "\t" ++ name_in_form form (slice_index_or files copy.file []) (codes "\n"))))

-- the lines of a conflict: one for each copy of a class of which not all copies are equal, and none of another class
abbrev pub conflict_lines : NameForm → List (List ℕ) → Text → List ClassCopy → List ℕ
conflict_lines form files name copies = if differ copies then flat_map (copy_line form files name) copies else []

-- how a class has changed from the first files, of which there are `old`, to the others
abbrev pub change_of : ℕ → List ClassCopy → Option Change
change_of old copies =
    if not (has_old old copies) then Some Added
    else if not (has_new old copies) then Some Removed
    else if differ copies then Some Changed
    else None

-- the word of a change
abbrev pub change_word : Change → List ℕ
change_word Added = codes "added"
change_word Removed = codes "removed"
change_word Changed = codes "changed"

-- the line of a class that has changed: how, and its name
unfoldable pub change_line : Text → Change → List ℕ
change_line name change = change_word change ++ (codes "\t" ++ (shown name ++ codes "\n"))

-- the line of a class that has changed, and none of another
abbrev pub change_lines : Text → Option Change → List ℕ
change_lines name None = []
change_lines name (Some change) = change_line name change

-- what is reported of a class
abbrev pub comparison_lines : Comparison → List (List ℕ) → Text → List ClassCopy → List ℕ
comparison_lines (Conflicts form) files name copies = conflict_lines form files name copies
comparison_lines (Changes old) files name copies = change_lines name (change_of old copies)

-- ---- the lines of files

-- These are the lines of the classes of the files: each class of which there is a copy is once among the names,
-- which rise strictly, and has its own lines, of just its copies.
pub record AreClassLines (Ks : List Collection) (lines_of : Text → List ClassCopy → List ℕ) (lines : List ℕ) :
    Type 0 where
  pub names : List Text
  pub rise : IsStrictlySortedBy text_cmp names
  pub are : (name : Text) → Contains names name ↔ (copies_of Ks name ≢ [])
  pub lines_are : lines ≡ flat_map (λ name. lines_of name (copies_of Ks name)) names

-- the status: 1 where there is a line
abbrev pub compared_status : List ℕ → ℕ
compared_status [] = 0
compared_status (first ∷ others) = 1

-- each of the inputs was read, and of the lines of the classes of what is kept of them `Is` is so
pub record AreCompared {R : Type 0} (reports : R → Type 0) (to_come : R → List ℕ) (inputs : List R) (is_stripped : Bool)
    (lines_of : Text → List ClassCopy → List ℕ) (Is : List ℕ → Type 0) : Type 0 where
  pub collections : List Collection
  pub read : AreReadFrom reports to_come inputs collections
  pub lines : List ℕ
  pub are : AreClassLines (map (stripped_if is_stripped) collections) lines_of lines
  pub is : Is lines

-- what a fault says of the inputs, and of what was written where the writer failed
abbrev pub IsCompareFault : {R : Type 0} → (R → Type 0) → (R → List ℕ) → List R → Bool
    → (Text → List ClassCopy → List ℕ) → (List ℕ → Type 0) → RunFault → Type 0
IsCompareFault reports to_come inputs is_stripped lines_of Written (run.Input i refusal) =
    IsRefusedAt reports to_come inputs i (λ b. IsRefused b refusal.number refusal.place)
IsCompareFault reports to_come inputs is_stripped lines_of Written run.Plan = ⊥
IsCompareFault reports to_come inputs is_stripped lines_of Written (run.Merge reported) = ⊥
IsCompareFault reports to_come inputs is_stripped lines_of Written (run.Read i) =
    IsRefusedAt reports to_come inputs i (λ b. Unit {0})
IsCompareFault reports to_come inputs is_stripped lines_of Written run.Write =
    AreCompared reports to_come inputs is_stripped lines_of Written
IsCompareFault reports to_come inputs is_stripped lines_of Written run.Memory = Unit {0}
