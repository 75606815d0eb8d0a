-- Tables of the copies of classes.
use Rattle.std.specs.Prelude.{◌≡◌, ℕ, Bool, List, [], ◌∷◌, map, cond, Option, Some, None}
use Rattle.std.specs.BTreeMap.{BTreeMap, get}
use Rattle.dexspec.specs.Texts.{Text, text_cmp, same_text}
use Rattle.dexspec.specs.Files.{Collection}
use Rattle.dexruns.specs.declared.copies.ClassCopy.{ClassCopy}
use Rattle.dexruns.specs.declared.copies.Copies.{Copies}
use Rattle.dexruns.specs.Comparisons.{copies_of}
use Rattle.dexruns.specs.Merges.{AreReadFrom, stripped_if}

-- the copies, in order
abbrev pub copies_list : Copies → List ClassCopy
copies_list copies = copies.first ∷ copies.others.items

-- the copies that were found
abbrev pub found_copies : Option Copies → List ClassCopy
found_copies None = []
found_copies (Some copies) = copies_list copies

-- the copies of the class of a name
abbrev pub copies_at : BTreeMap Text Copies → Text → List ClassCopy
copies_at classes name = found_copies (get text_cmp classes name)

-- what a copy of one class adds to the copies of another
abbrev pub added : Text → ClassCopy → Text → List ClassCopy
added one copy name = cond (same_text one name) (copy ∷ []) []

-- the table has the copies of each class in the files
abbrev pub HoldsCopies : List Collection → BTreeMap Text Copies → Type 0
HoldsCopies Ks classes = (name : Text) → copies_at classes name ≡ copies_of Ks name

-- each of the inputs was read, and the table has the copies of the classes of what is kept of them
pub record HaveCopies {R : Type 0} (reports : R → Type 0) (to_come : R → List ℕ) (inputs : List R) (is_stripped : Bool)
    (classes : BTreeMap Text Copies) : Type 0 where
  pub collections : List Collection
  pub read : AreReadFrom reports to_come inputs collections
  pub copies : HoldsCopies (map (stripped_if is_stripped) collections) classes
