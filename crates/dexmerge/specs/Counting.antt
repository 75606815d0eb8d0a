-- What a union of definitions holds, in numbers.
use Rattle.std.specs.Prelude.{◌≡◌, ℕ, ◌+◌, ◌-◌, ◌^◌, ◌<◌, min, nat_lt, not, Bool, false, List, length, Option, Some}
use Rattle.std.specs.Prelude.{None}
use Rattle.dexspec.specs.Lists.{AreDistinct, rank}
use Rattle.dexspec.specs.Texts.{Text, text_cmp}
use Rattle.dexspec.specs.Classes.{Definition}
use Rattle.dexspec.specs.Files.{AreSame}
use Rattle.dexspec.specs.Mentions.{Mentions, mentions}
use Rattle.dexspec.specs.Depth.{IsAcyclic}
use Rattle.dexspec.specs.Merging.{HasShortString, IsConsistent}
use Rattle.dexspec.specs.Weight.{weight}
use Rattle.dexclass.specs.Numbered.{NumberedClass}
use Rattle.dexmerge.specs.declared.measuring.Counts.{Counts}
use Rattle.dexmerge.specs.internal.Amounts.{weight_over, short_numbers, has_from}

-- whether a number, if there is one, is not below the cap
abbrev pub is_from : ℕ → Option ℕ → Bool
is_from cap None = false
is_from cap (Some n) = not (nat_lt n cap)

-- the number is the greatest of the list, or the list is empty: for each cap it decides whether one is not below it
abbrev pub Decides : Option ℕ → List ℕ → Type 0
Decides greatest ns = (cap : ℕ) → has_from cap ns ≡ is_from cap greatest

-- one more than the number, or 0 without one
abbrev pub above_it : Option ℕ → ℕ
above_it None = 0
above_it (Some n) = n + 1

-- the same definitions without repeats: their number, and their weight, or 2^64 - 1 where that is more
pub record HaveSize (D : List Definition) (classes weighs : ℕ) : Type 0 where
  pub once : List Definition
  pub same : AreSame once D
  pub distinct : AreDistinct once
  pub classes_are : classes ≡ length once
  pub weighs_is : weighs ≡ min (2 ^ 64 - 1) (weight once)

-- one more than the greatest rank of a text of a const-string, or 0 without one
pub record IsShortBound (D : List Definition) (bound : ℕ) : Type 0 where
  pub below : (s : Text) → HasShortString D s → rank text_cmp s (mentions D).texts < bound
  pub least : 0 < bound → (s : Text) × HasShortString D s × (rank text_cmp s (mentions D).texts + 1 ≡ bound)

-- no name has two definitions and each defined name has a depth; these are the numbers that the caps compare, and those
-- of the classes and texts
pub record AreCounts (D : List Definition) (counts : Counts) : Type 0 where
  pub consistent : IsConsistent D
  pub acyclic : IsAcyclic D
  pub types : counts.types ≡ length (mentions D).types
  pub protos : counts.protos ≡ length (mentions D).protos
  pub fields : counts.fields ≡ length (mentions D).fields
  pub methods : counts.methods ≡ length (mentions D).methods
  pub short_strings : IsShortBound D counts.short_strings
  pub size : HaveSize D counts.classes counts.weight
  pub strings : counts.strings ≡ length (mentions D).texts

-- the same of classes over a numbering
pub record AreCountsOver (m : Mentions) (cs : List NumberedClass) (counts : Counts) : Type 0 where
  pub types : counts.types ≡ length m.types
  pub protos : counts.protos ≡ length m.protos
  pub fields : counts.fields ≡ length m.fields
  pub methods : counts.methods ≡ length m.methods
  pub greatest : Option ℕ
  pub decides : Decides greatest (short_numbers cs)
  pub short_strings : counts.short_strings ≡ above_it greatest
  pub weight : counts.weight ≡ min (2 ^ 64 - 1) (weight_over m cs)
  pub classes : counts.classes ≡ length cs
  pub strings : counts.strings ≡ length m.texts
