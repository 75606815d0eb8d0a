-- Classes by name, and which of them have no depth.
use Rattle.std.specs.Prelude.{ℕ, ◌<◌, ◌≡◌, List, Option, map, length}
use Rattle.std.specs.declared.cmp.Ordering.TheVariants.{Less}
use Rattle.dexspec.specs.Texts.{Text, text_cmp}
use Rattle.dexspec.specs.Mentions.{Mentions}
use Rattle.dexspec.specs.Depth.{IsAcyclic}
use Rattle.dexspec.specs.Merging.{IsCycle}
use Rattle.dexorder.specs.Definitions.{AreDepthsOf}
use Rattle.dexpool.specs.NumberedSymbols.{type_at}
use Rattle.dexclass.specs.Numbered.{NumberedClass, definition_of}
use Rattle.dexclass.specs.Parents.{name_number, AreNamed, AreDepthsByName}
use Rattle.dexmerge.specs.Candidates.{classes_of}
use Rattle.dexmerge.specs.declared.candidates.Candidate.{Candidate}

-- the classes are those of a numbering, and their names rise
pub record AreKept (m : Mentions) (cs : List NumberedClass) : Type 0 where
  pub named : AreNamed m cs
  pub rise : (i j : ℕ) → i < j → j < length cs → name_number cs i < name_number cs j

-- no class is above itself
abbrev pub AreAcyclic : Mentions → List NumberedClass → Type 0
AreAcyclic m cs = IsAcyclic (map (definition_of m) cs)

-- no class is above itself, and the depths are theirs
pub record HaveDepths (m : Mentions) (cs : List NumberedClass) (depths : List (Option ℕ)) : Type 0 where
  pub acyclic : AreAcyclic m cs
  pub are : AreDepthsOf (map (definition_of m) cs) depths

-- the class has no depth, and its name is the least of which this is so
pub record IsFirstCycle (m : Mentions) (cs : List NumberedClass) (i : ℕ) : Type 0 where
  pub within : i < length cs
  pub is : IsCycle (map (definition_of m) cs) (type_at m (name_number cs i))
  pub least : (name : Text) → IsCycle (map (definition_of m) cs) name
      → text_cmp name (type_at m (name_number cs i)) ≡ Less → ⊥

-- kept classes have these depths
abbrev pub KeptHaveDepths : List Candidate → List (Option ℕ) → Type 0
KeptHaveDepths cs depths = (m : Mentions) → AreKept m (classes_of cs) → HaveDepths m (classes_of cs) depths

-- the depths of kept classes are at the numbers of their names
abbrev pub KeptAreByName : ℕ → List Candidate → List (Option ℕ) → List (Option ℕ) → Type 0
KeptAreByName types cs depths by_name = (m : Mentions) → length m.types ≡ types → AreKept m (classes_of cs)
    → HaveDepths m (classes_of cs) depths → AreDepthsByName m (map (definition_of m) (classes_of cs)) by_name
