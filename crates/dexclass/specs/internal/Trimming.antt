-- Marks on what classes name.
use Rattle.std.specs.Prelude.{◌≡◌, List, All, map}
use Rattle.std.specs.List.{flat_map}
use Rattle.dexspec.specs.Classes.{Definition}
use Rattle.dexspec.specs.Mentions.{Mentions, closed, mentions}
use Rattle.dexpool.specs.declared.marks.Marks.{Marks}
use Rattle.dexpool.specs.Numberings.{AreMarksOf, marked}
use Rattle.dexclass.specs.Numbered.{NumberedClass, definition_of}
use Rattle.dexclass.specs.Uses.{HaveMarked, IsKnownClass, class_uses}
use Rattle.dexclass.specs.internal.Ordered.{mentions_of}

-- just what occurs in the classes is marked, and what this mentions is what they mention
pub record MarkClasses (m : Mentions) (cs : List NumberedClass) (marks : Marks) : Type 0 where
  pub count : AreMarksOf m marks
  pub uses_marked : HaveMarked (flat_map class_uses cs) marks
  pub mentioned : closed (marked m marks) ≡ mentions_of m cs

-- the classes denote the definitions, over the numbering of just what these mention
pub record AreTrimmed (D : List Definition) (n : Mentions) (cs : List NumberedClass) : Type 0 where
  pub mentions_are : n ≡ mentions D
  pub same : map (definition_of n) cs ≡ D
  pub known : All (IsKnownClass n) cs
