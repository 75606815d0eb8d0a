-- Parts of a program.
use Rattle.std.specs.Prelude.{List, map, All}
use Rattle.dexspec.specs.Lists.{AreDistinct}
use Rattle.dexspec.specs.WellFormed.{AreWellFormed}
use Rattle.dexspec.specs.Mentions.{Mentions}
use Rattle.dexspec.specs.Merging.{IsGood, greatest_caps}
use Rattle.dexclass.specs.Numbered.{NumberedClass, definition_of}
use Rattle.dexclass.specs.Uses.{IsKnownClass}

-- class definitions that can be merged and written, by the numbers of a numbering that may have more symbols than they
-- mention
pub record AreGoodClasses (m : Mentions) (cs : List NumberedClass) : Type 0 where
  pub known : All (IsKnownClass m) cs
  pub names_differ : AreDistinct (map (λ d. d.0) (map (definition_of m) cs))
  pub good : IsGood greatest_caps (map (definition_of m) cs)
  pub formed : AreWellFormed (map (definition_of m) cs)
