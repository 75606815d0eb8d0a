-- The class rows of a file, read one after the other.
use Rattle.std.specs.Prelude.{◌≡◌, ℕ, ◌+◌, ◌<◌, ◌≤◌, List, map, All, sum_by}
use Rattle.dexspec.specs.Classes.{Definition}
use Rattle.dexspec.specs.Mentions.{Mentions}
use Rattle.dexspec.specs.Accepted.{IsReadable, AreRows}
use Rattle.dexspec.specs.Weight.{mentions_weight, body_weight, most_weight}
use Rattle.dexclass.specs.Numbered.{definition_of}
use Rattle.dexclass.specs.Uses.{IsKnownClass}
use Rattle.dexclass.specs.declared.reading.Bodies.{Bodies}

-- what definitions weigh without the symbols that they mention
abbrev pub bodies_weight : List Definition → ℕ
bodies_weight D = sum_by (λ d. body_weight d.1) D

-- The rows before row n are readable, and are the definitions of the classes, whose numbers are those of symbols. They
-- have the weight that is counted, which is no more than it may be.
pub record AreBodies (b : List ℕ) (m : Mentions) (n : ℕ) (bodies : Bodies) : Type 0 where
  pub readable : (k : ℕ) → k < n → IsReadable b k
  pub known : All (IsKnownClass m) bodies.classes.items
  pub rows : AreRows b n (map (definition_of m) bodies.classes.items)
  pub weight_is : bodies.weight ≡ bodies_weight (map (definition_of m) bodies.classes.items)
  pub light : bodies.weight ≤ most_weight

-- the weight of bodies of this weight with the symbols, which is no more than it may be
pub record IsWhole (m : Mentions) (bodies total : ℕ) : Type 0 where
  pub weight_is : total ≡ 1024 + mentions_weight m + bodies
  pub light : total ≤ most_weight

-- the symbols and the classes weigh too much together
abbrev pub AreHeavy : Mentions → ℕ → Type 0
AreHeavy m bodies = most_weight < 1024 + mentions_weight m + bodies
