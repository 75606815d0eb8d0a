-- Whole files and their class rows as they are checked: the definitions are there, and nothing of them is kept.
use Rattle.std.specs.Prelude.{◌≡◌, ℕ, ◌<◌, ◌≤◌, List, length}
use Rattle.dexspec.specs.Classes.{Definition}
use Rattle.dexspec.specs.Files.{Collection, definitions, Denotes}
use Rattle.dexspec.specs.Accepted.{IsReadable, AreRows, IsAccepted}
use Rattle.dexspec.specs.Weight.{most_weight}
use Rattle.dexclass.specs.internal.Reading.{bodies_weight}

-- The rows before row n are readable, and are definitions. These weigh this much without the symbols that they mention,
-- and no more than they may.
pub record HaveBodiesOf (b : List ℕ) (n weight : ℕ) : Type 0 where
  pub definitions : List Definition
  pub readable : (k : ℕ) → k < n → IsReadable b k
  pub rows : AreRows b n definitions
  pub weighs : bodies_weight definitions ≡ weight
  pub light : weight ≤ most_weight

-- the bytes are accepted, and denote a collection of this many definitions
pub record IsCheckedAs (b : List ℕ) (count : ℕ) : Type 0 where
  pub accepted : IsAccepted b
  pub counted : (K : Collection) → Denotes b K → length (definitions K) ≡ count
