-- What the readers of numbers return.
use Rattle.std.specs.Prelude.{◌≡◌, ◌↔◌, ℕ, ◌<◌, ◌≤◌, List, length, take, All, Result, Ok, Err, IfOk}
use Rattle.dexspec.specs.Numbers.{IsChain, sum_of_groups, BeginsWith}
use Rattle.dexleb.specs.declared.read.LebFault.{LebFault}
use Rattle.dexleb.specs.declared.read.LebFault.TheVariants.{Short, Range}

-- fewer than five bytes, perhaps none, and each has its top bit set: a number may go on after them
pub record IsCutOff (bytes : List ℕ) : Type 0 where
  pub few : length bytes < 5
  pub high : All (λ byte. 128 ≤ byte) bytes

-- the result of a reader: the value that the bytes begin with and how many bytes encode it, or why there is none
pub record Reads {V : Type 0} (Says : List ℕ → V → Type 0) (bytes : List ℕ) (r : Result (V × ℕ) LebFault) : Type 0 where
  pub found : IfOk r (λ x. BeginsWith Says bytes x.0 x.1)
  pub only : (v : V) (n : ℕ) → BeginsWith Says bytes v n → r ≡ Ok (v, n)
  pub short : (r ≡ Err Short) ↔ IsCutOff bytes
  pub range : (r ≡ Err Range) ↔ ((¬ IsCutOff bytes) × ((v : V) (n : ℕ) → ¬ BeginsWith Says bytes v n))

-- the first n bytes are a number, whether or not it is in range, and this is the sum of its groups
pub record IsFirst (bytes : List ℕ) (sum n : ℕ) : Type 0 where
  pub within : n ≤ length bytes
  pub few : n ≤ 5
  pub chain : IsChain (take n bytes)
  pub value : sum_of_groups (take n bytes) ≡ sum

-- the bytes begin with no number of at most five bytes
abbrev pub HasNoFirst : List ℕ → Type 0
HasNoFirst bytes = (n : ℕ) → n ≤ 5 → n ≤ length bytes → ¬ IsChain (take n bytes)
