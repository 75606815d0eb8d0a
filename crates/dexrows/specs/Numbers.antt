-- The numbers of rows of lower tables that a row's key is made of: which they are, and what they are replaced by.
use Rattle.std.specs.Prelude.{◌≡◌, ℕ, ◌<◌, Bool, true, List, length, slice_index, nat_lt}
use Rattle.dexrows.specs.declared.lower.LowerPlaces.{LowerPlaces}

-- What the number of a text, of a type and of a proto is replaced by.
pub record Lower : Type 0 where
  pub strings : ℕ → ℕ
  pub types : ℕ → ℕ
  pub protos : ℕ → ℕ

-- Tests that select some numbers of texts, of types and of protos.
pub record Among : Type 0 where
  pub strings : ℕ → Bool
  pub types : ℕ → Bool
  pub protos : ℕ → Bool

-- numbers are replaced by those at their places
abbrev pub lower_of : LowerPlaces → Lower
lower_of p =
    record { strings = slice_index p.strings.now; types = slice_index p.types.now; protos = slice_index p.protos.now }

-- the numbers that have a place
abbrev pub among_of : LowerPlaces → Among
among_of p =
    record {
      strings = λ n. nat_lt n (length p.strings.now);
      types = λ n. nat_lt n (length p.types.now);
      protos = λ n. nat_lt n (length p.protos.now);
    }

-- of two numbers that the test selects, the lesser one is replaced by the lesser one
abbrev pub RisesOn : (ℕ → Bool) → (ℕ → ℕ) → Type 0
RisesOn test f = (m n : ℕ) → test m ≡ true → test n ≡ true → m < n → f m < f n

-- the order of numbers that the tests select is kept, in each table
pub record RiseAmong (among : Among) (lower : Lower) : Type 0 where
  pub strings : RisesOn among.strings lower.strings
  pub types : RisesOn among.types lower.types
  pub protos : RisesOn among.protos lower.protos

-- A row of protos: the number of its shorty's text, of its return type and of the types of its parameters.
pub record ProtoNumbers : Type 0 where
  pub shorty : ℕ
  pub return_type : ℕ
  pub parameters : List ℕ
