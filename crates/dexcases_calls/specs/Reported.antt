-- What calls report of a file, and what is right.
use Rattle.std.specs.Prelude.{◌≡◌, ℕ, List, length}
use Rattle.std.specs.List.{Contains}
use Rattle.dexspec.specs.Accepted.{IsRefused}
use Rattle.dexspec.specs.Stripping.{strip_collection}
use Rattle.dexspec.specs.Files.{Collection, definitions}
use Rattle.dexspec.specs.Weight.{weight}
use Rattle.dexspec.specs.Canonical.{canonical}
use Rattle.dexhead.specs.declared.refusal.Refusal.{Refusal}
use Rattle.dexclass.specs.Programs.{IsReadAs}
use Rattle.dexcases_calls.specs.declared.check.RightAnswer.{RightAnswer}
use Rattle.dexcases_calls.specs.declared.check.RightAnswer.TheVariants as right
use Rattle.dexcases_calls.specs.declared.check.Answer.{Answer}
use Rattle.dexcases_calls.specs.declared.check.Answer.TheVariants as reported

-- the bytes are read as a program of `n` classes
pub record HasClasses (b : List ℕ) (n : ℕ) : Type 0 where
  pub collection : Collection
  pub is : IsReadAs b collection
  pub count : n ≡ length (definitions collection)

-- the bytes are read as a program of weight `n`
pub record Weighs (b : List ℕ) (n : ℕ) : Type 0 where
  pub collection : Collection
  pub is : IsReadAs b collection
  pub weight_is : n ≡ weight (definitions collection)

-- the bytes are read as a program whose canonical file is `whole`
pub record Normalises (b whole : List ℕ) : Type 0 where
  pub collection : Collection
  pub is : IsReadAs b collection
  pub whole_is : whole ≡ canonical collection

-- the bytes are read as a program that, once stripped, has the canonical file `whole`
pub record Strips (b whole : List ℕ) : Type 0 where
  pub collection : Collection
  pub is : IsReadAs b collection
  pub whole_is : whole ≡ canonical (strip_collection collection)

-- what is reported of the bytes is true
abbrev pub IsReported : List ℕ → Answer → Type 0
IsReported b (reported.Accepted n) = HasClasses b n
IsReported b (reported.Refused r) = IsRefused b r.number r.place

-- what the line says is true: one of the refusals, or the number of classes
abbrev pub IsRight : List ℕ → RightAnswer → Type 0
IsRight b (right.Accepted n) = HasClasses b n
IsRight b (right.Refused rs) = (r : Refusal) × Contains rs.items r × IsRefused b r.number r.place

-- what is reported is right
abbrev pub Agree : RightAnswer → Answer → Type 0
Agree (right.Accepted n) (reported.Accepted m) = n ≡ m
Agree (right.Refused rs) (reported.Refused r) = Contains rs.items r
Agree _ _ = ⊥
