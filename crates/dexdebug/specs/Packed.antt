-- Numbers of 32 bits, one of which denotes none, and what they denote.
use Rattle.std.specs.Prelude.{◌≡◌, ℕ, Option, Some, None}
use Rattle.std.proofs.Common.{refl, inl, inr, arith}
use Rattle.std.proofs.lemmas.Bool.{cases_order, ne_eqb}
use Rattle.dexpool.specs.Packed.{image_in}

-- what is stored for a number, or for none
abbrev pub number_or_none : Option ℕ → ℕ
number_or_none None = 0xffffffff
number_or_none (Some n) = n

pub stored_back : (n : ℕ) → number_or_none (image_in n) ≡ n
stored_back n = elim (cases_order n 0xffffffff) [
  | inl same ↦ rw same refl
  | inr (inl less) ↦ rw (ne_eqb n 0xffffffff (omega arith)) refl
  | inr (inr more) ↦ rw (ne_eqb n 0xffffffff (omega arith)) refl
]
