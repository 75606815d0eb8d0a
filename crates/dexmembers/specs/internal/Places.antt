-- Places of tables as they are stored.
use Rattle.std.proofs.Common.{◌≡◌, ℕ, Bool, true, false, ◌==◌, if◌then◌else◌, Some, None, refl, sym}
use Rattle.std.specs.Prelude.{unwrap_or}
use Rattle.std.proofs.lemmas.Bool.{eqb-true}
use Rattle.dexpool.specs.Packed.{image_in}

-- what is stored for a place is the number that it was read from
pub stored_again : (n : ℕ) → unwrap_or (image_in n) 0xffffffff ≡ n
stored_again n = by (n == 0xffffffff) refl
  where
    by : (b : Bool) → (n == 0xffffffff) ≡ b → unwrap_or (if b then None else Some n) 0xffffffff ≡ n
    by true e = sym (eqb-true n 0xffffffff e)
    by false e = refl
