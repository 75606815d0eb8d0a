-- Two tests that hold, and optional numbers: they are the same just where they are equal.
use Rattle.std.specs.Prelude.{◌≡◌, ℕ, ◌==◌, ◌&&◌, Bool, true, false, Option, Some, None}
use Rattle.std.proofs.Common.{refl, ap, sym}
use Rattle.std.specs.Bool.{Decides}
use Rattle.std.specs.Option.{option_eq}
use Rattle.std.specs.Cmp.{unsigned_Decides}

false_is_not_true : false ≡ true → ⊥
false_is_not_true e = cc

pub both : (a b : Bool) → a ≡ true → b ≡ true → (a && b) ≡ true
both true b h k = k
both false b h k = absurd (false_is_not_true h)

abbrev value_of : ℕ → Option ℕ → ℕ
value_of d None = d
value_of d (Some n) = n

abbrev is_there : Option ℕ → Bool
is_there None = false
is_there (Some n) = true

pub option_decides : (a b : Option ℕ) → Decides (option_eq ◌==◌ a b) (a ≡ b)
option_decides None None = (λ e. refl, λ e. refl)
option_decides None (Some b) = (λ e. absurd (false_is_not_true e), λ e. ap is_there e)
option_decides (Some a) None = (λ e. absurd (false_is_not_true e), λ e. sym (ap is_there e))
option_decides (Some a) (Some b) =
    (λ e. ap Some ((unsigned_Decides a b).0 e), λ e. (unsigned_Decides a b).1 (ap (value_of 0) e))
