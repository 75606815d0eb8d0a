-- What is there if it passes a test.
use Rattle.dexids.proofs.Common.{◌≡◌, Bool, true, false, Option, Some, None, refl, sym, subst}
use Rattle.std.specs.Bool.{then_some}

pub by_test : {X : Type 0} (P : Option X → Type 0) (x : X) (b : Bool) (r : Option X) → r ≡ then_some b x → (b ≡ true → P (Some x)) → (b ≡ false → P None) → P r
by_test P x true r is right wrong = subst P (sym is) (right refl)
by_test P x false r is right wrong = subst P (sym is) (wrong refl)
