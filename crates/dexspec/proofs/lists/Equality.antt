-- Tests that decide equality: of any type, of lists, of options and of texts.
use Rattle.dexspec.proofs.Common.{◌≡◌, Bool, true, Some, None, refl, sym, ap, subst, Decides, option_eq, pointwise, Decides-eqb, same_from_decides, slice_eq-Decides}
use Rattle.dexspec.specs.{same_text}

-- the test passes exactly for equal values
abbrev pub IsEquality : {X : Type 0} → (X → X → Bool) → Type 0
IsEquality {X} same = (x y : X) → Decides (same x y) (x ≡ y)

-- a test that passes only for equal values, and for each value and itself
pub reports : {X : Type 0} (same : X → X → Bool) → ((x y : X) → same x y ≡ true → x ≡ y) → ((x : X) → same x x ≡ true) → IsEquality same
reports same only again x y = (only x y, λ e. subst (λ z. same x z ≡ true) e (again x))

module _ {X : Type 0} (same : X → X → Bool) (exact : IsEquality same) where
  -- a value is equal to itself
  pub self : (x : X) → same x x ≡ true
  self x = (exact x x).1 refl

  -- the order of the arguments does not matter
  pub turned : (x y : X) → same x y ≡ same y x
  turned x y = same_from_decides (same x y) (same y x) (exact x y) ((λ e. sym ((exact y x).0 e)), (λ e. (exact y x).1 (sym e)))

-- lists, member by member
pub lists_decide : {X : Type 0} (same : X → X → Bool) → IsEquality same → IsEquality (pointwise same)
lists_decide same is xs ys = slice_eq-Decides is xs ys (pointwise same xs ys) refl

-- options
pub options_decide : {X : Type 0} (same : X → X → Bool) → IsEquality same → IsEquality (option_eq same)
options_decide same is None None = (λ e. refl, λ e. refl)
options_decide same is (Some x) (Some y) = (λ e. ap Some ((is x y).0 e), λ e. let one : x ≡ y = cc in (is x y).1 one)
options_decide same is _ _ = (λ e. absurd cc, λ e. absurd cc)

-- texts, unit by unit
pub text_decides : IsEquality same_text
text_decides = lists_decide _ Decides-eqb
