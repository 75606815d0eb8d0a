-- Values that name no symbol.
use Rattle.dexval.proofs.Common.{◌≡◌, ◌≢◌, ◌∙◌, ℕ, List, [], ◌∷◌, ◌++◌, length, refl, ap, arith, Maps, Mentions, Use, NumberedValue, NumberedValues, Reference, Plain, Named, Array, Annotated, NoValue, ThenNext, values_of_list, renumbered, renumbered_values, numbered_weight, value_uses, values_uses, Spells}
use Rattle.dexval.specs.internal.Scalars.{IsScalar, code_of_reference}

-- ---- a map leaves them as they are

first_none : (us vs : List Use) → us ++ vs ≡ [] → us ≡ []
first_none [] vs e = refl
first_none (u ∷ us) vs e = absurd (omega (arith, ap length e))

second_none : (us vs : List Use) → us ++ vs ≡ [] → vs ≡ []
second_none [] vs e = e
second_none (u ∷ us) vs e = absurd (omega (arith, ap length e))

mutual
  value_stays : (r : Maps) (x : NumberedValue) → value_uses x ≡ [] → renumbered r x ≡ x
  value_stays r (Plain l) e = refl
  value_stays r (Named k i) e = absurd (omega (arith, ap length e))
  value_stays r (Array xs) e = ap Array (values_stay r xs e)
  value_stays r (Annotated t es) e = absurd (omega (arith, ap length e))

  pub values_stay : (r : Maps) (xs : NumberedValues) → values_uses xs ≡ [] → renumbered_values r xs ≡ xs
  values_stay r NoValue e = refl
  values_stay r (ThenNext x xs) e =
      let us = value_uses x in
      let vs = values_uses xs in
      ap (λ (y : NumberedValue). ThenNext y (renumbered_values r xs)) (value_stays r x (first_none us vs e)) ∙ ap (ThenNext x) (values_stay r xs (second_none us vs e))

-- ---- how they are found

-- a value that names no symbol after values that name none
pub no_uses_then : (xs : List NumberedValue) (x : NumberedValue) → values_uses (values_of_list xs) ≡ [] → value_uses x ≡ [] → values_uses (values_of_list (xs ++ x ∷ [])) ≡ []
no_uses_then [] x none last = ap (λ (us : List Use). us ++ []) last
no_uses_then (y ∷ ys) x none last =
    let us = value_uses y in
    let vs = values_uses (values_of_list ys) in
    ap (λ (ws : List Use). ws ++ values_uses (values_of_list (ys ++ x ∷ []))) (first_none us vs none) ∙ no_uses_then ys x (second_none us vs none) last

-- a scalar whose type code is that of no reference
pub scalar_nameless : (code : ℕ) (x : NumberedValue) → IsScalar code x → ((r : Reference) → code ≢ code_of_reference r) → value_uses x ≡ []
scalar_nameless code (Plain l) h none = refl
scalar_nameless code (Named r i) h none = absurd (none r h)
scalar_nameless code (Array xs) h none = absurd h
scalar_nameless code (Annotated t es) h none = absurd h

-- the weight of a scalar
pub scalar_weight : (code : ℕ) (x : NumberedValue) → IsScalar code x → numbered_weight x ≡ 9
scalar_weight code (Plain l) h = refl
scalar_weight code (Named r i) h = refl
scalar_weight code (Array xs) h = absurd h
scalar_weight code (Annotated t es) h = absurd h

-- what the bytes after a first byte encode is a scalar
pub spelled_scalar : (m : Mentions) (code : ℕ) (bytes : List ℕ) (x : NumberedValue) → Spells m code bytes x → IsScalar code x
spelled_scalar m code bytes (Plain l) h = tt
spelled_scalar m code bytes (Named r i) h = h.0
spelled_scalar m code bytes (Array xs) h = h
spelled_scalar m code bytes (Annotated t es) h = h
