-- Static values of a row, checked and then read.
use Rattle.dexmembers.proofs.Common.{◌≡◌, ◌≢◌, ℕ, ◌<◌, ◌≤◌, List, inl, inr, ap, sym, subst, ◌∙◌, arith, OrNone, Mentions, Values, NoValues, count_values, EncodedArrayItemAt, StaticValuesAt, static_values_off, static_values_weight, one_or_none, one_array, ItemFault, Refused, Memory, NumberedValues, values_in, AreStaticsAt, IsStaticsFault}
use Rattle.dexmembers.specs.internal.StaticValues.{HasValuesFor, AreValuesOf, IsValuesFault, IsValuesFaultWithin}
use Rattle.dexmembers.specs.{HasValuesOf}

-- ---- the static values of a row

module _ (b : List ℕ) (r off : ℕ) (at : off ≡ static_values_off b r) (some : off ≢ 0) where
  -- those that were read are the row's
  pub statics_at : (m : Mentions) (xs : NumberedValues) → AreStaticsAt b off m xs → OrNone StaticValuesAt NoValues b (static_values_off b r) (values_in m xs)
  statics_at m xs are = inr (λ e. some (at ∙ e), (are.at.0, subst (λ o. EncodedArrayItemAt b o (values_in m xs) are.at.0) at are.at.1))

  -- if there are no static values for the number of fields, condition 21 fails
  pub none_there : (fields number : ℕ) → number ≡ 21 → ((vs : Values) → HasValuesFor b r fields vs → ⊥) → IsValuesFault b r fields (Refused number)
  none_there fields number is none = (
    is,
    none,
    λ d declared many has. let found = has d declared in none found.0 (record { at = found.1; few = subst (λ n. count_values found.0 ≤ n) many found.2 }),
  )

  -- there is no array at the offset
  no_array : (vs : Values) → ((vs : Values) (n : ℕ) → EncodedArrayItemAt b off vs n → ⊥) → OrNone StaticValuesAt NoValues b (static_values_off b r) vs → ⊥
  no_array vs none (inl h) = some (at ∙ h.0)
  no_array vs none (inr h) = none vs h.1.0 (subst (λ o. EncodedArrayItemAt b o vs h.1.0) (sym at) h.1.1)

  pub no_statics : (fields : ℕ) (fault : ItemFault) → IsStaticsFault b off fault → IsValuesFault b r fields fault
  no_statics fields Memory is = tt
  no_statics fields (Refused number) is = none_there fields number is.0 (λ vs has. no_array vs is.1 has.at)

  module _ (m : Mentions) (xs : NumberedValues) (are : AreStaticsAt b off m xs) where
    -- the row's values are those that were read
    same_values : (vs : Values) → OrNone StaticValuesAt NoValues b (static_values_off b r) vs → vs ≡ values_in m xs
    same_values vs h = one_or_none StaticValuesAt NoValues b (static_values_off b r) vs _ (λ s t. (one_array b (static_values_off b r) vs _ s.0 t.0 s.1.array t.1.array).0) h (statics_at m xs are)

    -- they are those that were checked
    pub read_values : (fields most weight : ℕ) → HasValuesOf b r fields weight → weight ≤ most → AreValuesOf b r m fields most xs
    read_values fields most weight h light =
        let same = same_values h.values h.are.at in
        record { known = are.known; are = subst (HasValuesFor b r fields) same h.are; light = omega (arith, light, h.weighs, ap static_values_weight same) }

module _ (b : List ℕ) (r fields most : ℕ) where
  -- those that were checked weigh more
  pub heavy_values : (weight : ℕ) → HasValuesOf b r fields weight → most < weight → (vs : Values) → HasValuesFor b r fields vs → most < static_values_weight vs
  heavy_values weight h heavy vs are =
      let same : h.values ≡ vs = one_or_none StaticValuesAt NoValues b (static_values_off b r) h.values vs (λ s t. (one_array b (static_values_off b r) h.values vs s.0 t.0 s.1.array t.1.array).0) h.are.at are.at in
      omega (arith, heavy, h.weighs, ap static_values_weight same)

  pub fault_within : (fault : ItemFault) → IsValuesFault b r fields fault → IsValuesFaultWithin b r fields most fault
  fault_within Memory is = tt
  fault_within (Refused number) is = inl is
