-- Items that are checked at an offset of a file.
use Rattle.dexval.proofs.Common.{◌≡◌, ◌≢◌, ℕ, zero, suc, ◌+◌, ◌≤◌, List, refl, ap, sym, ◌∙◌, arith, data_off, most_depth, count_values, Mentions, static_values_weight, HasValue, HasArray, HasValueOf, HasStaticsOf, NumberedValues, NoValue, ThenNext, values_in, values_count, numbered_values_weight}
use Rattle.dexval.proofs.Weights.{weight_is, values_weight_is}

pub value_checked : (b : List ℕ) (off : ℕ) (m : Mentions) (n weight : ℕ) → data_off b ≤ off → HasValue b off m most_depth n weight → HasValueOf b off m n weight
value_checked b off m n weight in_data h = record {
  value = h.value;
  at = record { known = h.read.known; at = record { in_data = in_data; encodes = h.read.encodes; shallow = h.read.shallow } };
  weighs = sym (weight_is m h.value) ∙ h.weighs;
}

counted_in : (m : Mentions) (xs : NumberedValues) → count_values (values_in m xs) ≡ values_count xs
counted_in m NoValue = refl
counted_in m (ThenNext x xs) = ap (λ (n : ℕ). n + 1) (counted_in m xs)

some_statics : (m : Mentions) (xs : NumberedValues) → values_count xs ≢ 0 → static_values_weight (values_in m xs) ≡ 6 + numbered_values_weight xs
some_statics m NoValue some = absurd (some refl)
some_statics m (ThenNext x xs) some = ap (λ (n : ℕ). 6 + n) (sym (values_weight_is m (ThenNext x xs)))

no_statics : (m : Mentions) (xs : NumberedValues) → values_count xs ≡ 0 → static_values_weight (values_in m xs) ≡ 0
no_statics m NoValue none = refl
no_statics m (ThenNext x xs) none = absurd (omega (arith, none))

-- the weight of static values, perhaps none
pub statics_checked : (b : List ℕ) (off : ℕ) (m : Mentions) (count n weight total : ℕ) → data_off b ≤ off → (count ≡ 0 → total ≡ 0) → (count ≢ 0 → total ≡ 6 + weight) → HasArray b off m most_depth count n weight → HasStaticsOf b off m count n total
statics_checked b off m count n weight total in_data none some h = record {
  values = h.values;
  known = h.read.known;
  at = record { in_data = in_data; array = h.read.encodes; shallow = h.read.shallow };
  counted = counted_in m h.values ∙ h.counted;
  weighs = weighs_by count h.counted none some;
}
  where
    weighs_by : (k : ℕ) → values_count h.values ≡ k → (k ≡ 0 → total ≡ 0) → (k ≢ 0 → total ≡ 6 + weight) → static_values_weight (values_in m h.values) ≡ total
    weighs_by zero e zero_is some_is = no_statics m h.values e ∙ sym (zero_is refl)
    weighs_by (suc k) e zero_is some_is = some_statics m h.values (omega (arith, e)) ∙ ap (λ (x : ℕ). 6 + x) h.weighs ∙ sym (some_is (omega arith))
