-- Images as they are stored.
use Rattle.dexpool.proofs.Common.{◌≡◌, ◌≢◌, ℕ, ◌==◌, false, List, [], ◌∷◌, map, refl, sym, ap, ◌∙◌, arith, inl, inr, Some, cases_eq, cases_order, eq-eqb, ne_eqb, false≢true, image_in, number_or_none}
use Rattle.std.specs.List.{list_any}

-- a number that is not the greatest of 32 bits is its own image
pub image_is : (n : ℕ) → n ≢ 0xffffffff → image_in n ≡ Some n
image_is n other = rw (ne_eqb n 0xffffffff other) refl

-- images of which none is that number are as they are stored
pub all_present : (ns : List ℕ) → list_any (λ n. n == 0xffffffff) ns ≡ false → map image_in ns ≡ map (λ n. Some n) ns
all_present [] none = refl
all_present (n ∷ ns) none = elim (cases_eq n 0xffffffff) [
  | inl same ↦ absurd (false≢true (sym none ∙ rw (eq-eqb n 0xffffffff same) refl))
  | inr other ↦ λ i. image_is n other i ∷ all_present ns (sym (rw (ne_eqb n 0xffffffff other) refl) ∙ none) i
]

one_stored : (n : ℕ) → number_or_none (image_in n) ≡ n
one_stored n = elim (cases_order n 0xffffffff) [
  | inl same ↦ rw same refl
  | inr (inl less) ↦ ap number_or_none (image_is n (omega arith))
  | inr (inr more) ↦ ap number_or_none (image_is n (omega arith))
]

-- stored images are what is stored for these images
pub all_stored : (ns : List ℕ) → map number_or_none (map image_in ns) ≡ ns
all_stored [] = refl
all_stored (n ∷ ns) = λ i. one_stored n i ∷ all_stored ns i
