-- Texts whose keys differ come in the order of their keys.
use Rattle.dexstr.proofs.Common.{◌≡◌, ◌≢◌, ℕ, zero, suc, ◌^◌, ◌<◌, List, [], ◌∷◌, inl, inr, refl, sym, ap, ◌∙◌, take, arith, cases_eq, cases_order, eq-eqb, ne_eqb, slice_cmp, spelling, Text, text_cmp, place_of, byte_cmp}
use Rattle.std.proofs.lemmas.Cmp.{nat_list_cmp_total}
use Rattle.std.specs.Ordering.{nat_cmp, ordering_reverse}
use Rattle.std.specs.Prelude.{slice_index}
use Rattle.std.specs.declared.cmp.Ordering.TheVariants.{Less}
use Rattle.dexstr.specs.{leading_number, IsKeyed}
use Rattle.dexstr.proofs.ByBytes.{nat_cmp-less, nat_cmp-same, nat_cmp-greater, place_below, zero_below, text_cmp-spelling}

number_fits : (n : ℕ) (bytes : List ℕ) → ((i : ℕ) → slice_index bytes i < 256) → leading_number (take n bytes) < 2 ^ 64
number_fits zero bytes small = omega arith
number_fits (suc n) [] small = omega arith
number_fits (suc n) (b ∷ bs) small = elim (cases_eq b 0xc0) [
  | inl same ↦ rw (eq-eqb b 0xc0 same) (omega arith)
  | inr other ↦ rw (ne_eqb b 0xc0 other) (omega (arith, small 0, number_fits n bs (λ i. small (suc i))))
]

-- bytes whose first bytes are the lesser number come first
lesser_first : (n : ℕ) (a b : List ℕ) → ((i : ℕ) → slice_index a i < 256) → ((i : ℕ) → slice_index b i < 256) → leading_number (take n a) < leading_number (take n b) → slice_cmp byte_cmp a b ≡ Less
lesser_first zero a b small small' lt = absurd (omega arith)
lesser_first (suc n) a [] small small' lt = absurd (omega arith)
lesser_first (suc n) [] (y ∷ b) small small' lt = refl
lesser_first (suc n) (x ∷ a) (y ∷ b) small small' lt = elim (cases_eq y 0xc0) [
  | inl same ↦ absurd (omega (arith, rw (eq-eqb y 0xc0 same) at lt))
  | inr after ↦ elim (cases_eq x 0xc0) [
    | inl same ↦ rw (same, nat_cmp-less (place_of 0xc0) (place_of y) (zero_below y after)) refl
    | inr other ↦
        let less = rw (ne_eqb y 0xc0 after, ne_eqb x 0xc0 other) at lt in
        elim (cases_order x y) [
          | inl same ↦ rw (same, nat_cmp-same (place_of y)) (lesser_first n a b (λ i. small (suc i)) (λ i. small' (suc i)) (omega (arith, less, same)))
          | inr (inl lt) ↦ rw (nat_cmp-less (place_of x) (place_of y) (place_below x y lt after)) refl
          | inr (inr lt) ↦ absurd (omega (arith, less, lt, number_fits n a (λ i. small (suc i)), number_fits n b (λ i. small' (suc i))))
        ]
  ]
]

lesser_text : (k l : ℕ) (s t : Text) → IsKeyed k s → IsKeyed l t → k < l → text_cmp s t ≡ Less
lesser_text k l s t of_s of_t lt = sym (text_cmp-spelling s t of_s.units of_t.units)
    ∙ lesser_first 8 (spelling s) (spelling t) of_s.key_of.small of_t.key_of.small (rw (of_s.key_of.is, of_t.key_of.is) at lt)

-- texts with other keys compare as their keys do
pub keys_decide : (k l : ℕ) (s t : Text) → IsKeyed k s → IsKeyed l t → k ≢ l → nat_cmp k l ≡ text_cmp s t
keys_decide k l s t of_s of_t differ = elim (cases_order k l) [
  | inl same ↦ absurd (differ same)
  | inr (inl lt) ↦ nat_cmp-less k l lt ∙ sym (lesser_text k l s t of_s of_t lt)
  | inr (inr lt) ↦ nat_cmp-greater k l lt ∙ sym (nat_list_cmp_total.antisymm s t ∙ ap ordering_reverse (lesser_text l k t s of_t of_s lt))
]
