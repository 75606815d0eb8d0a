-- Lists that rise, and lists that grow at their ends.
use Rattle.dexval.proofs.Common.{◌≡◌, ℕ, zero, suc, ◌<◌, true, List, [], ◌∷◌, ◌++◌, length, slice_index_or, refl, ap, sym, ◌∙◌, arith, inl, inr, append_assoc, Ordering, cases_lt, is_lt, nat_cmp, rises, Text, text_cmp, and_first, and_second, and_both}
use Rattle.dexspec.proofs.merge.SymbolOrders.{text_total}
use Rattle.dexpool.proofs.NumberOrder.{places_agree}

-- the members that f lists, split at one of them
pub split_at : {X : Type 0} (f : ℕ → List X) (g : ℕ → X) → ((k : ℕ) → f (suc k) ≡ f k ++ g k ∷ []) → (n i : ℕ) → i < n → (rest : List X) × (f n ≡ f i ++ g i ∷ rest)
split_at f g more zero i lt = absurd (omega arith)
split_at {X} f g more (suc n) i lt = elim (cases_lt i n) [
  | inl less ↦
      let r = split_at f g more n i less in (r.0 ++ g n ∷ [], more n ∙ ap (λ (xs : List X). xs ++ g n ∷ []) r.1 ∙ append_assoc (f i) (g i ∷ r.0) (g n ∷ []))
  | inr le ↦
      let last : n ≡ i = omega (arith, lt, le) in ([], more n ∙ ap (λ (k : ℕ). f k ++ g k ∷ []) last)
]

module _ {X : Type 0} (R : X → X → Ordering) where
  -- one more member at the end
  pub rises_more : (xs : List X) (x y : X) → rises R (xs ++ x ∷ []) ≡ true → is_lt (R x y) ≡ true → rises R ((xs ++ x ∷ []) ++ y ∷ []) ≡ true
  rises_more [] x y h lt = and_both (is_lt (R x y)) true lt refl
  rises_more (a ∷ []) x y h lt = and_both (is_lt (R a x)) (rises R (x ∷ y ∷ [])) (and_first (is_lt (R a x)) true h) (and_both (is_lt (R x y)) true lt refl)
  rises_more (a ∷ b ∷ xs) x y h lt =
      and_both (is_lt (R a b)) (rises R ((b ∷ xs ++ x ∷ []) ++ y ∷ [])) (and_first (is_lt (R a b)) (rises R (b ∷ xs ++ x ∷ [])) h) (rises_more (b ∷ xs) x y (and_second (is_lt (R a b)) (rises R (b ∷ xs ++ x ∷ [])) h) lt)

  -- a member and the next one
  pub rises_next : (xs : List X) (x y : X) (rest : List X) → rises R (xs ++ x ∷ y ∷ rest) ≡ true → is_lt (R x y) ≡ true
  rises_next [] x y rest h = and_first (is_lt (R x y)) (rises R (y ∷ rest)) h
  rises_next (a ∷ []) x y rest h = and_first (is_lt (R x y)) (rises R (y ∷ rest)) (and_second (is_lt (R a x)) (rises R (x ∷ y ∷ rest)) h)
  rises_next (a ∷ b ∷ xs) x y rest h = rises_next (b ∷ xs) x y rest (and_second (is_lt (R a b)) (rises R (b ∷ xs ++ x ∷ y ∷ rest)) h)

-- texts that rise are in the order of their numbers
module _ (ts : List Text) (rise : rises text_cmp ts ≡ true) where
  texts_agree : (i j : ℕ) → i < length ts → j < length ts → nat_cmp i j ≡ text_cmp (slice_index_or ts i []) (slice_index_or ts j [])
  texts_agree i j lt lt' = places_agree text_cmp text_total ts rise i j [] [] lt lt'

  pub is_less : (i j : ℕ) → i < j → j < length ts → is_lt (text_cmp (slice_index_or ts i []) (slice_index_or ts j [])) ≡ true
  is_less i j lt room = ap is_lt (sym (texts_agree i j (omega arith) room)) ∙ grind arith

  pub is_greater : (i j : ℕ) → i < length ts → j < length ts → is_lt (text_cmp (slice_index_or ts i []) (slice_index_or ts j [])) ≡ true → i < j
  is_greater i j lt lt' e = let n : is_lt (nat_cmp i j) ≡ true = ap is_lt (texts_agree i j lt lt') ∙ e in grind arith

  -- at most one number has a text
  pub one_number : (i j : ℕ) → i < length ts → j < length ts → slice_index_or ts i [] ≡ slice_index_or ts j [] → i ≡ j
  one_number i j lt lt' e = let tied : nat_cmp i j ≡ nat_cmp j j = texts_agree i j lt lt' ∙ ap (λ (t : Text). text_cmp t (slice_index_or ts j [])) e ∙ sym (texts_agree j j lt' lt') in grind arith
