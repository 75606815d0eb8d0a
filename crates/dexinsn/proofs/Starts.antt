-- Where pieces begin.
use Rattle.dexinsn.proofs.Common.{◌≡◌, ℕ, ◌==◌, ℤ, pos, ◌<ℤ◌, Bool, true, false, cond, ◌&&◌, ◌||◌, List, [], ◌∷◌, drop, slice_index, Option, Some, None, inl, inr, refl, ap, sym, ◌∙◌, subst, arith, eqb-true, eq-eqb, ne_eqb, negsuc, IsSome, is_some, option_map, All, Any, list_any, int_eq, ints, cases_eq, All-get_or, Any-from_list_any, Cut, piece_size, PayloadKind, ident_of, IsPieceAt, starts_with}

-- nothing begins at a negative number
pub starts_with-negsuc : (test : ℕ → Bool) (us : List ℕ) (cs : List Cut) (n : ℕ) → starts_with test us cs (negsuc n) ≡ false
starts_with-negsuc test us [] n = refl
starts_with-negsuc test us (c ∷ cs) n = starts_with-negsuc test us cs n

-- nothing begins below 0
pub starts_with-below : (test : ℕ → Bool) (us : List ℕ) (cs : List Cut) (z : ℤ) → z <ℤ pos 0 → starts_with test us cs z ≡ false
starts_with-below test us cs (pos n) below = absurd (omega (arith, ints))
starts_with-below test us cs (negsuc n) below = starts_with-negsuc test us cs n

-- equal numbers are equal as places
pub int_eq-same : (a k : ℕ) → a ≡ k → int_eq (pos a) (pos k) ≡ true
int_eq-same a k same = grind (arith, ints)

-- other numbers are other places
pub int_eq-other : (a k : ℕ) → (a ≡ k → ⊥) → int_eq (pos a) (pos k) ≡ false
int_eq-other a k other = grind (arith, ints)

-- a test that passes once passes, however often it is asked
or_same : (t a : Bool) → (t || (a && t)) ≡ t
or_same true a = refl
or_same false true = refl
or_same false false = refl

-- at a number a piece begins with a unit that passes where one begins and the unit there passes
pub starts_with-pos : (test : ℕ → Bool) (us : List ℕ) (cs : List Cut) (k : ℕ) → starts_with test us cs (pos k) ≡ (list_any (λ c. c.unit == k) cs && test (slice_index us k))
starts_with-pos test us [] k = refl
starts_with-pos test us (c ∷ cs) k =
    let on : starts_with test us cs (pos k) ≡ (list_any (λ (b : Cut). b.unit == k) cs && test (slice_index us k)) = starts_with-pos test us cs k in
    elim (cases_eq c.unit k) [
      | inl same ↦
          ap (λ (b : Bool). (b && test (slice_index us c.unit)) || starts_with test us cs (pos k)) (int_eq-same c.unit k same) ∙ ap (λ (b : Bool). test (slice_index us c.unit) || b) on
          ∙ ap (λ (p : ℕ). test (slice_index us p) || (list_any (λ (b : Cut). b.unit == k) cs && test (slice_index us k))) same ∙ or_same (test (slice_index us k)) (list_any (λ (b : Cut). b.unit == k) cs)
          ∙ ap (λ (b : Bool). (b || list_any (λ (d : Cut). d.unit == k) cs) && test (slice_index us k)) (sym (eq-eqb c.unit k same))
      | inr other ↦
          ap (λ (b : Bool). (b && test (slice_index us c.unit)) || starts_with test us cs (pos k)) (int_eq-other c.unit k other) ∙ on
          ∙ ap (λ (b : Bool). (b || list_any (λ (d : Cut). d.unit == k) cs) && test (slice_index us k)) (sym (ne_eqb c.unit k other))
    ]

-- where a mark is a piece begins
pub piece_at : (us : List ℕ) (cs : List Cut) (k : ℕ) → All (IsPieceAt us) cs → list_any (λ c. c.unit == k) cs ≡ true → IsSome (piece_size k (drop k us))
piece_at us cs k pieces marked =
    let found : Any (λ (c : Cut). (c.unit == k) ≡ true) cs = Any-from_list_any (λ (c : Cut). c.unit == k) cs marked in
    let size : piece_size k (drop k us) ≡ Some found.1.units = subst (λ (p : ℕ). piece_size p (drop p us) ≡ Some found.1.units) (eqb-true found.1.unit k found.4) (subst (IsPieceAt us) found.3 (All-get_or (IsPieceAt us) cs found.0 found.1 found.2 pieces)) in
    subst (λ (o : Option ℕ). IsSome o) (sym size) refl

-- a payload begins with the unit where the code finds a kind
pub payload_is : (o : Option PayloadKind) (u : ℕ) (payload some : Bool) → option_map ident_of o ≡ cond payload (Some u) None → is_some o ≡ some → payload ≡ some
payload_is None u false some is found = found
payload_is (Some kind) u true some is found = found
payload_is _ u _ some is found = cc
