-- Lists of types at an offset.
use Rattle.dexids.proofs.Common.{◌≡◌, ◌≢◌, ℕ, zero, suc, ◌+◌, ◌*◌, List, [], ◌∷◌, ◌++◌, refl, sym, ap, ◌∙◌, arith, append_assoc, add-one, Ok, Err, IfOk, Result, ne_eqb, ushort_at, ushorts_at, type_indices, listed}

ushorts_more : (b : List ℕ) (o k : ℕ) → ushorts_at b o (suc k) ≡ ushorts_at b o k ++ ushort_at b (o + 2 * k) ∷ []
ushorts_more b o zero = let e : o ≡ o + 2 * 0 = omega arith in ap (λ (m : ℕ). ushort_at b m ∷ []) e
ushorts_more b o (suc k) = let e : o + 2 + 2 * k ≡ o + 2 * suc k = omega arith in ap (λ (l : List ℕ). ushort_at b o ∷ l) (ushorts_more b (o + 2) k ∙ ap (λ (m : ℕ). ushorts_at b (o + 2) k ++ ushort_at b m ∷ []) e)

-- one index more
pub appended_more : (old xs ys b : List ℕ) (o k n : ℕ) → xs ≡ old ++ ushorts_at b o k → ys ≡ xs ++ n ∷ [] → n ≡ ushort_at b (o + 2 * k) → ys ≡ old ++ ushorts_at b o (k + 1)
appended_more old xs ys b o k n before pushed is =
    pushed ∙ ap (λ (l : List ℕ). l ++ n ∷ []) before ∙ append_assoc old (ushorts_at b o k) (n ∷ [])
    ∙ ap (λ (m : ℕ). old ++ (ushorts_at b o k ++ m ∷ [])) is ∙ ap (λ (l : List ℕ). old ++ l) (sym (ushorts_more b o k)) ∙ ap (λ (m : ℕ). old ++ ushorts_at b o m) (sym (add-one k))

pub listed_is : (b : List ℕ) (o : ℕ) → o ≢ 0 → listed b o ≡ type_indices b o
listed_is b o ne = rw (ne_eqb o 0 ne) refl

pub if_ok_map : {A E : Type 0} (P Q : A → Type 0) (r : Result A E) → ((x : A) → P x → Q x) → IfOk r P → IfOk r Q
if_ok_map P Q (Ok x) f h = f x h
if_ok_map P Q (Err e) f h = h
