-- Members named by the pairs of a directory.
use Rattle.dexmembers.proofs.Common.{◌≡◌, ℕ, zero, suc, ◌+◌, ◌*◌, ◌<◌, List, [], ◌∷◌, ◌++◌, sym, ap, ◌∙◌, subst, arith, All, Contains, All-nil, All-cons, All-append, All-head, All-tail, uint_at, pairs_at}
use Rattle.dexmembers.specs.internal.Naming.{NamesOnly}

pairs_more : (b : List ℕ) (p k : ℕ) → pairs_at b p (suc k) ≡ pairs_at b p k ++ (uint_at b (p + 8 * k), uint_at b (p + 8 * k + 4)) ∷ []
pairs_more b p zero =
    let place : p ≡ p + 8 * zero = omega arith in
    ap (λ (x : ℕ). (uint_at b x, uint_at b (x + 4)) ∷ []) place
pairs_more b p (suc k) =
    let place : p + 8 + 8 * k ≡ p + 8 * suc k = omega arith in
    ap (λ (l : List (ℕ × ℕ)). (uint_at b p, uint_at b (p + 4)) ∷ l) (pairs_more b (p + 8) k) ∙ ap (λ (x : ℕ). (uint_at b p, uint_at b (p + 4)) ∷ (pairs_at b (p + 8) k ++ (uint_at b x, uint_at b (x + 4)) ∷ [])) place

-- one pair more
pub names_more : (b : List ℕ) (p k : ℕ) (numbers : List ℕ) (n : ℕ) → NamesOnly b p k numbers → n ≡ uint_at b (p + 8 * k) → Contains numbers n → NamesOnly b p (k + 1) numbers
names_more b p k numbers n h is c =
    let P = λ (x : ℕ × ℕ). Contains numbers x.0 in
    let last : ℕ × ℕ = (uint_at b (p + 8 * k), uint_at b (p + 8 * k + 4)) in
    let more : suc k ≡ k + 1 = omega arith in
    subst (λ (j : ℕ). NamesOnly b p j numbers) more
    (subst (All P) (sym (pairs_more b p k)) (All-append P (pairs_at b p k) (last ∷ []) h (All-cons P last [] (subst (Contains numbers) is c) (All-nil P))))

-- each pair names one
pub names_each : (b : List ℕ) (p n k : ℕ) (numbers : List ℕ) → k < n → NamesOnly b p n numbers → Contains numbers (uint_at b (p + 8 * k))
names_each b p zero k numbers lt h = absurd (omega arith)
names_each b p (suc n) zero numbers lt h =
    let place : p ≡ p + 8 * zero = omega arith in
    subst (λ (x : ℕ). Contains numbers (uint_at b x)) place (All-head (λ (x : ℕ × ℕ). Contains numbers x.0) (uint_at b p, uint_at b (p + 4)) (pairs_at b (p + 8) n) h)
names_each b p (suc n) (suc k) numbers lt h =
    let place : p + 8 + 8 * k ≡ p + 8 * suc k = omega arith in
    subst (λ (x : ℕ). Contains numbers (uint_at b x)) place (names_each b (p + 8) n k numbers (omega arith) (All-tail (λ (x : ℕ × ℕ). Contains numbers x.0) (uint_at b p, uint_at b (p + 4)) (pairs_at b (p + 8) n) h))

-- what is named from a place on, by another word for the place
pub names_moved : (b : List ℕ) (at at' n n' : ℕ) (ns ns' : List ℕ) → at ≡ at' → n ≡ n' → ns ≡ ns' → NamesOnly b at n ns → NamesOnly b at' n' ns'
names_moved b at at' n n' ns ns' p q r h = subst (λ (l : List ℕ). NamesOnly b at' n' l) r (subst (λ (k : ℕ). NamesOnly b at' k ns) q (subst (λ (o : ℕ). NamesOnly b o n ns) p h))
