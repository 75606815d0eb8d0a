-- Texts come in the order of their bytes, with 0xc0 first.
use Rattle.dexstr.proofs.Common.{◌≡◌, ◌≢◌, ℕ, zero, suc, ◌+◌, ◌/◌, ◌%◌, ◌^◌, ◌<◌, List, [], ◌∷◌, ◌++◌, ◌⊎◌, inl, inr, refl, sym, ap, ◌∙◌, length, take, drop, min, true, false, Bool, Option, Some, None, subst, arith, cases_lt, cases_order, lt-ltb, le-ltb, eq-eqb, ne_eqb, nat_tests, append-nil, take-append-drop, slice_cmp, form, spelling, AreUnits, text_cmp, Shape, One, Two, Three, shape_of, units_of, IsSpelling, place_of, byte_cmp}
use Rattle.std.proofs.lemmas.List.{length-take-le}
use Rattle.std.specs.Bool.{then_some}
use Rattle.std.specs.Int.{from_le_bytes, w64}
use Rattle.std.specs.Ordering.{nat_cmp}
use Rattle.std.specs.Prelude.{slice_index}
use Rattle.std.specs.declared.cmp.Ordering.TheVariants.{Less, Equal, Greater}

-- ---- numbers

pub nat_cmp-less : (a b : ℕ) → a < b → nat_cmp a b ≡ Less
nat_cmp-less a b lt = rw (lt-ltb a b lt) refl

pub nat_cmp-same : (a : ℕ) → nat_cmp a a ≡ Equal
nat_cmp-same a = rw (le-ltb a a (omega arith), eq-eqb a a refl) refl

pub nat_cmp-greater : (a b : ℕ) → b < a → nat_cmp a b ≡ Greater
nat_cmp-greater a b lt = rw (le-ltb a b (omega arith), ne_eqb a b (omega arith)) refl

nat_cmp-suc : (a b : ℕ) → nat_cmp (suc a) (suc b) ≡ nat_cmp a b
nat_cmp-suc a b = elim (cases_order a b) [
  | inl same ↦ rw (same, nat_cmp-same (suc b), nat_cmp-same b) refl
  | inr (inl lt) ↦ nat_cmp-less (suc a) (suc b) (omega arith) ∙ sym (nat_cmp-less a b lt)
  | inr (inr lt) ↦ nat_cmp-greater (suc a) (suc b) (omega arith) ∙ sym (nat_cmp-greater a b lt)
]

place_other : (b : ℕ) → b ≢ 0xc0 → place_of b ≡ b + 1
place_other b other = rw (ne_eqb b 0xc0 other) refl

-- ---- bytes, up to the first that differ

-- the first bytes that differ put these before those
abbrev Precedes : List ℕ → List ℕ → Type 0
Precedes (a ∷ p) (b ∷ q) = (place_of a < place_of b) ⊎ ((a ≡ b) × Precedes p q)
Precedes _ _ = ⊥

cmp_less : (p q x y : List ℕ) → Precedes p q → slice_cmp byte_cmp (p ++ x) (q ++ y) ≡ Less
cmp_less (a ∷ p) (b ∷ q) x y (inl lt) = rw (nat_cmp-less (place_of a) (place_of b) lt) refl
cmp_less (a ∷ p) (b ∷ q) x y (inr same) = rw (same.0, nat_cmp-same (place_of b)) (cmp_less p q x y same.1)
cmp_less _ _ x y before = absurd before

cmp_greater : (p q x y : List ℕ) → Precedes p q → slice_cmp byte_cmp (q ++ y) (p ++ x) ≡ Greater
cmp_greater (a ∷ p) (b ∷ q) x y (inl lt) = rw (nat_cmp-greater (place_of b) (place_of a) lt) refl
cmp_greater (a ∷ p) (b ∷ q) x y (inr same) = rw (same.0, nat_cmp-same (place_of b)) (cmp_greater p q x y same.1)
cmp_greater _ _ x y before = absurd before

cmp_same_prefix : (p x y : List ℕ) → slice_cmp byte_cmp (p ++ x) (p ++ y) ≡ slice_cmp byte_cmp x y
cmp_same_prefix [] x y = refl
cmp_same_prefix (a ∷ p) x y = rw (nat_cmp-same (place_of a)) (cmp_same_prefix p x y)

-- ---- units

pub place_below : (a b : ℕ) → a < b → b ≢ 0xc0 → place_of a < place_of b
place_below a b lt other = grind (arith, nat_tests)

pub zero_below : (b : ℕ) → b ≢ 0xc0 → place_of 0xc0 < place_of b
zero_below b other = rw (place_other b other) (omega arith)

-- a lesser unit's spelling comes first
precedes' : (u v : ℕ) (p q : List ℕ) → u < v → Shape p u [] → Shape q v [] → Precedes p q
precedes' u v p q lt (One some small e) (One some' small' f) = rw (e, f) (inl (place_below u v lt (omega arith)))
precedes' u v p q lt (One some small e) (Two which small' f) = rw (e, f) (inl (place_below u (0xc0 + v / 64) (omega arith) (omega arith)))
precedes' u v p q lt (One some small e) (Three large small' f) = rw (e, f) (inl (place_below u (0xe0 + v / 4096) (omega arith) (omega arith)))
precedes' u v p q lt (Two (inl none) small e) (One some' small' f) = rw (e, f, none) (inl (zero_below v (omega arith)))
precedes' u v p q lt (Two (inr more) small e) (One some' small' f) = absurd (omega arith)
precedes' u v p q lt (Two (inl none) small e) (Two which small' f) = rw (e, f, none) (inl (zero_below (0xc0 + v / 64) (omega arith)))
precedes' u v p q lt (Two (inr more) small e) (Two which small' f) = rw (e, f) (elim (cases_lt (u / 64) (v / 64)) [
  | inl less ↦ inl (place_below (0xc0 + u / 64) (0xc0 + v / 64) (omega arith) (omega arith))
  | inr more ↦ inr (omega arith, inl (place_below (0x80 + u % 64) (0x80 + v % 64) (omega arith) (omega arith)))
])
precedes' u v p q lt (Two which small e) (Three large small' f) = rw (e, f) (inl (place_below (0xc0 + u / 64) (0xe0 + v / 4096) (omega arith) (omega arith)))
precedes' u v p q lt (Three large small e) (One some' small' f) = absurd (omega arith)
precedes' u v p q lt (Three large small e) (Two which small' f) = absurd (omega arith)
precedes' u v p q lt (Three large small e) (Three large' small' f) = rw (e, f) (elim (cases_lt (u / 4096) (v / 4096)) [
  | inl less ↦ inl (place_below (0xe0 + u / 4096) (0xe0 + v / 4096) (omega arith) (omega arith))
  | inr more ↦ inr (
    omega arith,
    elim (cases_lt (u / 64 % 64) (v / 64 % 64)) [
      | inl less ↦ inl (place_below (0x80 + u / 64 % 64) (0x80 + v / 64 % 64) (omega arith) (omega arith))
      | inr more' ↦ inr (omega arith, inl (place_below (0x80 + u % 64) (0x80 + v % 64) (omega arith) (omega arith)))
    ],
  )
])

precedes : (u v : ℕ) → u < v → v < 2 ^ 16 → Precedes (form u) (form v)
precedes u v lt small = precedes' u v (form u) (form v) lt (rw (append-nil (form u)) at (shape_of u [] (omega arith))) (rw (append-nil (form v)) at (shape_of v [] small))

some_left : (bytes : List ℕ) (u : ℕ) (rest : List ℕ) → Shape bytes u rest → slice_cmp byte_cmp bytes [] ≡ Greater
some_left bytes u rest (One some small e) = rw e refl
some_left bytes u rest (Two which small e) = rw e refl
some_left bytes u rest (Three large small e) = rw e refl

some_right : (bytes : List ℕ) (u : ℕ) (rest : List ℕ) → Shape bytes u rest → slice_cmp byte_cmp [] bytes ≡ Less
some_right bytes u rest (One some small e) = rw e refl
some_right bytes u rest (Two which small e) = rw e refl
some_right bytes u rest (Three large small e) = rw e refl

-- spelled texts compare as the texts do
pub text_cmp-spelling : (s t : List ℕ) → AreUnits s → AreUnits t → slice_cmp byte_cmp (spelling s) (spelling t) ≡ text_cmp s t
text_cmp-spelling [] [] a b = refl
text_cmp-spelling [] (v ∷ t) a b = some_right (form v ++ spelling t) v (spelling t) (shape_of v (spelling t) (b 0 0 (omega arith)))
text_cmp-spelling (u ∷ s) [] a b = some_left (form u ++ spelling s) u (spelling s) (shape_of u (spelling s) (a 0 0 (omega arith)))
text_cmp-spelling (u ∷ s) (v ∷ t) a b = elim (cases_order u v) [
  | inl same ↦ rw (same, nat_cmp-same v, cmp_same_prefix (form v) (spelling s) (spelling t)) (text_cmp-spelling s t (λ k d lt. a (suc k) d (omega arith)) (λ k d lt. b (suc k) d (omega arith)))
  | inr (inl lt) ↦ rw (nat_cmp-less u v lt) (cmp_less (form u) (form v) (spelling s) (spelling t) (precedes u v lt (b 0 0 (omega arith))))
  | inr (inr lt) ↦ rw (nat_cmp-greater u v lt) (cmp_greater (form v) (form u) (spelling t) (spelling s) (precedes v u lt (a 0 0 (omega arith))))
]

-- ---- the loops

-- eight bytes of one number are the same bytes
same_eight : (xs ys : List ℕ) → length xs ≡ 8 → length ys ≡ 8 → ((i : ℕ) → slice_index xs i < 256) → ((i : ℕ) → slice_index ys i < 256) → from_le_bytes w64 xs ≡ from_le_bytes w64 ys → xs ≡ ys
same_eight (a ∷ b ∷ c ∷ d ∷ e ∷ f ∷ g ∷ h ∷ []) (s ∷ t ∷ u ∷ v ∷ w ∷ x ∷ y ∷ z ∷ []) _ _ small small' same =
    let eighth : h ≡ z = omega (arith, same, small 0, small 1, small 2, small 3, small 4, small 5, small 6, small 7, small' 0, small' 1, small' 2, small' 3, small' 4, small' 5, small' 6, small' 7) in
    let seventh : g ≡ y = omega (arith, same, eighth, small 0, small 1, small 2, small 3, small 4, small 5, small 6, small' 0, small' 1, small' 2, small' 3, small' 4, small' 5, small' 6) in
    let sixth : f ≡ x = omega (arith, same, eighth, seventh, small 0, small 1, small 2, small 3, small 4, small 5, small' 0, small' 1, small' 2, small' 3, small' 4, small' 5) in
    let fifth : e ≡ w = omega (arith, same, eighth, seventh, sixth, small 0, small 1, small 2, small 3, small 4, small' 0, small' 1, small' 2, small' 3, small' 4) in
    let fourth : d ≡ v = omega (arith, same, eighth, seventh, sixth, fifth, small 0, small 1, small 2, small 3, small' 0, small' 1, small' 2, small' 3) in
    let third : c ≡ u = omega (arith, same, eighth, seventh, sixth, fifth, fourth, small 0, small 1, small 2, small' 0, small' 1, small' 2) in
    let second : b ≡ t = omega (arith, same, eighth, seventh, sixth, fifth, fourth, third, small 0, small 1, small' 0, small' 1) in
    let first : a ≡ s = omega (arith, same, eighth, seventh, sixth, fifth, fourth, third, second) in
    rw (first, second, third, fourth, fifth, sixth, seventh, eighth) refl
same_eight _ _ count count' _ _ _ = absurd (omega (arith, count, count'))

taken_small : (n : ℕ) (a : List ℕ) → ((i : ℕ) → slice_index a i < 256) → (i : ℕ) → slice_index (take n a) i < 256
taken_small zero a small i = omega arith
taken_small (suc n) [] small i = omega arith
taken_small (suc n) (x ∷ a) small zero = small 0
taken_small (suc n) (x ∷ a) small (suc i) = taken_small n a (λ k. small (suc k)) i

-- texts that begin with the same bytes compare as what is after these
pub after_group : (a b group x other y : List ℕ) → ((group ≡ take 8 a) × (x ≡ drop 8 a) × (length x + 8 ≡ length a)) → ((other ≡ take 8 b) × (y ≡ drop 8 b) × (length y + 8 ≡ length b)) → ((i : ℕ) → slice_index a i < 256) → ((i : ℕ) → slice_index b i < 256) → from_le_bytes w64 group ≡ from_le_bytes w64 other → slice_cmp byte_cmp x y ≡ slice_cmp byte_cmp a b
after_group a b group x other y (group_is, x_is, long) (other_is, y_is, long') small small' same =
    let numbers = ap (from_le_bytes w64) (sym group_is) ∙ same ∙ ap (from_le_bytes w64) other_is in
    let firsts : take 8 a ≡ take 8 b = same_eight (take 8 a) (take 8 b) (length-take-le 8 a (omega (arith, long))) (length-take-le 8 b (omega (arith, long'))) (taken_small 8 a small) (taken_small 8 b small') numbers in
    let left : take 8 b ++ x ≡ a = (λ i. sym firsts i ++ x_is i) ∙ take-append-drop 8 a in
    let right : take 8 b ++ y ≡ b = (λ i. take 8 b ++ y_is i) ∙ take-append-drop 8 b in
    sym (cmp_same_prefix (take 8 b) x y) ∙ (λ i. slice_cmp byte_cmp (left i) (right i))

-- bytes of which none is left on one side compare as the lengths do
pub ended : (a b : List ℕ) (i : ℕ) → i ≡ min (length a) (length b) → nat_cmp (length a) (length b) ≡ slice_cmp byte_cmp (drop i a) (drop i b)
ended [] [] i e = let none : i ≡ 0 = omega arith in rw none refl
ended [] (y ∷ b) i e = let none : i ≡ 0 = omega arith in rw none (nat_cmp-less 0 (suc (length b)) (omega arith))
ended (x ∷ a) [] i e = let none : i ≡ 0 = omega arith in rw none (nat_cmp-greater (suc (length a)) 0 (omega arith))
ended (x ∷ a) (y ∷ b) zero e = absurd (omega arith)
ended (x ∷ a) (y ∷ b) (suc i) e = nat_cmp-suc (length a) (length b) ∙ ended a b i (omega arith)

-- what the loop answers of two texts is their order
pub text_order : (a b s t : List ℕ) → IsSpelling a → IsSpelling b → units_of a ≡ s → units_of b ≡ t → slice_cmp byte_cmp a b ≡ text_cmp s t
text_order a b s t of_a of_b is_s is_t =
    let left : spelling s ≡ a = rw (← is_s) of_a.parts in
    let right : spelling t ≡ b = rw (← is_t) of_b.parts in
    rw (← left, ← right) (text_cmp-spelling s t (rw is_s at of_a.units) (rw is_t at of_b.units))

-- what holds of a value that a test lets through, and of none
pub by_test : {X : Type 0} (P : Option X → Type 0) (x : X) (test : Bool) (r : Option X) → r ≡ then_some test x → (test ≡ true → P (Some x)) → (test ≡ false → P None) → P r
by_test P x true r e right wrong = subst P (sym e) (right refl)
by_test P x false r e right wrong = subst P (sym e) (wrong refl)
