-- The first place in a list at which a test passes.
use Rattle.dexspec.proofs.Common.{◌≡◌, ◌<◌, Bool, true, false, cond, not, ◌||◌, List, [], ◌∷◌, ◌++◌, length, get_or, map, suc, ◌+◌, refl, sym, ap, ◌∙◌, arith, inl, inr, Contains, list_any, position_or_len, cases_lt, fails_before_first}
use Rattle.dexspec.proofs.lists.Members.{Contains-first, Contains-later}

-- ---- some member passes

-- the first that passes is before the end
pub position_within : {X : Type 0} (p : X → Bool) (xs : List X) (x : X) → Contains xs x → p x ≡ true → position_or_len p xs < length xs
position_within p xs x c passes = elim (cases_lt (position_or_len p xs) (length xs)) [
  | inl lt ↦ lt
  | inr ge ↦
      let no : p (get_or xs c.0 x) ≡ false = fails_before_first p xs c.0 x (omega (arith, ge, c.1)) in
      let e : true ≡ false = sym passes ∙ ap p (sym c.2) ∙ no in
      absurd cc
]

-- ---- one member more

skip : {X : Type 0} (p : X → Bool) (x : X) (xs : List X) → p x ≡ false → position_or_len p (x ∷ xs) ≡ suc (position_or_len p xs)
skip p x xs e = rw e (omega arith)

stop : {X : Type 0} (p : X → Bool) (x : X) (xs : List X) → p x ≡ true → position_or_len p (x ∷ xs) ≡ 0
stop p x xs e = rw e refl

none_first : {X : Type 0} (p : X → Bool) (x : X) (xs : List X) → p x ≡ true → list_any p (x ∷ xs) ≡ false → ⊥
none_first p x xs e none = let both : true ≡ false = ap (λ t. t || list_any p xs) (sym e) ∙ none in absurd cc

none_rest : {X : Type 0} (p : X → Bool) (x : X) (xs : List X) → p x ≡ false → list_any p (x ∷ xs) ≡ list_any p xs
none_rest p x xs e = ap (λ t. t || list_any p xs) e

-- ---- more members after

-- the first that passes stays at its place
pub position_stays : {X : Type 0} (p : X → Bool) (xs ys : List X) → position_or_len p xs < length xs → position_or_len p (xs ++ ys) ≡ position_or_len p xs
position_stays p [] ys lt = absurd (omega (arith, lt))
position_stays p (x ∷ xs) ys lt = by (p x) refl (position_stays p xs ys)
  where
    by : (b : Bool) → p x ≡ b → (position_or_len p xs < length xs → position_or_len p (xs ++ ys) ≡ position_or_len p xs) → position_or_len p (x ∷ (xs ++ ys)) ≡ position_or_len p (x ∷ xs)
    by true e rest = stop p x (xs ++ ys) e ∙ sym (stop p x xs e)
    by false e rest = skip p x (xs ++ ys) e ∙ ap suc (rest (omega (arith, lt, skip p x xs e))) ∙ sym (skip p x xs e)

-- if none passes, the place is the length
pub position_none : {X : Type 0} (p : X → Bool) (xs : List X) → list_any p xs ≡ false → position_or_len p xs ≡ length xs
position_none p [] none = refl
position_none p (x ∷ xs) none = by (p x) refl (position_none p xs)
  where
    by : (b : Bool) → p x ≡ b → (list_any p xs ≡ false → position_or_len p xs ≡ length xs) → position_or_len p (x ∷ xs) ≡ suc (length xs)
    by true e rest = absurd (none_first p x xs e none)
    by false e rest = skip p x xs e ∙ ap suc (rest (sym (none_rest p x xs e) ∙ none))

-- the first member that passes, after others that do not, is at their number
pub position_last : {X : Type 0} (p : X → Bool) (xs : List X) (y : X) → list_any p xs ≡ false → p y ≡ true → position_or_len p (xs ++ y ∷ []) ≡ length xs
position_last p [] y none passes = stop p y [] passes
position_last p (x ∷ xs) y none passes = by (p x) refl (λ n. position_last p xs y n passes)
  where
    by : (b : Bool) → p x ≡ b → (list_any p xs ≡ false → position_or_len p (xs ++ y ∷ []) ≡ length xs) → position_or_len p (x ∷ (xs ++ y ∷ [])) ≡ suc (length xs)
    by true e rest = absurd (none_first p x xs e none)
    by false e rest = skip p x (xs ++ y ∷ []) e ∙ ap suc (rest (sym (none_rest p x xs e) ∙ none))

-- ---- tests that agree, and mapped lists

-- on the members
pub position_agrees : {X : Type 0} (p q : X → Bool) (xs : List X) → ((x : X) → Contains xs x → p x ≡ q x) → position_or_len p xs ≡ position_or_len q xs
position_agrees p q [] e = refl
position_agrees p q (x ∷ xs) e =
    ap (λ b. cond (not b) (1 + position_or_len p xs) 0) (e x (Contains-first x xs))
    ∙ ap (λ n. cond (not (q x)) (1 + n) 0) (position_agrees p q xs (λ y c. e y (Contains-later x y xs c)))

-- on all values
pub position_equal : {X : Type 0} (p q : X → Bool) → ((x : X) → p x ≡ q x) → (xs : List X) → position_or_len p xs ≡ position_or_len q xs
position_equal p q e xs = position_agrees p q xs (λ x c. e x)

pub any_equal : {X : Type 0} (p q : X → Bool) → ((x : X) → p x ≡ q x) → (xs : List X) → list_any p xs ≡ list_any q xs
any_equal p q e [] = refl
any_equal p q e (x ∷ xs) = ap (λ b. b || list_any p xs) (e x) ∙ ap (λ b. q x || b) (any_equal p q e xs)

pub position_mapped : {K X : Type 0} (f : K → X) (p : X → Bool) (ks : List K) → position_or_len p (map f ks) ≡ position_or_len (λ k. p (f k)) ks
position_mapped f p [] = refl
position_mapped f p (k ∷ ks) = ap (λ n. cond (not (p (f k))) (1 + n) 0) (position_mapped f p ks)
