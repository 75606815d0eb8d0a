-- What a cut leaves: each kept row is a row, and has its place.
use Rattle.dexpool.proofs.Common.{◌≡◌, ℕ, zero, suc, ◌+◌, ◌<◌, ◌≤◌, Bool, true, false, List, [], ◌∷◌, length, get_or, refl, ap, arith, inl, inr, Option, Some, AreAmong, Contains-nil, Contains-later, Contains-cons_cases, kept, places}

-- a kept row is a row
pub kept_among : {R : Type 0} (marks : List Bool) (rows : List R) → AreAmong (kept marks rows) rows
kept_among (true ∷ marks) (row ∷ rows) x c = elim (Contains-cons_cases row x (kept marks rows) c) [
  | inl e ↦ (0, omega arith, e)
  | inr later ↦ Contains-later row x rows (kept_among marks rows x later)
]
kept_among (false ∷ marks) (row ∷ rows) x c = Contains-later row x rows (kept_among marks rows x c)
kept_among _ _ x c = absurd (Contains-nil x c)

-- ---- places

pub length_places : (n : ℕ) (marks : List Bool) → length (places n marks) ≡ length marks
length_places n [] = refl
length_places n (true ∷ marks) = ap suc (length_places (suc n) marks)
length_places n (false ∷ marks) = ap suc (length_places n marks)

-- the row of a place is at that place among the kept rows, where n are before them
pub record IsKeptAt {R : Type 0} (marks : List Bool) (rows : List R) (i n place : ℕ) : Type 0 where
  pub among : ℕ
  pub place_is : place ≡ n + among
  pub marked : (d : Bool) → get_or marks i d ≡ true
  pub within : among < length (kept marks rows)
  pub same : (d : R) → get_or (kept marks rows) among d ≡ get_or rows i d

some_same : (m n : ℕ) → Some m ≡ Some n → m ≡ n
some_same m n e = cc

is_at_later : {R : Type 0} (mark : Bool) (marks : List Bool) (row : R) (rows : List R) (i n m place : ℕ) → (mark ≡ true → m ≡ n + 1) → (mark ≡ false → m ≡ n) → IsKeptAt marks rows i m place → IsKeptAt (mark ∷ marks) (row ∷ rows) (suc i) n place
is_at_later true marks row rows i n m place up same h = record {
  among = suc h.among;
  place_is = omega (arith, h.place_is, up refl);
  marked = h.marked;
  within = omega (arith, h.within);
  same = h.same;
}
is_at_later false marks row rows i n m place up same h = record {
  among = h.among;
  place_is = omega (arith, h.place_is, same refl);
  marked = h.marked;
  within = h.within;
  same = h.same;
}

pub is_at : {R : Type 0} (marks : List Bool) (rows : List R) (i n place : ℕ) (o : Option ℕ) → length marks ≡ length rows → i < length marks → get_or (places n marks) i o ≡ Some place → IsKeptAt marks rows i n place
is_at (true ∷ marks) (row ∷ rows) zero n place o e lt is = record {
  among = 0;
  place_is = omega (arith, some_same n place is);
  marked = λ d. refl;
  within = omega arith;
  same = λ d. refl;
}
is_at (true ∷ marks) (row ∷ rows) (suc i) n place o e lt is = is_at_later true marks row rows i n (suc n) place (λ t. omega arith) (λ f. absurd cc) (is_at marks rows i (suc n) place o (omega arith) (omega arith) is)
is_at (false ∷ marks) (row ∷ rows) zero n place o e lt is = absurd cc
is_at (false ∷ marks) (row ∷ rows) (suc i) n place o e lt is = is_at_later false marks row rows i n n place (λ t. absurd cc) (λ f. refl) (is_at marks rows i n place o (omega arith) (omega arith) is)
is_at _ _ i n place o e lt is = absurd (omega arith)

-- a marked row has a place
pub marked_has : (marks : List Bool) (i n : ℕ) (d : Bool) (o : Option ℕ) → i < length marks → get_or marks i d ≡ true → (place : ℕ) × (get_or (places n marks) i o ≡ Some place)
marked_has [] i n d o lt marked = absurd (omega arith)
marked_has (true ∷ marks) zero n d o lt marked = (n, refl)
marked_has (true ∷ marks) (suc i) n d o lt marked = marked_has marks i (suc n) d o (omega arith) marked
marked_has (false ∷ marks) zero n d o lt marked = absurd cc
marked_has (false ∷ marks) (suc i) n d o lt marked = marked_has marks i n d o (omega arith) marked

-- no place is less than the number before it
pub places_from : (marks : List Bool) (i n place : ℕ) (o : Option ℕ) → i < length marks → get_or (places n marks) i o ≡ Some place → n ≤ place
places_from [] i n place o lt is = absurd (omega arith)
places_from (true ∷ marks) zero n place o lt is = omega (arith, some_same n place is)
places_from (true ∷ marks) (suc i) n place o lt is = omega (arith, places_from marks i (suc n) place o (omega arith) is)
places_from (false ∷ marks) zero n place o lt is = absurd cc
places_from (false ∷ marks) (suc i) n place o lt is = places_from marks i n place o (omega arith) is

-- places rise
pub places_rise : (marks : List Bool) (i j n place later : ℕ) (o : Option ℕ) → i < j → j < length marks → get_or (places n marks) i o ≡ Some place → get_or (places n marks) j o ≡ Some later → place < later
places_rise (true ∷ marks) zero (suc j) n place later o less lt is also = omega (arith, some_same n place is, places_from marks j (suc n) later o (omega arith) also)
places_rise (false ∷ marks) zero (suc j) n place later o less lt is also = absurd cc
places_rise (true ∷ marks) (suc i) (suc j) n place later o less lt is also = places_rise marks i j (suc n) place later o (omega arith) (omega arith) is also
places_rise (false ∷ marks) (suc i) (suc j) n place later o less lt is also = places_rise marks i j n place later o (omega arith) (omega arith) is also
places_rise _ i _ n place later o less lt is also = absurd (omega arith)
