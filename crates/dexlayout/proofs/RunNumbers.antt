-- Numbers that are kept run by run: one run more, and the first number.
use Rattle.std.proofs.Common.{All, Bool, List, Some, [], ap, append_assoc, arith, drop, false, get_or, length, map, refl, subst, sym, take, true, ℕ, ◌+◌, ◌++◌, ◌<◌, ◌∙◌, ◌∷◌, ◌≡◌, ◌≤◌}
use Rattle.std.specs.Prelude.{slice_get, slice_index, if◌then◌else◌}
use Rattle.std.specs.List.{list_any}
use Rattle.std.proofs.lemmas.Grind.{flat_map-append}
use Rattle.std.proofs.lemmas.List.{append-nil, get_or-map, get_or_append_left, length-append, length-map, map-append}
use Rattle.std.proofs.lemmas.List.Elements.{All-append, All-cons, All-head, All-nil, All-tail, All-weaker}
use Rattle.std.proofs.lemmas.Option.{get_or_from_slice_get, slice_get_within}
use Rattle.dexlayout.specs.internal.Runs.{run_numbers, AreRuns}

-- ---- one run more

-- runs are the same where more are kept
runs_stay : (kept more : List (List ℕ)) (runs : List ℕ) → All (λ i. i < length kept) runs → run_numbers (kept ++ more) runs ≡ run_numbers kept runs
runs_stay kept more [] within = refl
runs_stay kept more (i ∷ runs) within =
    let here = get_or_append_left kept more [] i (All-head (λ j. j < length kept) i runs within) in
    let rest = runs_stay kept more runs (All-tail (λ j. j < length kept) i runs within) in
    λ k. here k ++ rest k

-- what is kept grows at its end, and by runs that are not empty
abbrev IsFull : List ℕ → Type 0
IsFull run = 1 ≤ length run

record Grows (kept new : List (List ℕ)) : Type 0 where
  more : List (List ℕ)
  is : new ≡ kept ++ more
  full : All IsFull more

module _ {V : Type 0} (f : V → List ℕ) where
  grows_by : (b : Bool) (ks : List V) (v : V) → 1 ≤ length (f v) → Grows (map f ks) (map f (if b then ks else ks ++ v ∷ []))
  grows_by true ks v some = record { more = []; is = sym (append-nil (map f ks)); full = All-nil IsFull }
  grows_by false ks v some = record { more = f v ∷ []; is = map-append f ks (v ∷ []); full = All-cons IsFull (f v) [] some (All-nil IsFull) }

  module _ (eq : V → V → Bool) (same : (x y : V) → eq x y ≡ true → f x ≡ f y) (ks new : List V) (runs numbers : List ℕ) (i : ℕ) (v : V) (are : AreRuns (map f ks) runs) (is : f v ≡ numbers) (some : (length numbers ≡ 0 → ⊥)) (keys : new ≡ (if list_any (eq v) ks then ks else ks ++ v ∷ []))
      (stored : (k : V) × (slice_get new i ≡ Some k) × (eq v k ≡ true)) where
    grows : Grows (map f ks) (map f new)
    grows = subst (λ l. Grows (map f ks) (map f l)) (sym keys) (grows_by (list_any (eq v) ks) ks v (omega (arith, some, ap (λ (l : List ℕ). length l) is)))

    -- the run that was added
    added_is : get_or (map f new) i [] ≡ numbers
    added_is = get_or-map f new i stored.0 [] (slice_get_within new i stored.0 stored.1) ∙ ap f (get_or_from_slice_get new i stored.0 stored.0 stored.1) ∙ sym (same v stored.0 stored.2) ∙ is

    pub run_added : run_numbers (map f new) (runs ++ i ∷ []) ≡ run_numbers (map f ks) runs ++ numbers
    run_added =
        flat_map-append (λ j. get_or (map f new) j []) runs (i ∷ []) ∙ ap (λ l. run_numbers (map f new) runs ++ l) (append-nil (get_or (map f new) i []) ∙ added_is)
        ∙ ap (λ l. l ++ numbers) (ap (λ l. run_numbers l runs) grows.is ∙ runs_stay (map f ks) grows.more runs are.within)

    pub runs_are : AreRuns (map f new) (runs ++ i ∷ [])
    runs_are =
        let Was : ℕ → Type 0 = λ j. j < length (map f ks) in
        let Is : ℕ → Type 0 = λ j. j < length (map f new) in
        let count : length (map f new) ≡ length (map f ks) + length grows.more = ap (λ (l : List (List ℕ)). length l) grows.is ∙ length-append (map f ks) grows.more in
        let weaker : (j : ℕ) → Was j → Is j = λ j lt. omega (arith, lt, count) in
        let last : Is i = omega (arith, slice_get_within new i stored.0 stored.1, length-map new f) in
        record {
          within = All-append Is runs (i ∷ []) (All-weaker Was Is weaker runs are.within) (All-cons Is i [] last (All-nil Is));
          full = subst (All IsFull) (sym grows.is) (All-append IsFull (map f ks) grows.more are.full grows.full);
        }

-- ---- the first number

-- of numbers that are followed by more
first_joined : (xs ys : List ℕ) → 1 ≤ length xs → slice_index (xs ++ ys) 0 ≡ slice_index xs 0
first_joined [] ys some = absurd (omega (arith, some))
first_joined (x ∷ xs) ys some = refl

-- that of a run is the first of all, where no number is before it
module _ {V : Type 0} (f : V → List ℕ) (ks : List V) (begun : List ℕ) where
  pub first_left : (front runs : List ℕ) (run : V) → length front ≡ 0 → (length runs ≡ 0 → ⊥) → AreRuns (map f ks) runs → run ≡ get_or ks (get_or (take 1 runs) 0 0) run → slice_index (f run) 0 ≡ slice_index (front ++ (run_numbers (map f ks) runs ++ begun)) 0
  first_left [] [] run none some are is = absurd (some refl)
  first_left [] (i ∷ runs) run none some are is =
      let lt : i < length (map f ks) = All-head (λ j. j < length (map f ks)) i runs are.within in
      let here : get_or (map f ks) i [] ≡ f run = get_or-map f ks i run [] (omega (arith, lt, length-map ks f)) ∙ ap f (sym is) in
      let full : 1 ≤ length (f run) = omega (arith, are.full i [] lt, ap (λ (l : List ℕ). length l) here) in
      sym (ap (λ l. slice_index ((l ++ run_numbers (map f ks) runs) ++ begun) 0) here ∙ ap (λ l. slice_index l 0) (append_assoc (f run) (run_numbers (map f ks) runs) begun) ∙ first_joined (f run) (run_numbers (map f ks) runs ++ begun) full)
  first_left (x ∷ front) runs run none some are is = absurd (omega (arith, none))

-- what holds of the items of all numbers holds of those without the first
pub others_hold : {Y : Type 0} (P : Y → Type 0) (f : ℕ → Y) (xs : List ℕ) → All P (map f xs) → All P (map f (drop 1 xs))
others_hold P f [] h = h
others_hold P f (x ∷ xs) h = All-tail P (f x) (map f xs) h
