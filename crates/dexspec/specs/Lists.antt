-- Lists in order, ranks, lists cut into parts, and items in sequence. Terms of this project.
use Rattle.std.specs.Prelude.{◌≡◌, ◌≢◌, ◌⊎◌, ℕ, ◌+◌, Bool, true, ◌&&◌, not, List, [], ◌∷◌, take, drop, Option, Some}
use Rattle.std.specs.Prelude.{None, option_to_list, count_by}
use Rattle.std.specs.List.{AllPairs, filter, flat_map}
use Rattle.std.specs.Ordering.{is_lt}
use Rattle.std.specs.declared.cmp.Ordering.{Ordering}
use Rattle.std.specs.FinMap.Entries.{by_order}

-- the list rises strictly
abbrev pub rises : {X : Type 0} → (X → X → Ordering) → List X → Bool
rises R (x ∷ y ∷ ys) = is_lt (R x y) && rises R (y ∷ ys)
rises R _ = true

-- the list with one more member at its place, unless it is a member already
abbrev pub add_in_order : {X : Type 0} → (X → X → Ordering) → X → List X → List X
add_in_order R k [] = k ∷ []
add_in_order R k (x ∷ xs) = by_order (R k x) (k ∷ x ∷ xs) (x ∷ xs) (x ∷ add_in_order R k xs)

-- the members of a list, each once, in order
abbrev pub in_order : {X : Type 0} → (X → X → Ordering) → List X → List X
in_order R [] = []
in_order R (k ∷ ks) = add_in_order R k (in_order R ks)

-- the number of lesser members
abbrev pub rank : {X : Type 0} → (X → X → Ordering) → X → List X → ℕ
rank R s xs = count_by (λ t. is_lt (R t s)) xs

-- no two places have the same value
abbrev pub AreDistinct : {X : Type 0} → List X → Type 0
AreDistinct xs = AllPairs (λ x y. x ≢ y) xs

-- the list cut into parts of these lengths, from its start
abbrev pub chunks : {X : Type 0} → List ℕ → List X → List (List X)
chunks [] xs = []
chunks (n ∷ ns) xs = take n xs ∷ chunks ns (drop n xs)

-- the members of two lists combined in pairs by a function
abbrev pub zip_with : {X Y Z : Type 0} → (X → Y → Z) → List X → List Y → List Z
zip_with f (x ∷ xs) (y ∷ ys) = f x y ∷ zip_with f xs ys
zip_with f _ _ = []

-- the values that are present
abbrev pub present : {X : Type 0} → List (Option X) → List X
present os = flat_map option_to_list os

-- nothing for offset 0, and otherwise the item at the offset
abbrev pub OrNone : {X : Type 0} → (List ℕ → ℕ → X → Type 0) → X → List ℕ → ℕ → X → Type 0
OrNone At none b o x = ((o ≡ 0) × (x ≡ none)) ⊎ ((o ≢ 0) × At b o x)

-- the value of an option is present, and is at the offset
abbrev pub SomeAt : {X : Type 0} → (List ℕ → ℕ → X → Type 0) → List ℕ → ℕ → Option X → Type 0
SomeAt At b o None = ⊥
SomeAt At b o (Some x) = At b o x

-- both are absent, or both are present and related
abbrev pub BothOrNone : {X Y : Type 0} → (X → Y → Type 0) → Option X → Option Y → Type 0
BothOrNone R None None = Unit {0}
BothOrNone R (Some x) (Some y) = R x y
BothOrNone R _ _ = ⊥

-- the members in order of first use, each once
abbrev pub distinct : {X : Type 0} → (X → X → Bool) → List X → List X
distinct same [] = []
distinct same (x ∷ xs) = x ∷ filter (λ y. not (same x y)) (distinct same xs)

-- A kind of item, as `Sequence` takes it: x is at offset o of b, in n bytes.
abbrev pub Item : Type 0 → Type 1
Item X = List ℕ → ℕ → X → ℕ → Type 0

-- the items are in sequence from offset o on, in n bytes together
abbrev pub Sequence : {X : Type 0} → Item X → List ℕ → ℕ → List X → ℕ → Type 0
Sequence At b o [] n = n ≡ 0
Sequence At b o (x ∷ xs) n = (k m : ℕ) × At b o x k × Sequence At b (o + k) xs m × (n ≡ k + m)
