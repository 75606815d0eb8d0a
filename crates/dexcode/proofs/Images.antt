-- Items that are images of others: their offsets are those of the others, and the distinct ones are images of the
-- distinct others.
use Rattle.dexcode.proofs.Common.{◌≡◌, ℕ, zero, suc, ◌+◌, ◌<◌, Bool, List, [], ◌∷◌, ◌++◌, length, map, take, drop, get_or, refl, ap, subst, arith, All, length-map, get_or-map, All-nil, All-cons, All-contains, Contains-get_or, Item, Sequence, distinct, distinct_mapped}
use Rattle.dexspec.proofs.lists.Sources.{distinct_source}

-- the images of items are at the offsets of the items
pub seq_map : {X Y : Type 0} (At : Item X) (Bt : Item Y) (f : X → Y) (b : List ℕ) → ((o : ℕ) (x : X) (n : ℕ) → At b o x n → Bt b o (f x) n) → (o : ℕ) (xs : List X) (n : ℕ) → Sequence At b o xs n → Sequence Bt b o (map f xs) n
seq_map At Bt f b each o [] n h = h
seq_map At Bt f b each o (x ∷ xs) n h = (h.0, h.1, each o x h.0 h.2, seq_map At Bt f b each (o + h.0) xs h.1 h.3, h.4)

-- and back
pub seq_back : {X Y : Type 0} (At : Item X) (Bt : Item Y) (f : X → Y) (b : List ℕ) → ((o : ℕ) (y : Y) (n : ℕ) → Bt b o y n → (x : X) × At b o x n × (f x ≡ y)) → (o : ℕ) (ys : List Y) (n : ℕ) → Sequence Bt b o ys n → (xs : List X) × Sequence At b o xs n × (map f xs ≡ ys)
seq_back At Bt f b each o [] n h = ([], h, refl)
seq_back At Bt f b each o (y ∷ ys) n h = let first = each o y h.0 h.2 in let rest = seq_back At Bt f b each (o + h.0) ys h.1 h.3 in (first.0 ∷ rest.0, (h.0, h.1, first.1, rest.1, h.4), λ i. first.2 i ∷ rest.2 i)

-- the first items of a sequence are one
pub seq_take : {X : Type 0} (At : Item X) (b : List ℕ) (o : ℕ) (xs : List X) (n i : ℕ) → Sequence At b o xs n → (k : ℕ) × Sequence At b o (take i xs) k
seq_take At b o xs n zero h = (0, refl)
seq_take At b o [] n (suc i) h = (0, refl)
seq_take At b o (x ∷ xs) n (suc i) h = let rest = seq_take At b (o + h.0) xs h.1 i h.3 in (h.0 + rest.0, (h.0, rest.0, h.2, rest.1, refl))

-- if a property holds of any item of a list at its offset, it holds of all
pub seq_all : {X : Type 0} (At : Item X) (P : X → Type 0) (b : List ℕ) → ((o : ℕ) (x : X) (n : ℕ) → At b o x n → P x) → (o : ℕ) (xs : List X) (n : ℕ) → Sequence At b o xs n → All P xs
seq_all At P b each o [] n h = All-nil P
seq_all At P b each o (x ∷ xs) n h = All-cons P x xs (each o x h.0 h.2) (seq_all At P b each (o + h.0) xs h.1 h.3)

-- a list around a member
pub split_at : {X : Type 0} (xs : List X) (i : ℕ) (d : X) → i < length xs → xs ≡ take i xs ++ get_or xs i d ∷ drop (suc i) xs
split_at [] i d lt = absurd (omega (arith, lt))
split_at (x ∷ xs) zero d lt = refl
split_at (x ∷ xs) (suc i) d lt = ap (λ ys. x ∷ ys) (split_at xs i d (omega (arith, lt)))

-- what holds of the images holds of the members
pub all_back_map : {X Y : Type 0} (P : Y → Type 0) (f : X → Y) (xs : List X) → All P (map f xs) → All (λ x. P (f x)) xs
all_back_map P f xs h = λ k d lt. subst P (get_or-map f xs k d (f d) lt) (h k (f d) (omega (arith, lt, length-map xs f)))

-- what holds of all members holds of the distinct ones
pub all_distinct : {X : Type 0} (P : X → Type 0) (same : X → X → Bool) (xs : List X) → All P xs → All P (distinct same xs)
all_distinct P same xs all = λ k d lt. All-contains P xs (get_or (distinct same xs) k d) all (distinct_source same xs (get_or (distinct same xs) k d) (Contains-get_or (distinct same xs) k d lt))

-- the distinct images are the images of the distinct members
pub distinct_map : {X Y : Type 0} (same : X → X → Bool) (equivalent : Y → Y → Bool) (f : X → Y) (P : X → Type 0) → ((x y : X) → P x → P y → equivalent (f x) (f y) ≡ same x y) → (xs : List X) → All P xs → distinct equivalent (map f xs) ≡ map f (distinct same xs)
distinct_map same equivalent f P agree xs all = distinct_mapped f same equivalent xs (λ x y here there. agree x y (All-contains P xs x all here) (All-contains P xs y all there))
