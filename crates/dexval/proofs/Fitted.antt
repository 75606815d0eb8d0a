-- A property of all members, one member at a time.
use Rattle.dexval.proofs.Common.{◌≡◌, ℕ, ◌+◌, ◌<◌, ◌≤◌, List, [], ◌∷◌, length, take, get_or, sym, subst, All, take_more, take_all, All-nil, All-cons, All-append}

-- one more member
pub all_more : {X : Type 0} (P : X → Type 0) (xs : List X) (i : ℕ) (d : X) → i < length xs → d ≡ get_or xs i d → All P (take i xs) → P d → All P (take (i + 1) xs)
all_more P xs i d lt e before here = subst (All P) (sym (take_more xs i d lt)) (All-append P (take i xs) (get_or xs i d ∷ []) before (All-cons P (get_or xs i d) [] (subst P e here) (All-nil P)))

-- all of them
pub all_end : {X : Type 0} (P : X → Type 0) (xs : List X) (i : ℕ) → length xs ≤ i → All P (take i xs) → All P xs
all_end P xs i end h = subst (All P) (take_all i xs end) h
