-- What holds of all members of joined lists.
use Rattle.dexpool.proofs.Common.{List, [], ◌∷◌, ◌++◌, map, All, flat_map, All-nil, All-cons, All-head, All-tail, All-map, All-weaker}

pub all_prefix : {X : Type 0} (P : X → Type 0) (xs ys : List X) → All P (xs ++ ys) → All P xs
all_prefix P [] ys h = All-nil P
all_prefix P (x ∷ xs) ys h = All-cons P x xs (All-head P x (xs ++ ys) h) (all_prefix P xs ys (All-tail P x (xs ++ ys) h))

pub all_back : {X : Type 0} (P : X → Type 0) (xs ys : List X) → All P (xs ++ ys) → All P ys
all_back P [] ys h = h
all_back P (x ∷ xs) ys h = all_back P xs ys (All-tail P x (xs ++ ys) h)

-- what holds of all that members give holds of what each gives
pub all_parts : {X Y : Type 0} (P : Y → Type 0) (f : X → List Y) (xs : List X) → All P (flat_map f xs) → All (λ x. All P (f x)) xs
all_parts P f [] h = All-nil (λ x. All P (f x))
all_parts P f (x ∷ xs) h = All-cons (λ x. All P (f x)) x xs (all_prefix P (f x) (flat_map f xs) h) (all_parts P f xs (all_back P (f x) (flat_map f xs) h))

-- what holds of each member holds of all
pub all_of : {X : Type 0} (P Q : X → Type 0) (xs : List X) → ((x : X) → P x → Q x) → All P xs → All Q xs
all_of P Q xs step h = All-weaker P Q step xs h

pub all_map : {X Y : Type 0} (P : X → Type 0) (Q : Y → Type 0) (f : X → Y) (xs : List X) → ((x : X) → P x → Q (f x)) → All P xs → All Q (map f xs)
all_map P Q f xs step h = All-map Q f xs (All-weaker P (λ x. Q (f x)) step xs h)
