-- What holds of mapped lists and options, member by member.
use Rattle.dexpool.proofs.Numbers.{all_kept}
use Rattle.dexmembers.proofs.Common.{◌≡◌, List, [], ◌∷◌, get_or, map, Option, Some, None, refl, ap, subst, arith, IfSome, All, option_map, get_or-map, length-map, All-head, All-tail, All-map}

-- two ways of two steps have the same end
pub both_where : {A B C D : Type 0} (f : A → B) (g : B → D) (h : A → C) (k : C → D) (P : A → Type 0) → ((x : A) → P x → g (f x) ≡ k (h x)) → (xs : List A) → All P xs → map g (map f xs) ≡ map k (map h xs)
both_where f g h k P e [] all = refl
both_where f g h k P e (x ∷ xs) all =
    let here = e x (All-head P x xs all) in
    let rest = both_where f g h k P e xs (All-tail P x xs all) in
    λ i. here i ∷ rest i

pub both_ways : {A B C D : Type 0} (f : A → B) (g : B → D) (h : A → C) (k : C → D) → ((x : A) → g (f x) ≡ k (h x)) → (xs : List A) → map g (map f xs) ≡ map k (map h xs)
both_ways f g h k e xs = both_where f g h k (λ x. Unit {0}) (λ x u. e x) xs (λ i d lt. tt)

-- what holds of what members are mapped to
pub all_seen : {X Y : Type 0} (g : X → Y) (P : Y → Type 0) (xs : List X) → All P (map g xs) → All (λ x. P (g x)) xs
all_seen g P xs h = λ k d lt. subst P (get_or-map g xs k d (g d) lt) (h k (g d) (omega (arith, length-map xs g, lt)))

-- what a step gives for each member
pub all_mapped : {X Y : Type 0} (f : X → Y) (P K : X → Type 0) (Q : Y → Type 0) → ((x : X) → P x → K x → Q (f x)) → (xs : List X) → All P xs → All K xs → All Q (map f xs)
all_mapped f P K Q each xs h k = All-map Q f xs (λ i d lt. each (get_or xs i d) (h i d lt) (k i d lt))

-- what holds of what may be there, by parts
pub options_both : {X : Type 0} (P K L : X → Type 0) → ((x : X) → P x → K x → L x) → (o : Option X) → IfSome o P → IfSome o K → IfSome o L
options_both P K L each None h k = tt
options_both P K L each (Some x) h k = each x h k

-- what members mean is kept by a step
pub maps_keep : {X Y : Type 0} (f : X → X) (p q : X → Y) (P K L : X → Type 0) → ((x : X) → P x → K x → L (f x) × (q (f x) ≡ p x)) → (xs : List X) → All P xs → All K xs → All L (map f xs) × (map q (map f xs) ≡ map p xs)
maps_keep f p q P K L each xs h k = all_kept L q (λ x. P x × K x) f p (λ x both. each x both.0 both.1) xs (λ i d lt. (h i d lt, k i d lt))

-- the same for what may be there
pub options_keep : {X Y : Type 0} (f : X → X) (p q : X → Y) (P K L : X → Type 0) → ((x : X) → P x → K x → L (f x) × (q (f x) ≡ p x))
    → (o : Option X) → IfSome o P → IfSome o K → IfSome (option_map f o) L × (option_map q (option_map f o) ≡ option_map p o)
options_keep f p q P K L each None h k = (tt, refl)
options_keep f p q P K L each (Some x) h k = let one = each x h k in (one.0, ap Some one.1)
