-- Lists that are made member by member from the members of others.
use Rattle.dexval.proofs.Common.{◌≡◌, ℕ, ◌+◌, ◌<◌, ◌≤◌, List, [], ◌∷◌, ◌++◌, length, get_or, take, map, refl, sym, ap, subst, Result, Ok, Err, AllZip, ◌∙◌, map-append, map_more, take_all}
use Rattle.std.specs.Prelude.{IfOk, MatchResult}
use Rattle.std.proofs.lemmas.List.{take-map}

module _ {X Y Z : Type 0} (f : X → Z) (g : Y → Z) (ys seen : List Y) (same : seen ≡ ys) where
  -- one more, of the next member
  pub copied_more : (xs zs : List X) (i : ℕ) (x : X) (y : Y) → i < length seen → y ≡ get_or seen i y → map f xs ≡ map g (take i ys) → zs ≡ xs ++ x ∷ [] → f x ≡ g y → map f zs ≡ map g (take (i + 1) ys)
  copied_more xs zs i x y lt at before more is =
      ap (map f) more ∙ map-append f xs (x ∷ []) ∙ (λ k. before k ++ (is ∙ ap g (at ∙ ap (λ (l : List Y). get_or l i y) same)) k ∷ []) ∙ sym (map_more g ys i y (subst (λ (l : List Y). i < length l) same lt))

  -- all of them
  pub copied_all : (xs : List X) (i : ℕ) → length seen ≤ i → map f xs ≡ map g (take i ys) → map f xs ≡ map g ys
  copied_all xs i le before = before ∙ ap (map g) (take_all i ys (subst (λ (l : List Y). length l ≤ i) same le))

-- the first members of a list that is another's image
pub seen_so : {X Z : Type 0} (f : X → Z) (ys : List X) (i : ℕ) {zs : List Z} → map f ys ≡ zs → map f (take i ys) ≡ take i zs
seen_so f ys i is = sym (take-map f i ys) ∙ ap (take i) is

-- clones, under a function that maps a value and its clone to the same
pub clones_are : {X Y : Type 0} (f : X → Y) (IsClone : X → X → Type 0) → ((x y : X) → IsClone x y → f y ≡ f x) → (xs ys : List X) → AllZip IsClone xs ys → map f ys ≡ map f xs
clones_are f IsClone same [] [] zip = refl
clones_are f IsClone same [] (y ∷ ys) zip = absurd zip
clones_are f IsClone same (x ∷ xs) [] zip = absurd zip
clones_are f IsClone same (x ∷ xs) (y ∷ ys) zip = λ k. same x y zip.0 k ∷ clones_are f IsClone same xs ys zip.1 k

-- what holds of each clone holds of one that is made
pub clone_made : {X E : Type 0} (IsClone Is : X → Type 0) (Fails : E → Type 0) → ((x : X) → IsClone x → Is x) → (r : Result X E) → MatchResult r IsClone Fails → IfOk r Is
clone_made IsClone Is Fails so (Ok x) h = so x h
clone_made IsClone Is Fails so (Err e) h = tt
