-- Two lists whose members belong together, one by one.
use Rattle.dexpool.proofs.Common.{◌≡◌, ℕ, zero, suc, ◌+◌, ◌<◌, ◌≤◌, List, [], ◌∷◌, ◌++◌, length, get_or, take, map, refl, sym, ap, ◌∙◌, subst, arith, inl, inr, AllZip, Contains, All, get_or-map, length-map, map-append, map_more, take_more, take_all, All-head, All-tail, All-map, All-push, Contains-nil, Contains-first, Contains-later, Contains-cons_cases}

module _ {A B : Type 0} (R : A → B → Type 0) where
  -- a member of the second belongs to one of the first
  pub zip_source : (xs : List A) (ys : List B) (y : B) → AllZip R xs ys → Contains ys y → (x : A) × Contains xs x × R x y
  zip_source [] [] y h c = absurd (Contains-nil y c)
  zip_source (x ∷ xs) (z ∷ ys) y h c = elim (Contains-cons_cases z y ys c) [
    | inl e ↦ (x, Contains-first x xs, subst (R x) e h.0)
    | inr l ↦ let r = zip_source xs ys y h.1 l in (r.0, Contains-later x r.0 xs r.1, r.2)
  ]
  zip_source _ _ y h c = absurd h

  -- and the other way round
  pub zip_target : (xs : List A) (ys : List B) (x : A) → AllZip R xs ys → Contains xs x → (y : B) × Contains ys y × R x y
  zip_target [] [] x h c = absurd (Contains-nil x c)
  zip_target (z ∷ xs) (y ∷ ys) x h c = elim (Contains-cons_cases z x xs c) [
    | inl e ↦ (y, Contains-first y ys, subst (λ w. R w y) e h.0)
    | inr l ↦ let r = zip_target xs ys x h.1 l in (r.0, Contains-later y r.0 ys r.1, r.2)
  ]
  zip_target _ _ x h c = absurd h

  pub zip_length : (xs : List A) (ys : List B) → AllZip R xs ys → length xs ≡ length ys
  zip_length [] [] h = refl
  zip_length (x ∷ xs) (y ∷ ys) h = ap suc (zip_length xs ys h.1)
  zip_length _ _ h = absurd h

  -- those at one place belong together
  pub zip_at : (xs : List A) (ys : List B) (i : ℕ) (d : A) (e : B) → AllZip R xs ys → i < length xs → R (get_or xs i d) (get_or ys i e)
  zip_at [] ys i d e h lt = absurd (omega arith)
  zip_at (x ∷ xs) [] i d e h lt = absurd h
  zip_at (x ∷ xs) (y ∷ ys) zero d e h lt = h.0
  zip_at (x ∷ xs) (y ∷ ys) (suc i) d e h lt = zip_at xs ys i d e h.1 (omega arith)

  -- lists whose members at each place belong together
  pub zip_from : (xs : List A) (ys : List B) → length xs ≡ length ys → ((i : ℕ) (d : A) (e : B) → i < length xs → R (get_or xs i d) (get_or ys i e)) → AllZip R xs ys
  zip_from [] [] n h = tt
  zip_from (x ∷ xs) (y ∷ ys) n h = (h 0 x y (omega arith), zip_from xs ys (omega arith) (λ i d e lt. h (suc i) d e (omega arith)))
  zip_from _ _ n h = absurd (omega arith)

  -- one pair more
  pub zip_push : (xs : List A) (ys : List B) (x : A) (y : B) → AllZip R xs ys → R x y → AllZip R (xs ++ x ∷ []) (ys ++ y ∷ [])
  zip_push [] [] x y h r = (r, tt)
  zip_push (z ∷ xs) (w ∷ ys) x y h r = (h.0, zip_push xs ys x y h.1 r)
  zip_push _ _ x y h r = absurd h

-- what belongs to what belongs to a member
pub zip_along : {A B C : Type 0} (R : A → B → Type 0) (S : B → C → Type 0) (T : A → C → Type 0) → ((a : A) (b : B) (c : C) → R a b → S b c → T a c) → (xs : List A) (ys : List B) (zs : List C) → AllZip R xs ys → AllZip S ys zs → AllZip T xs zs
zip_along R S T f [] [] [] h k = tt
zip_along R S T f [] (y ∷ ys) zs h k = absurd h
zip_along R S T f (x ∷ xs) [] zs h k = absurd h
zip_along R S T f (x ∷ xs) (y ∷ ys) (z ∷ zs) h k = (f x y z h.0 k.0, zip_along R S T f xs ys zs h.1 k.1)
zip_along _ _ _ f _ _ _ h k = absurd k

-- a function after another is a third
pub map_both : {X Y Z : Type 0} (f : X → Y) (g : Y → Z) (h : X → Z) (xs : List X) → All (λ x. g (f x) ≡ h x) xs → map g (map f xs) ≡ map h xs
map_both f g h [] e = refl
map_both f g h (x ∷ xs) e = λ i. (All-head (λ z. g (f z) ≡ h z) x xs e) i ∷ (map_both f g h xs (All-tail (λ z. g (f z) ≡ h z) x xs e)) i

-- what holds of what is seen of the one holds of what is seen of the other
pub all_seen : {X Y Z : Type 0} (f : X → Z) (g : Y → Z) (Q : Z → Type 0) (xs : List X) (ys : List Y) → map f xs ≡ map g ys → All (λ y. Q (g y)) ys → All (λ x. Q (f x)) xs
all_seen f g Q xs ys e h k d lt = subst Q (get_or-map f xs k d (f d) lt) ((subst (All Q) (sym e) (All-map Q g ys h)) k (f d) (omega (arith, lt, length-map xs f)))

-- one more that is seen
pub seen_more : {X Y Z : Type 0} (f : X → Z) (g : Y → Z) (xs zs : List X) (ys : List Y) (i : ℕ) (x : X) (d : Y) → i < length ys → map f xs ≡ map g (take i ys) → zs ≡ xs ++ x ∷ [] → f x ≡ g (get_or ys i d) → map f zs ≡ map g (take (i + 1) ys)
seen_more f g xs zs ys i x d lt e more is = ap (map f) more ∙ map-append f xs (x ∷ []) ∙ (λ k. e k ++ is k ∷ []) ∙ sym (map-append g (take i ys) (get_or ys i d ∷ [])) ∙ ap (map g) (sym (take_more ys i d lt))

module _ {A B X Y : Type 0} (R : A → B → Type 0) (f : X → A) (g : Y → B) (xs : List X) where
  seen_within : (ys : List Y) (i : ℕ) → AllZip R (map f xs) (map g ys) → i < length xs → i < length ys
  seen_within ys i h lt = omega (arith, lt, length-map xs f, length-map ys g, zip_length R (map f xs) (map g ys) h)

  -- what is seen at one place belongs together
  pub zip_seen : (ys : List Y) (i : ℕ) (x : X) (y : Y) → AllZip R (map f xs) (map g ys) → i < length xs → x ≡ get_or xs i x → y ≡ get_or ys i y → R (f x) (g y)
  zip_seen ys i x y h lt at_x at_y =
      subst (R (f x)) (get_or-map g ys i y (g y) (seen_within ys i h lt) ∙ ap g (sym at_y)) (subst (λ z. R z (get_or (map g ys) i (g y))) (get_or-map f xs i x (f x) lt ∙ ap f (sym at_x)) (zip_at R (map f xs) (map g ys) i (f x) (g y) h (omega (arith, lt, length-map xs f))))

  -- an index of the first is one of the second
  pub within_other : (ys : List Y) (i n : ℕ) → n ≡ length ys → AllZip R (map f xs) (map g ys) → i < length xs → i < n
  within_other ys i n e h lt = omega (arith, e, seen_within ys i h lt)

  -- one pair more that is seen
  pub zip_more : (ys zs : List Y) (i : ℕ) (x : X) (y : Y) → AllZip R (map f (take i xs)) (map g ys) → i < length xs → x ≡ get_or xs i x → zs ≡ ys ++ y ∷ [] → R (f x) (g y) → AllZip R (map f (take (i + 1) xs)) (map g zs)
  zip_more ys zs i x y h lt at more r =
      subst (λ l. AllZip R l (map g zs)) (sym (map_more f xs i x lt ∙ ap (λ z. map f (take i xs) ++ f z ∷ []) (sym at))) (subst (AllZip R (map f (take i xs) ++ f x ∷ [])) (sym (ap (map g) more ∙ map-append g ys (y ∷ []))) (zip_push R (map f (take i xs)) (map g ys) (f x) (g y) h r))

-- one member more of which something holds
pub All_more : {A X : Type 0} (Q : A → Type 0) (f : X → A) (xs : List X) (i : ℕ) (x : X) → i < length xs → x ≡ get_or xs i x → All Q (map f (take i xs)) → Q (f x) → All Q (map f (take (i + 1) xs))
All_more Q f xs i x lt at h q = subst (All Q) (sym (map_more f xs i x lt ∙ ap (λ z. map f (take i xs) ++ f z ∷ []) (sym at))) (All-push Q (map f (take i xs)) (f x) h q)

-- and one more that is pushed
pub all_pushed : {A X : Type 0} (Q : A → Type 0) (f : X → A) (xs zs : List X) (x : X) → zs ≡ xs ++ x ∷ [] → All (λ y. Q (f y)) xs → Q (f x) → All (λ y. Q (f y)) zs
all_pushed Q f xs zs x more h q = subst (All (λ y. Q (f y))) (sym more) (All-push (λ y. Q (f y)) xs x h q)

-- where all of the first are taken
pub zip_all : {A B X Y : Type 0} (R : A → B → Type 0) (f : X → A) (g : Y → B) (xs : List X) (ys zs : List Y) (i : ℕ) → length xs ≤ i → zs ≡ ys → AllZip R (map f (take i xs)) (map g ys) → AllZip R (map f xs) (map g zs)
zip_all R f g xs ys zs i le e h = subst (λ l. AllZip R (map f xs) (map g l)) (sym e) (subst (λ l. AllZip R (map f l) (map g ys)) (take_all i xs le) h)
