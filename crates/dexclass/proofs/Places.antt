-- Which class has a type as its name, and which classes are parents.
use Rattle.dexclass.proofs.Common.{◌≡◌, ℕ, ◌<◌, List, length, get_or, map, sym, ◌∙◌, subst, arith, inl, inr, Option, Some, None, IsSome, cases_order, length-map, get_or-map, AreDistinct, map-map}
use Rattle.dexorder.specs.Parents.{classes_of_types}
use Rattle.dexclass.specs.{NumberedClass, no_class, name_number, parent_numbers, ArePlaces, IsHierarchy}

-- members of which no two are seen as the same are at one place each
pub one_place : {X Y : Type 0} (key : X → Y) (xs : List X) → ((i j : ℕ) (d : X) → i < j → j < length xs → key (get_or xs i d) ≡ key (get_or xs j d) → ⊥) → (i j : ℕ) (d : X) → i < length xs → j < length xs → key (get_or xs i d) ≡ key (get_or xs j d) → i ≡ j
one_place key xs apart i j d li lj e = elim (cases_order i j) [
  | inl same ↦ same
  | inr (inl less) ↦ absurd (apart i j d less lj e)
  | inr (inr more) ↦ absurd (apart j i d more li (sym e))
]

-- where what they are seen as is different
pub seen_apart : {X Y : Type 0} (key : X → Y) (xs : List X) → AreDistinct (map key xs) → (i j : ℕ) (d : X) → i < j → j < length xs → key (get_or xs i d) ≡ key (get_or xs j d) → ⊥
seen_apart key xs distinct i j d less lt e = distinct i j (key d) less (omega (arith, lt, length-map xs key)) (get_or-map key xs i d (key d) (omega (arith, less, lt)) ∙ e ∙ sym (get_or-map key xs j d (key d) lt))

-- the classes that are parents
abbrev pub defined_parents : List (Option ℕ) → NumberedClass → List ℕ
defined_parents places c = classes_of_types places (parent_numbers c)

module _ (cs : List NumberedClass) where
  abbrev names : List ℕ
  names = map (λ c. c.name) cs

  pub name_at : (i : ℕ) → i < length cs → get_or names i 0 ≡ name_number cs i
  name_at i lt = get_or-map (λ (c : NumberedClass). c.name) cs i no_class 0 lt

  module _ (places : List (Option ℕ)) (h : ArePlaces cs places) where
    -- the class of a type is one of them that has it as its name
    pub places_some : (t i : ℕ) → get_or places t None ≡ Some i → (i < length cs) × (name_number cs i ≡ t)
    places_some t i e =
        let at = h.some t i e in
        let lt : i < length cs = omega (arith, at.0, length-map cs (λ (c : NumberedClass). c.name)) in
        (lt, sym (name_at i lt) ∙ at.1)

    -- each has a class for its name
    pub places_all : (i : ℕ) → i < length cs → IsSome (get_or places (name_number cs i) None)
    places_all i lt = subst (λ (t : ℕ). IsSome (get_or places t None)) (name_at i lt) (h.all i (omega (arith, lt, length-map cs (λ (c : NumberedClass). c.name))))

  -- each class has those of its parents that are among them
  pub parents_are : (H : List (List ℕ)) (h : IsHierarchy cs H) → H ≡ map (defined_parents h.by_type) cs
  parents_are H h = h.is ∙ map-map (classes_of_types h.by_type) parent_numbers cs
