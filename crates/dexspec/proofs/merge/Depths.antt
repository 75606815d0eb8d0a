-- A name that has a depth has a depth below the number of definitions, and it is greater than the depths of its
-- parents.
use Rattle.dexspec.proofs.Common.{◌≡◌, ◌⊎◌, ℕ, zero, suc, ◌+◌, ◌<◌, ◌≤◌, Bool, true, false, cond, List, [], ◌∷◌, length, map, count_by, refl, sym, ap, ◌∙◌, subst, arith, inl, inr, Contains, flat_map, filter, same_text as texts_same, cases_lt, length-map, sum_by-cons, count_by-le-length}
use Rattle.dexspec.specs.{Text, same_text, Definition, AreWithin, parents, is_defined, above, is_below, HasDepth, IsAcyclic, depth_to, depth, IsCycle}
use Rattle.dexspec.proofs.merge.DepthGrowth.{is_below-within, HasDepth-within}
use Rattle.dexspec.proofs.lists.Members.{Contains-nil, Contains-first, Contains-later, Contains-cons_cases, Contains-filter_source, list_all-member, list_all-from_members, list_any-source, list_any-member, Contains-flat_map_source}

-- ---- how many members of a list pass

module _ {X : Type 0} where
  -- the first counts if it passes
  count-cons : (p : X → Bool) (x : X) (xs : List X) (b : Bool) → p x ≡ b → count_by p (x ∷ xs) ≡ cond b 1 0 + count_by p xs
  count-cons p x xs b e = sum_by-cons (λ y. cond (p y) 1 0) x xs ∙ ap (λ c. cond c 1 0 + count_by p xs) e

  -- a member that passes the first test passes the second
  abbrev Weaker : (p q : X → Bool) → List X → Type 0
  Weaker p q xs = (x : X) → Contains xs x → p x ≡ true → q x ≡ true

  -- the second test passes more members, or the same
  abbrev Grows : (p q : X → Bool) → List X → Type 0
  Grows p q xs = (count_by p xs ≤ count_by q xs) × ((count_by p xs < count_by q xs) ⊎ Weaker q p xs)

  -- one more member for which it holds
  also : (p q : X → Bool) (x : X) (xs : List X) → (p x ≡ true → q x ≡ true) → Weaker p q xs → Weaker p q (x ∷ xs)
  also p q x xs w h y c e = elim (Contains-cons_cases x y xs c) [
    | inl s ↦ ap q (sym s) ∙ w (ap p s ∙ e)
    | inr l ↦ h y l e
  ]

  -- case split on the tests of the first
  grows_by : (p q : X → Bool) (x : X) (xs : List X) (a b : Bool) → p x ≡ a → q x ≡ b → (p x ≡ true → q x ≡ true) → Grows p q xs → Grows p q (x ∷ xs)
  grows_by p q x xs true true e f w h = (
    omega (arith, count-cons p x xs true e, count-cons q x xs true f, h.0),
    elim h.1 [ inl lt ↦ inl (omega (arith, count-cons p x xs true e, count-cons q x xs true f)) | inr same ↦ inr (also q p x xs (λ _. e) same) ],
  )
  grows_by p q x xs true false e f w h = absurd (let t = w e in cc)
  grows_by p q x xs false true e f w h = (
    omega (arith, count-cons p x xs false e, count-cons q x xs true f, h.0),
    inl (omega (arith, count-cons p x xs false e, count-cons q x xs true f, h.0)),
  )
  grows_by p q x xs false false e f w h = (
    omega (arith, count-cons p x xs false e, count-cons q x xs false f, h.0),
    elim h.1 [ inl lt ↦ inl (omega (arith, count-cons p x xs false e, count-cons q x xs false f)) | inr same ↦ inr (also q p x xs (λ g. absurd cc) same) ],
  )

  -- a weaker test passes more members, or the same
  grows : (p q : X → Bool) (xs : List X) → Weaker p q xs → Grows p q xs
  grows p q [] h = (omega arith, inr (λ x c e. absurd (Contains-nil x c)))
  grows p q (x ∷ xs) h = grows_by p q x xs (p x) (q x) refl refl (h x (Contains-first x xs)) (grows p q xs (λ y c. h y (Contains-later x y xs c)))

  -- case split on the test of the first
  full_by : (p : X → Bool) (x : X) (xs : List X) (b : Bool) → p x ≡ b → length (x ∷ xs) ≤ count_by p (x ∷ xs) → (length xs ≤ count_by p xs → (y : X) → Contains xs y → p y ≡ true) → (y : X) → Contains (x ∷ xs) y → p y ≡ true
  full_by p x xs true e h later y c = elim (Contains-cons_cases x y xs c) [ inl s ↦ ap p (sym s) ∙ e | inr l ↦ later (omega (arith, h, count-cons p x xs true e)) y l ]
  full_by p x xs false e h later y c = absurd (omega (arith, h, count-cons p x xs false e, count_by-le-length p xs))

  -- if as many members pass as there are, each passes
  full : (p : X → Bool) (xs : List X) → length xs ≤ count_by p xs → (y : X) → Contains xs y → p y ≡ true
  full p [] h y c = absurd (Contains-nil y c)
  full p (x ∷ xs) h y c = full_by p x xs (p x) refl h (full p xs) y c

-- the image of a member
pub Contains-map : {X Y : Type 0} (f : X → Y) (xs : List X) (x : X) → Contains xs x → Contains (map f xs) (f x)
Contains-map f [] x c = absurd (Contains-nil x c)
Contains-map f (y ∷ ys) x c = elim (Contains-cons_cases y x ys c) [
  | inl e ↦ subst (Contains (map f (y ∷ ys))) (ap f e) (Contains-first (f y) (map f ys))
  | inr l ↦ Contains-later (f y) (f x) (map f ys) (Contains-map f ys x l)
]

-- the names of definitions
abbrev pub names_in : List Definition → List Text
names_in D = map (λ d. d.0) D

module _ (D : List Definition) where
  -- a defined name is the name of a definition
  pub is_defined-name : (name : Text) → is_defined D name ≡ true → Contains (names_in D) name
  is_defined-name name e =
      let s = list_any-source (λ (d : Definition). same_text d.0 name) D e in
      subst (Contains (names_in D)) (texts_same s.0.0 name (sym s.2)) (Contains-map (λ (d : Definition). d.0) D s.0 s.1)

  -- a defined parent is among the names
  above-defined : (name parent : Text) → Contains (above D name) parent → Contains (names_in D) parent
  above-defined name parent c =
      let parents_of = λ (d : Definition). parents d.1 in
      is_defined-name parent (Contains-filter_source (is_defined D) (flat_map parents_of (filter (λ (d : Definition). same_text d.0 name) D)) parent c).1

  -- less than n is less than n + 1
  pub is_below-suc : (n : ℕ) (name : Text) → is_below D n name ≡ true → is_below D (suc n) name ≡ true
  is_below-suc zero name e = absurd cc
  is_below-suc (suc n) name e = list_all-from_members (is_below D (suc n)) (above D name) (λ p c. is_below-suc n p (list_all-member (is_below D n) (above D name) p e c))

  -- less than m is less than a number that is not less than m
  pub is_below-later : (m n : ℕ) (name : Text) → m ≤ n → is_below D m name ≡ true → is_below D n name ≡ true
  is_below-later m zero name le h = let z : m ≡ 0 = omega arith in subst (λ k. is_below D k name ≡ true) z h
  is_below-later m (suc n) name le h = elim (cases_lt m (suc n)) [
    | inl lt ↦ is_below-suc n name (is_below-later m n name (omega arith) h)
    | inr ge ↦ let z : m ≡ suc n = omega arith in subst (λ k. is_below D k name ≡ true) z h
  ]

  -- once no name is added, none is added later
  stable : (n : ℕ) → Weaker (is_below D (suc n)) (is_below D n) (names_in D) → (m : ℕ) (name : Text) → Contains (names_in D) name → is_below D m name ≡ true → is_below D n name ≡ true
  stable n h zero name c b = absurd cc
  stable n h (suc m) name c b =
      h name c (list_all-from_members (is_below D n) (above D name) (λ p d. stable n h m p (above-defined name p d) (list_all-member (is_below D m) (above D name) p b d)))

  -- each round adds a name, or no later round does
  reach : (n : ℕ) → (n ≤ count_by (is_below D n) (names_in D)) ⊎ ((m : ℕ) (name : Text) → Contains (names_in D) name → is_below D m name ≡ true → is_below D n name ≡ true)
  reach zero = inl (omega arith)
  reach (suc n) = elim (reach n) [
    | inr all ↦ inr (λ m name c b. is_below-suc n name (all m name c b))
    | inl enough ↦
        let g = grows (is_below D n) (is_below D (suc n)) (names_in D) (λ name c. is_below-suc n name) in
        elim g.1 [ inl more ↦ inl (omega arith) | inr same ↦ inr (λ m name c b. is_below-suc n name (stable n same m name c b)) ]
  ]

  -- so the number of definitions bounds the depth
  pub is_below-all : (name : Text) → is_defined D name ≡ true → HasDepth D name → is_below D (length D) name ≡ true
  is_below-all name e w = elim (reach (length D)) [
    | inl enough ↦ full (is_below D (length D)) (names_in D) (omega (arith, enough, length-map D (λ (d : Definition). d.0))) name (is_defined-name name e)
    | inr all ↦ all w.0 name (is_defined-name name e) w.1
  ]

  -- ---- the depth

  -- more than n + 1 is more than n
  not_below : (n : ℕ) (name : Text) → is_below D (suc n) name ≡ false → is_below D n name ≡ false
  not_below n name e = by (is_below D n name) refl
    where
      by : (b : Bool) → is_below D n name ≡ b → is_below D n name ≡ false
      by true f = absurd (let t = is_below-suc n name f in cc)
      by false f = f

  -- a round counts if the name is not below it
  counted : (n : ℕ) (name : Text) (b : Bool) → is_below D (suc n) name ≡ b → depth_to D (suc n) name ≡ cond b 0 1 + depth_to D n name
  counted n name b e = ap (λ c. cond c 0 1 + depth_to D n name) e

  -- if the depth is at least n, n rounds are counted
  all_counted : (n : ℕ) (name : Text) → is_below D n name ≡ false → depth_to D n name ≡ n
  all_counted zero name e = refl
  all_counted (suc n) name e =
      let before : depth_to D n name ≡ n = all_counted n name (not_below n name e) in
      omega (arith, counted n name false e, before)

  -- n is the depth of the name, and less than the bound
  pub record IsDepthBelow (most : ℕ) (name : Text) (n : ℕ) : Type 0 where
    pub below : is_below D (suc n) name ≡ true
    pub not_below : is_below D n name ≡ false
    pub within : n < most

  -- case split on whether one round less is enough
  depth_to-by : (n : ℕ) (name : Text) (b : Bool) → is_below D n name ≡ b → is_below D (suc n) name ≡ true → (is_below D n name ≡ true → IsDepthBelow n name (depth_to D n name)) → IsDepthBelow (suc n) name (depth_to D (suc n) name)
  depth_to-by n name true f e again =
      let r = again f in
      let z : depth_to D n name ≡ depth_to D (suc n) name = omega (arith, counted n name true e) in
      record {
        below = subst (λ k. is_below D (suc k) name ≡ true) z r.below;
        not_below = subst (λ k. is_below D k name ≡ false) z r.not_below;
        within = omega (arith, z, r.within);
      }
  depth_to-by n name false f e again =
      let z : n ≡ depth_to D (suc n) name = omega (arith, counted n name true e, all_counted n name f) in
      record {
        below = subst (λ k. is_below D (suc k) name ≡ true) z e;
        not_below = subst (λ k. is_below D k name ≡ false) z f;
        within = omega (arith, z);
      }

  -- a bound on the depth counts up to it
  depth_to-is : (n : ℕ) (name : Text) → is_below D n name ≡ true → IsDepthBelow n name (depth_to D n name)
  depth_to-is zero name e = absurd cc
  depth_to-is (suc n) name e = depth_to-by n name (is_below D n name) refl e (depth_to-is n name)

  -- a name that is not defined has nothing above it
  below-undefined : (name : Text) → is_defined D name ≡ false → is_below D 1 name ≡ true
  below-undefined name e =
      let named = λ (d : Definition). same_text d.0 name in
      let parents_of = λ (d : Definition). parents d.1 in
      list_all-from_members (is_below D 0) (above D name) (λ p c.
      let f = Contains-filter_source (is_defined D) (flat_map parents_of (filter named D)) p c in
      let s = Contains-flat_map_source parents_of (filter named D) p f.0 in
      let m = Contains-filter_source named D s.0 s.1 in
      let t : is_defined D name ≡ true = list_any-member named D s.0 m.0 m.1 in
      absurd cc)

  -- if there are definitions, a name that has a depth has one within that many rounds
  below-all : (name : Text) (b : Bool) → is_defined D name ≡ b → 0 < length D → HasDepth D name → is_below D (length D) name ≡ true
  below-all name true e lt w = is_below-all name e w
  below-all name false e lt w = is_below-later 1 (length D) name (omega arith) (below-undefined name e)

  -- so its depth is the number of rounds
  depth-within : (name : Text) → 0 < length D → HasDepth D name → IsDepthBelow (length D) name (depth D name)
  unfolding depth
  depth-within name lt w = depth_to-is (length D) name (below-all name (is_defined D name) refl lt w)

-- the depth of a name that has one: n is less than n + 1, and not less than n
pub record IsDepth (D : List Definition) (name : Text) (n : ℕ) : Type 0 where
  pub below : is_below D (suc n) name ≡ true
  pub not_below : is_below D n name ≡ false

-- the number of rounds is the depth
pub depth-is : (D : List Definition) (name : Text) → HasDepth D name → IsDepth D name (depth D name)
unfolding depth
depth-is [] name w = record { below = refl; not_below = refl }
depth-is (d ∷ ds) name w = let r = depth-within (d ∷ ds) name (omega arith) w in record { below = r.below; not_below = r.not_below }

-- the depth of a defined name is less than the number of definitions
pub depth-less : (D : List Definition) (name : Text) → is_defined D name ≡ true → HasDepth D name → depth D name < length D
depth-less [] name e w = absurd cc
depth-less (d ∷ ds) name e w = (depth-within (d ∷ ds) name (omega arith) w).within

module _ (D : List Definition) where
  -- ---- parents

  -- if a name has a depth, so has each defined parent
  pub HasDepth-parent : (name parent : Text) → HasDepth D name → Contains (above D name) parent → HasDepth D parent
  HasDepth-parent name parent (zero, e) c = absurd cc
  HasDepth-parent name parent (suc n, e) c = (n, list_all-member (is_below D n) (above D name) parent e c)

  -- below n and not below m
  less_than : (m n : ℕ) (name : Text) → is_below D m name ≡ false → is_below D n name ≡ true → m < n
  less_than m n name e f = elim (cases_lt m n) [
    | inl lt ↦ lt
    | inr ge ↦ absurd (let t : is_below D m name ≡ true = is_below-later D n m name ge f in cc)
  ]

  -- a defined parent has a lesser depth
  pub depth-parent : (name parent : Text) → HasDepth D name → Contains (above D name) parent → depth D parent < depth D name
  depth-parent name parent w c =
      let own = depth-is D name w in
      let other = depth-is D parent (HasDepth-parent name parent w c) in
      less_than (depth D parent) (depth D name) parent other.not_below (list_all-member (is_below D (depth D name)) (above D name) parent own.below c)

  -- ---- cycles

  -- case split on whether the name is defined, and below the number of definitions
  cycle_by : (name : Text) (b c : Bool) → is_defined D name ≡ b → is_below D (length D) name ≡ c → IsCycle D name ⊎ (¬ (IsCycle D name))
  cycle_by name false c e f = inr (λ x. let t = x.defined in absurd cc)
  cycle_by name true true e f = inr (λ x. x.deep (length D, f))
  cycle_by name true false e f = inl (record { defined = e; deep = λ w. let t = is_below-all D name e w in absurd cc })

  -- whether a name is defined and has no depth is decidable
  pub cycle_or_not : (name : Text) → IsCycle D name ⊎ (¬ (IsCycle D name))
  cycle_or_not name = cycle_by name (is_defined D name) (is_below D (length D) name) refl refl

  -- case split on whether the name is below the number of definitions
  acyclic_by : (name : Text) (c : Bool) → is_defined D name ≡ true → is_below D (length D) name ≡ c → (¬ (IsCycle D name)) → HasDepth D name
  acyclic_by name true e f never = (length D, f)
  acyclic_by name false e f never = absurd (never (record { defined = e; deep = λ w. let t = is_below-all D name e w in absurd cc }))

  -- if no name is on or above a cycle, all names have depths
  pub acyclic-from_none : ((name : Text) → ¬ (IsCycle D name)) → IsAcyclic D
  acyclic-from_none none name e = acyclic_by name (is_below D (length D) name) e refl (none name)

  -- if all names have depths, no name lacks one
  pub acyclic-apart : (name : Text) → IsAcyclic D → IsCycle D name → ⊥
  acyclic-apart name a x = x.deep (a name x.defined)

-- the depth depends on the members alone
pub depth-same : (D E : List Definition) (name : Text) → AreWithin D E → AreWithin E D → HasDepth D name → depth D name ≡ depth E name
depth-same D E name f g w =
    let one = depth-is D name w in
    let other = depth-is E name (HasDepth-within E D g name w) in
    let le = less_than D (depth D name) (suc (depth E name)) name one.not_below (is_below-within D E f (suc (depth E name)) name other.below) in
    let ge = less_than E (depth E name) (suc (depth D name)) name other.not_below (is_below-within E D g (suc (depth D name)) name one.below) in
    omega (arith, le, ge)
