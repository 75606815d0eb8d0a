-- The classes of a file are the definitions, in the order of their depths and names.
use Rattle.dexspec.proofs.Common.{◌≡◌, ◌≢◌, ◌⊎◌, ℕ, ◌<◌, List, [], ◌∷◌, length, get_or, map, refl, sym, ap, ◌∙◌, subst, arith, inl, inr, Ordering, Less, Equal, Greater, Contains, nat_cmp, ordering_then, IsTotalOrder, nat_cmp_total, then_total, on_total, cases_lt, length-map, get_or-map}
use Rattle.std.specs.FinMap.{IsAntisymmetric, nat_cmp-IsAntisymmetric}
use Rattle.std.specs.FinMap.Entries.{put, by_order}
use Rattle.dexspec.specs.{AreDistinct, add_in_order, in_order, Text, text_cmp, Body, Definition, place_cmp, put_all, depth, in_class_order}
use Rattle.dexspec.proofs.lists.{Contains-nil, Contains-first, Contains-later, Contains-cons_cases, AreDistinct-first, AreDistinct-rest, Rises, Rises-in_order, Rises-places, irreflexive, nat_more}
use Rattle.dexspec.proofs.merge.{text_exact, text_total, both_tie, Contains-map}
pub use Rattle.dexspec.proofs.lists.Mapped.{Contains-map_source}

-- a definition with its depth
abbrev PlacedClass : Type 0
PlacedClass = (ℕ × Text) × Body

-- ---- the order of places

-- it is total
place_total : IsTotalOrder place_cmp
place_total = then_total (on_total (λ (x : ℕ × Text). x.0) nat_cmp_total) (on_total (λ (x : ℕ × Text). x.1) text_total)

-- only equal places are equal by order
place_exact : IsAntisymmetric place_cmp
place_exact x y e =
    let k = both_tie (nat_cmp x.0 y.0) (text_cmp x.1 y.1) e in
    let depths = nat_cmp-IsAntisymmetric x.0 y.0 k.0 in
    let names = text_exact x.1 y.1 k.1 in
    λ i. (depths i, names i)

-- ---- entries that are put at their places

-- their places are put in order
keys-put : (k : ℕ × Text) (v : Body) (es : List PlacedClass) → map (λ e. e.0) (put place_cmp k v es) ≡ add_in_order place_cmp k (map (λ e. e.0) es)
keys-put k v [] = refl
keys-put k v (e ∷ es) = by (place_cmp k e.0) (keys-put k v es)
  where
    by : (o : Ordering) → map (λ (x : PlacedClass). x.0) (put place_cmp k v es) ≡ add_in_order place_cmp k (map (λ x. x.0) es)
        → map (λ (x : PlacedClass). x.0) (by_order o ((k, v) ∷ e ∷ es) ((e.0, v) ∷ es) (e ∷ put place_cmp k v es)) ≡ by_order o (k ∷ e.0 ∷ map (λ (x : PlacedClass). x.0) es) (e.0 ∷ map (λ (x : PlacedClass). x.0) es) (e.0 ∷ add_in_order place_cmp k (map (λ (x : PlacedClass). x.0) es))
    by Greater again = ap (λ ks. e.0 ∷ ks) again
    by _ again = refl

-- and so are the places of all
keys-put_all : (es : List PlacedClass) → map (λ e. e.0) (put_all es) ≡ in_order place_cmp (map (λ e. e.0) es)
keys-put_all [] = refl
keys-put_all (e ∷ es) = keys-put e.0 e.1 (put_all es) ∙ ap (add_in_order place_cmp e.0) (keys-put_all es)

-- so they rise
put_all-rises : (es : List PlacedClass) → Rises place_cmp (map (λ e. e.0) (put_all es))
put_all-rises es = subst (Rises place_cmp) (sym (keys-put_all es)) (Rises-in_order place_cmp place_total place_exact (map (λ (e : PlacedClass). e.0) es))

-- an entry is the one that is put, or was there before
put-only : (k : ℕ × Text) (v : Body) (es : List PlacedClass) (x : PlacedClass) → Contains (put place_cmp k v es) x → ((k, v) ≡ x) ⊎ Contains es x
put-only k v [] x c = Contains-cons_cases (k, v) x [] c
put-only k v (e ∷ es) x c = by (place_cmp k e.0) refl c (put-only k v es x)
  where
    by : (o : Ordering) → place_cmp k e.0 ≡ o → Contains (by_order o ((k, v) ∷ e ∷ es) ((e.0, v) ∷ es) (e ∷ put place_cmp k v es)) x → (Contains (put place_cmp k v es) x → ((k, v) ≡ x) ⊎ Contains es x) → ((k, v) ≡ x) ⊎ Contains (e ∷ es) x
    by Less q c again = Contains-cons_cases (k, v) x (e ∷ es) c
    by Equal q c again = elim (Contains-cons_cases (e.0, v) x es c) [
      | inl p ↦ inl (let t = place_exact k e.0 q in let u : (k, v) ≡ (e.0, v) = λ i. (t i, v) in u ∙ p)
      | inr l ↦ inr (Contains-later e x es l)
    ]
    by Greater q c again = elim (Contains-cons_cases e x (put place_cmp k v es) c) [
      | inl p ↦ inr (0, omega arith, p)
      | inr l ↦ elim (again l) [ inl p ↦ inl p | inr m ↦ inr (Contains-later e x es m) ]
    ]

-- the entry that is put is there
put-first : (k : ℕ × Text) (v : Body) (es : List PlacedClass) → Contains (put place_cmp k v es) (k, v)
put-first k v [] = Contains-first (k, v) []
put-first k v (e ∷ es) = by (place_cmp k e.0) refl (put-first k v es)
  where
    by : (o : Ordering) → place_cmp k e.0 ≡ o → Contains (put place_cmp k v es) (k, v) → Contains (by_order o ((k, v) ∷ e ∷ es) ((e.0, v) ∷ es) (e ∷ put place_cmp k v es)) (k, v)
    by Less q again = Contains-first (k, v) (e ∷ es)
    by Equal q again = let t = place_exact k e.0 q in let u : (e.0, v) ≡ (k, v) = λ i. (sym t i, v) in subst (Contains ((e.0, v) ∷ es)) u (Contains-first (e.0, v) es)
    by Greater q again = Contains-later e (k, v) (put place_cmp k v es) again

-- an entry that was there is still there, if its place is different
put-later : (k : ℕ × Text) (v : Body) (es : List PlacedClass) (x : PlacedClass) → ((e : PlacedClass) → Contains es e → place_cmp k e.0 ≢ Equal) → Contains es x → Contains (put place_cmp k v es) x
put-later k v [] x h c = absurd (Contains-nil x c)
put-later k v (e ∷ es) x h c = by (place_cmp k e.0) (h e (Contains-first e es)) (put-later k v es x (λ y m. h y (Contains-later e y es m)))
  where
    by : (o : Ordering) → o ≢ Equal → (Contains es x → Contains (put place_cmp k v es) x) → Contains (by_order o ((k, v) ∷ e ∷ es) ((e.0, v) ∷ es) (e ∷ put place_cmp k v es)) x
    by Less other again = Contains-later (k, v) x (e ∷ es) c
    by Equal other again = absurd (other refl)
    by Greater other again = elim (Contains-cons_cases e x es c) [ inl p ↦ (0, omega arith, p) | inr l ↦ Contains-later e x (put place_cmp k v es) (again l) ]

-- each entry was put
put_all-only : (es : List PlacedClass) (x : PlacedClass) → Contains (put_all es) x → Contains es x
put_all-only [] x c = c
put_all-only (e ∷ es) x c = elim (put-only e.0 e.1 (put_all es) x c) [
  | inl p ↦ (0, omega arith, p)
  | inr l ↦ Contains-later e x es (put_all-only es x l)
]

-- if the names are different, each entry is put
put_all-has : (es : List PlacedClass) (x : PlacedClass) → AreDistinct (map (λ e. e.0.1) es) → Contains es x → Contains (put_all es) x
put_all-has [] x d c = c
put_all-has (e ∷ es) x d c =
    let name : PlacedClass → Text = λ z. z.0.1 in
    elim (Contains-cons_cases e x es c) [
      | inl p ↦ subst (Contains (put place_cmp e.0 e.1 (put_all es))) p (put-first e.0 e.1 (put_all es))
      | inr l ↦ put-later e.0 e.1 (put_all es) x
          (λ y m tie. AreDistinct-first e.0.1 (map name es) d y.0.1 (Contains-map name es y (put_all-only es y m)) (ap (λ (z : ℕ × Text). z.1) (sym (place_exact e.0 y.0 tie))))
          (put_all-has es x (AreDistinct-rest e.0.1 (map name es) d) l)
    ]

-- ---- the classes in their order

-- the names stay with the depths
pub names-kept : (g : Definition → ℕ) (D : List Definition) → map (λ (e : PlacedClass). e.0.1) (map (λ d. ((g d, d.0), d.1)) D) ≡ map (λ d. d.0) D
names-kept g [] = refl
names-kept g (d ∷ D) = ap (λ ns. d.0 ∷ ns) (names-kept g D)

-- the place of a class
abbrev pub class_place : List Definition → Definition → ℕ × Text
class_place D d = (depth D d.0, d.0)

-- entries whose depths are right keep their places
places-kept : (D : List Definition) (es : List PlacedClass) → ((e : PlacedClass) → Contains es e → depth D e.0.1 ≡ e.0.0) → map (class_place D) (map (λ e. (e.0.1, e.1)) es) ≡ map (λ e. e.0) es
places-kept D [] h = refl
places-kept D (e ∷ es) h =
    let first = h e (Contains-first e es) in
    let rest = places-kept D es (λ x c. h x (Contains-later e x es c)) in
    λ i. (first i, e.0.1) ∷ rest i

module _ (D : List Definition) where
  -- each entry is a definition
  pub in_class_order-only : (d : Definition) → Contains (in_class_order D) d → Contains D d
  unfolding in_class_order
  in_class_order-only d c =
      let place : Definition → PlacedClass = λ x. ((depth D x.0, x.0), x.1) in
      let back : PlacedClass → Definition = λ e. (e.0.1, e.1) in
      let s = Contains-map_source back (put_all (map place D)) d c in
      let t = Contains-map_source place D s.0 (put_all-only (map place D) s.0 s.1) in
      subst (Contains D) (ap back t.2 ∙ s.2) t.1

  -- and each definition is there
  pub in_class_order-has : (d : Definition) → AreDistinct (map (λ x. x.0) D) → Contains D d → Contains (in_class_order D) d
  unfolding in_class_order
  in_class_order-has d distinct c =
      let place : Definition → PlacedClass = λ x. ((depth D x.0, x.0), x.1) in
      let back : PlacedClass → Definition = λ e. (e.0.1, e.1) in
      let apart : AreDistinct (map (λ (e : PlacedClass). e.0.1) (map place D)) = subst AreDistinct (sym (names-kept (λ x. depth D x.0) D)) distinct in
      Contains-map back (put_all (map place D)) (place d) (put_all-has (map place D) (place d) apart (Contains-map place D d c))

  -- their places rise
  pub class_places-rise : Rises place_cmp (map (class_place D) (in_class_order D))
  unfolding in_class_order
  class_places-rise =
      let place : Definition → PlacedClass = λ x. ((depth D x.0, x.0), x.1) in
      let right : (e : PlacedClass) → Contains (put_all (map place D)) e → depth D e.0.1 ≡ e.0.0 =
      λ e c. let t = Contains-map_source place D e (put_all-only (map place D) e c) in ap (λ (z : PlacedClass). depth D z.0.1) (sym t.2) ∙ ap (λ (z : PlacedClass). z.0.0) t.2 in
      subst (Rises place_cmp) (sym (places-kept D (put_all (map place D)) right)) (put_all-rises (map place D))

  -- an earlier class has a lesser place
  pub class_places-less : (i j : ℕ) (d : Definition) → i < j → j < length (in_class_order D) → place_cmp (class_place D (get_or (in_class_order D) i d)) (class_place D (get_or (in_class_order D) j d)) ≡ Less
  class_places-less i j d ij lt =
      let cs = in_class_order D in
      let at : (k : ℕ) → k < length (in_class_order D) → get_or (map (class_place D) (in_class_order D)) k (class_place D d) ≡ class_place D (get_or (in_class_order D) k d) =
      λ k le. get_or-map (class_place D) (in_class_order D) k d (class_place D d) le in
      let one = at i (omega (arith, ij, lt)) in
      let other = at j lt in
      let e : place_cmp (get_or (map (class_place D) cs) i (class_place D d)) (get_or (map (class_place D) cs) j (class_place D d)) ≡ place_cmp (class_place D (get_or cs i d)) (class_place D (get_or cs j d)) = λ k. place_cmp (one k) (other k) in
      sym e ∙ Rises-places place_cmp place_total (map (class_place D) (in_class_order D)) i j (class_place D d) class_places-rise ij (omega (arith, lt, length-map (in_class_order D) (class_place D)))

  -- so no two have the same name
  pub class_names-apart : (i j : ℕ) (d : Definition) → i < j → j < length (in_class_order D) → (get_or (in_class_order D) i d).0 ≢ (get_or (in_class_order D) j d).0
  class_names-apart i j d ij lt e =
      irreflexive place_cmp place_total (class_place D (get_or (in_class_order D) i d)) (class_place D (get_or (in_class_order D) j d)) (λ k. (depth D (e k), e k)) (class_places-less i j d ij lt)

  -- a class of a lesser depth is earlier
  pub class_depths-before : (i j : ℕ) (d : Definition) → i < length (in_class_order D) → depth D (get_or (in_class_order D) i d).0 < depth D (get_or (in_class_order D) j d).0 → i < j
  class_depths-before i j d lt less = elim (cases_lt i j) [
    | inl before ↦ before
    | inr ge ↦ elim (cases_lt j i) [
      | inl after ↦
          let s = get_or (in_class_order D) j d in
          let t = get_or (in_class_order D) i d in
          let more : place_cmp (class_place D s) (class_place D t) ≡ Greater = ap (λ o. ordering_then o (text_cmp s.0 t.0)) (nat_more (depth D s.0) (depth D t.0) less) in
          absurd (let q : Less ≡ Greater = sym (class_places-less j i d after lt) ∙ more in cc)
      | inr le ↦ let same : i ≡ j = omega arith in absurd (omega (arith, less, ap (λ k. depth D (get_or (in_class_order D) k d).0) same))
    ]
  ]
