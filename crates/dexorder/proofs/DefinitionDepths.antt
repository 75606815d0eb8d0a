-- The depths of numbered classes are those of the definitions that they number.
use Rattle.dexorder.proofs.Common.{◌≡◌, ℕ, zero, suc, ◌<◌, true, false, List, [], length, map, get_or, Option, Some, None, refl, sym, ap, ◌∙◌, subst, arith, All, IsSome, get_or_default, All-from_get_or, Contains-get_or, Text, same_text, Definition, is_defined, above, is_below, HasDepth, IsAcyclic, depth, list_all-member, list_all-from_members, list_any-member, Contains-map, is_defined-name, depth-is, Contains-map_source, map-length, same_from_decides, Decides-eqb, ◌≢◌, Bool, cond, ◌∷◌, append-nil, Contains, filter, flat_map, get_or-map, AreDistinct, parents, Contains-first, Contains-later, AreDistinct-first, AreDistinct-rest}
use Rattle.std.proofs.lemmas.Slice.Eq.{slice_eq-Decides}
use Rattle.dexspec.specs.Merging.{IsCycle}
use Rattle.dexorder.specs.{parents_of, is_under, IsDepth, HasNone, IsDepthOrNone, AreDepths, defined_name, AreClassParents, HaveParentsWithin}
use Rattle.dexorder.proofs.DepthLaws.{less_than, parent_within}
use Rattle.std.specs.Cmp.Lexicographic.{same_text as texts_same}

-- equal texts are the same
pub same_from_equal : (s t : Text) → s ≡ t → same_text s t ≡ true
same_from_equal s t e = (slice_eq-Decides Decides-eqb s t (same_text s t) refl).1 e

module _ (D : List Definition) (classes : List (List ℕ)) (h : AreClassParents D classes) where
  -- a bound on the depth of a class is a bound on the depth of its definition
  pub same_under : (n i : ℕ) → i < length classes → is_under classes n i ≡ is_below D n (defined_name D i)
  same_under zero i lt = refl
  same_under (suc n) i lt =
      let both = h.parents i lt in
      same_from_decides (is_under classes (suc n) i) (is_below D (suc n) (defined_name D i)) (
        λ e. list_all-from_members (is_below D n) (above D (defined_name D i)) (λ name c.
            let s = Contains-map_source (defined_name D) (parents_of classes i) name ((both name).1 c) in
            ap (is_below D n) (sym s.2) ∙ sym (same_under n s.0 (parent_within classes h.within i s.0 lt s.1)) ∙ list_all-member (is_under classes n) (parents_of classes i) s.0 e s.1),
        λ e. list_all-from_members (is_under classes n) (parents_of classes i) (λ p c.
            same_under n p (parent_within classes h.within i p lt c)
            ∙ list_all-member (is_below D n) (above D (defined_name D i)) (defined_name D p) e ((both (defined_name D p)).0 (Contains-map (defined_name D) (parents_of classes i) p c))),
      ) (λ e. e, λ e. e)

  -- if a class has a depth, its definition has the same depth
  pub has_depth : (i d : ℕ) → i < length classes → IsDepth classes i d → HasDepth D (defined_name D i)
  has_depth i d lt k = (suc d, sym (same_under (suc d) i lt) ∙ k.under)

  pub same_depth : (i d : ℕ) → i < length classes → IsDepth classes i d → depth D (defined_name D i) ≡ d
  same_depth i d lt k =
      let own = depth-is D (defined_name D i) (has_depth i d lt k) in
      let e = depth D (defined_name D i) in
      omega (arith, less_than classes d (suc e) i k.not_under (same_under (suc e) i lt ∙ own.below), less_than classes e (suc d) i (same_under e i lt ∙ own.not_below) k.under)

  -- ---- classes without a depth

  -- there are as many names as classes
  names_len : length (map (λ (d : Definition). d.0) D) ≡ length classes
  names_len = map-length (λ (d : Definition). d.0) D ∙ sym h.count

  -- a defined name is the name of a class
  pub class_of : (name : Text) → is_defined D name ≡ true → (i : ℕ) × (i < length classes) × (defined_name D i ≡ name)
  class_of name e =
      let c = is_defined-name D name e in
      let lt : c.0 < length (map (λ (d : Definition). d.0) D) = c.1 in
      (c.0, omega (arith, lt, names_len), get_or_default (map (λ (d : Definition). d.0) D) c.0 [] name lt ∙ c.2)

  -- if each class has a depth, the definitions have no cycle
  pub no_cycle : (answers : List (Option ℕ)) → AreDepths classes answers → All (λ a. IsSome a) answers → IsAcyclic D
  no_cycle answers a some name e =
      let s = class_of name e in
      subst (HasDepth D) s.2 (by s.0 (get_or answers s.0 None) s.1 (a.is_depth s.0 s.1) (some s.0 None (omega (arith, a.count, s.1))))
    where
      by : (i : ℕ) (o : Option ℕ) → i < length classes → IsDepthOrNone classes i o → IsSome o → HasDepth D (defined_name D i)
      by i None lt k sm = absurd cc
      by i (Some d) lt k sm = has_depth i d lt k

  -- the name of a class is defined
  pub class_defined : (i : ℕ) → i < length classes → is_defined D (defined_name D i) ≡ true
  class_defined i lt =
      let names = map (λ (d : Definition). d.0) D in
      let s = Contains-map_source (λ (d : Definition). d.0) D (defined_name D i) (Contains-get_or names i [] (omega (arith, lt, names_len))) in
      list_any-member (λ (d : Definition). same_text d.0 (defined_name D i)) D s.0 s.1 (same_from_equal s.0.0 (defined_name D i) s.2)

  -- a class without a depth is a definition on a cycle, or below a cycle
  pub is_cycle : (i : ℕ) → i < length classes → HasNone classes i → IsCycle D (defined_name D i)
  is_cycle i lt none = record {
    defined = class_defined i lt;
    deep = λ w. let t : is_below D w.0 (defined_name D i) ≡ false = sym (same_under w.0 i lt) ∙ none w.0 in let u = w.1 in absurd cc;
  }

  -- each definition on or below a cycle is a class without a depth
  pub cycle_class : (answers : List (Option ℕ)) (name : Text) → AreDepths classes answers → IsCycle D name → (i : ℕ) × (i < length classes) × (defined_name D i ≡ name) × (get_or answers i None ≡ None)
  cycle_class answers name a x =
      let s = class_of name x.defined in
      (s.0, s.1, s.2, by s.0 (get_or answers s.0 None) s.1 s.2 (a.is_depth s.0 s.1))
    where
      by : (i : ℕ) (o : Option ℕ) → i < length classes → defined_name D i ≡ name → IsDepthOrNone classes i o → o ≡ None
      by i None lt e k = refl
      by i (Some d) lt e k = absurd (x.deep (subst (HasDepth D) e (has_depth i d lt k)))

  -- if there is no cycle, each class has a depth
  pub all_known : (answers : List (Option ℕ)) → AreDepths classes answers → IsAcyclic D → All (λ a. IsSome a) answers
  all_known answers a acyclic =
      All-from_get_or (λ o. IsSome o) answers None (λ i lt. by i (get_or answers i None) (omega (arith, lt, a.count)) (a.is_depth i (omega (arith, lt, a.count))))
    where
      by : (i : ℕ) (o : Option ℕ) → i < length classes → IsDepthOrNone classes i o → IsSome o
      by i None lt k = absurd ((is_cycle i lt k).deep (acyclic (defined_name D i) (class_defined i lt)))
      by i (Some d) lt k = refl

-- no member passes
filter-none : {X : Type 0} (p : X → Bool) (xs : List X) → ((x : X) → Contains xs x → p x ≡ false) → filter p xs ≡ []
filter-none p [] h = refl
filter-none p (x ∷ xs) h =
    ap (λ b. cond b (x ∷ filter p xs) (filter p xs)) (h x (Contains-first x xs)) ∙ filter-none p xs (λ y c. h y (Contains-later x y xs c))

-- different texts are not the same
other_text : (s t : Text) → s ≢ t → same_text s t ≡ false
other_text s t ne = by (same_text s t) refl
  where
    by : (b : Bool) → same_text s t ≡ b → same_text s t ≡ false
    by true e = absurd (ne (texts_same s t (sym e)))
    by false e = e

-- the test of a name
abbrev has_name : Text → Definition → Bool
has_name name x = same_text x.0 name

-- if names are different, one definition has a given name
only_one : (D : List Definition) (i : ℕ) (d : Definition) → AreDistinct (map (λ x. x.0) D) → i < length D → filter (has_name (get_or D i d).0) D ≡ get_or D i d ∷ []
only_one [] i d distinct lt = absurd (omega arith)
only_one (e ∷ D) zero d distinct lt =
    let names = map (λ (x : Definition). x.0) D in
    ap (λ b. cond b (e ∷ filter (has_name e.0) D) (filter (has_name e.0) D)) (same_from_equal e.0 e.0 refl) ∙ ap (λ xs. e ∷ xs) (filter-none (has_name e.0) D (λ x c. other_text x.0 e.0 (AreDistinct-first e.0 names distinct x.0 (Contains-map (λ (y : Definition). y.0) D x c))))
only_one (e ∷ D) (suc i) d distinct lt =
    let names = map (λ (x : Definition). x.0) D in
    let own = get_or D i d in
    let less : i < length D = omega arith in
    let ne : e.0 ≢ own.0 = λ same. AreDistinct-first e.0 names distinct own.0 (Contains-map (λ (y : Definition). y.0) D own (Contains-get_or D i d less)) (sym same) in
    ap (λ b. cond b (e ∷ filter (has_name own.0) D) (filter (has_name own.0) D)) (other_text e.0 own.0 ne) ∙ only_one D i d (AreDistinct-rest e.0 names distinct) less

-- the names above a definition's name are its own defined parents
pub own_parents : (D : List Definition) (i : ℕ) (d : Definition) → AreDistinct (map (λ x. x.0) D) → i < length D → above D (defined_name D i) ≡ filter (is_defined D) (parents (get_or D i d).1)
own_parents D i d distinct lt =
    let named : defined_name D i ≡ (get_or D i d).0 = get_or-map (λ (x : Definition). x.0) D i d [] lt in
    let all = λ (xs : List Definition). filter (is_defined D) (flat_map (λ (x : Definition). parents x.1) xs) in
    ap (above D) named ∙ ap all (only_one D i d distinct lt) ∙ ap (filter (is_defined D)) (append-nil (parents (get_or D i d).1))

-- classes whose parents are the numbers of these parents, in their order
pub classes_of_parents : (D : List Definition) (classes : List (List ℕ)) (d : Definition) → AreDistinct (map (λ x. x.0) D) → length classes ≡ length D → HaveParentsWithin classes → ((i : ℕ) → i < length D → map (defined_name D) (parents_of classes i) ≡ filter (is_defined D) (parents (get_or D i d).1)) → AreClassParents D classes
classes_of_parents D classes d distinct count within h =
    let same : (i : ℕ) → i < length classes → map (defined_name D) (parents_of classes i) ≡ above D (defined_name D i) = λ i lt. let less : i < length D = omega (arith, lt, count) in
    h i less ∙ sym (own_parents D i d distinct less) in
    record {
      count = count;
      within = within;
      parents = λ i lt name. (subst (λ ns. Contains ns name) (same i lt), subst (λ ns. Contains ns name) (sym (same i lt)));
    }
