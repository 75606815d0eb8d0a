-- Classes in the order of a canonical file are a program, which weighs what they weigh with the numbering.
use Rattle.dexclass.proofs.Common.{◌≡◌, ℕ, suc, ◌^◌, ◌+◌, ◌<◌, ◌≤◌, List, length, length-map, map, get_or, sym, ap, ◌∙◌, subst, arith, sum_by, All, Contains, Contains-get_or, AreDistinct, Definition, Collection, definitions, AreSame, IsCollectionOf, Mentions, mentions, in_class_order, mentions_weight, body_weight, weight, IsConsistent, greatest_caps, AreDistinct-map_source, mentions-same, IsGood-within, weight-same, in_class_order-only, in_class_order-has, definitions-distinct, definitions-different, collection-is, definitions-same, IsNumbering, [], ◌∷◌, refl, same_text, place_cmp, is_defined, IsAcyclic, Contains-first, Contains-later, Contains-nil, list_any-member, Rises, Rises-same, depth-same, class_place, class_places-rise, same_from_equal, true}
use Rattle.dexspec.proofs.size.SizeSums.{sum_by-map}
use Rattle.dexclass.specs.{NumberedClass, definition_of, IsKnownClass, no_class, AreNamed, collection_of, AreMergeable, IsProgram}
use Rattle.dexclass.proofs.Ordered.{names_apart}
use Rattle.dexorder.proofs.DefinitionOrder.{Rises-mapped, definition_cmp, definition_total}

-- lists are mapped to the same list by functions that agree on each member
mapped_equal : {X Y : Type 0} (f g : X → Y) (xs : List X) → ((x : X) → Contains xs x → f x ≡ g x) → map f xs ≡ map g xs
mapped_equal f g [] h = refl
mapped_equal f g (x ∷ xs) h =
    λ i. (h x (Contains-first x xs)) i ∷ (mapped_equal f g xs (λ y c. h y (Contains-later x y xs c))) i

module _ (D E : List Definition) (same : AreSame D E) (acyclic : IsAcyclic D) where
  -- each member has one place in both
  one_place : (d : Definition) → Contains D d → class_place D d ≡ class_place E d
  one_place d c =
      let defined : is_defined D d.0 ≡ true = list_any-member (λ x. same_text x.0 d.0) D d c (same_from_equal d.0 d.0 refl) in
      λ i. ((depth-same D E d.0 (λ x m. (same x).0 m) (λ x m. (same x).1 m) (acyclic d.0 defined)) i, d.0)

  -- lists of the same members, of which no two have one name, give one list
  pub one_class_order : AreDistinct (map (λ d. d.0) D) → AreDistinct (map (λ d. d.0) E) → in_class_order D ≡ in_class_order E
  one_class_order apart other =
      let places : map (class_place E) (in_class_order E) ≡ map (class_place D) (in_class_order E) = mapped_equal (class_place E) (class_place D) (in_class_order E) (λ d c. sym (one_place d ((same d).1 (in_class_order-only E d c)))) in
      Rises-same (definition_cmp D) (definition_total D) (in_class_order D) (in_class_order E) (Rises-mapped place_cmp (class_place D) (in_class_order D) (class_places-rise D)) (Rises-mapped place_cmp (class_place D) (in_class_order E) (subst (Rises place_cmp) places (class_places-rise E)))
      (λ d c. in_class_order-has E d other ((same d).0 (in_class_order-only D d c)))
      (λ d c. in_class_order-has D d apart ((same d).1 (in_class_order-only E d c)))

-- a definition alone is in order
few_in_order : (D : List Definition) → length D < 2 → AreDistinct (map (λ d. d.0) D) → D ≡ in_class_order D
few_in_order D few apart = Rises-same (definition_cmp D) (definition_total D) D (in_class_order D) (alone D few) (Rises-mapped place_cmp (class_place D) (in_class_order D) (class_places-rise D)) (λ d c. in_class_order-has D d apart c) (λ d c. in_class_order-only D d c)
  where
    alone : (E : List Definition) → length E < 2 → Rises (definition_cmp D) E
    alone [] lt = tt
    alone (d ∷ []) lt = ((λ x c. absurd (Contains-nil x c)), tt)
    alone (d ∷ e ∷ more) lt = absurd (omega (arith, lt))

-- what classes weigh is what their bodies weigh with what they mention
pub weight_parts : (m : Mentions) (cs : List NumberedClass) → m ≡ mentions (map (definition_of m) cs) → weight (map (definition_of m) cs) ≡ 1024 + mentions_weight m + sum_by (λ (c : NumberedClass). body_weight (definition_of m c).1) cs
unfolding weight
weight_parts m cs e =
    let D = map (definition_of m) cs in
    omega (arith, ap mentions_weight e, sum_by-map (λ (d : Definition). body_weight d.1) (definition_of m) cs)

module _ (m : Mentions) (cs : List NumberedClass) (h : AreMergeable m cs) (numbering : IsNumbering m) where
  abbrev D : List Definition
  D = map (definition_of m) cs

  -- a class's numbers are those of the numbering
  ranged : (c : NumberedClass) → Contains cs c → IsKnownClass m c
  ranged c member = subst (IsKnownClass m) member.2 (h.known member.0 c member.1)

  -- the names and parents are types
  pub named : AreNamed m cs
  named = record {
    rising = numbering.rising.types_rise;
    names = λ i lt. (h.known i no_class lt).types_in 0 0 (omega arith);
    parents_in = λ c member k d lt. (ranged c member).types_in (suc k) d (omega (arith, lt));
    distinct = h.names_differ;
  }

  -- no two definitions have one name
  apart : AreDistinct (map (λ d. d.0) D)
  apart = names_apart m cs named

  distinct : AreDistinct D
  distinct = AreDistinct-map_source (λ (d : Definition). d.0) D apart

  -- so they weigh what a file can hold
  pub weight_bound : weight D ≤ 2 ^ 30
  weight_bound = h.good.fits.weight D distinct (λ d c. c)

  module _ (new : List NumberedClass) (range : (c : NumberedClass) → Contains new c → Contains cs c) (order : map (definition_of m) new ≡ in_class_order D) where
    abbrev K : Collection
    K = collection_of m new

    same : AreSame (map (definition_of m) new) D
    same d = (
      λ c. in_class_order-only D d (subst (λ (l : List Definition). Contains l d) order c),
      λ c. subst (λ (l : List Definition). Contains l d) (sym order) (in_class_order-has D d apart c),
    )

    consistent : IsConsistent (map (definition_of m) new)
    consistent name one other c d = h.good.consistent name one other ((same (name, one)).0 c) ((same (name, other)).0 d)

    -- their collection is that of the classes
    pub collection_is : IsCollectionOf D K
    collection_is name c =
        let is = collection-is (map (definition_of m) new) consistent name c in
        (λ e. (same (name, c)).0 (is.0 e), λ x. is.1 ((same (name, c)).1 x))

    members : AreSame (definitions K) D
    members = definitions-same D K collection_is

    within : (d : Definition) → Contains (definitions K) d → Contains D d
    within d c = (members d).0 c

    back : (d : Definition) → Contains D d → Contains (definitions K) d
    back d c = (members d).1 c

    mentioned : m ≡ mentions (definitions K)
    mentioned = h.mentions_are ∙ mentions-same D (definitions K) back within

    pub program_is : (heavy : ℕ) → heavy ≡ weight D → IsProgram m new heavy
    program_is heavy e = record {
      mentions_are = mentioned;
      classes_are = record {
        known = subst (λ (n : Mentions). All (IsKnownClass n) new) mentioned (λ k d lt. ranged (get_or new k d) (range (get_or new k d) (Contains-get_or new k d lt)));
        are = ap (λ (n : Mentions). map (definition_of n) new) (sym mentioned) ∙ order ∙ one_class_order D (definitions K) (λ d. (back d, within d)) h.good.acyclic apart (definitions-distinct K);
      };
      good = IsGood-within (definitions K) D within greatest_caps h.good;
      formed = λ d c. h.formed d (within d c);
      weight_is = e ∙ weight-same D (definitions K) distinct (definitions-different K) back within;
    }

  module _ (few : length cs < 2) where
    alone : map (definition_of m) cs ≡ in_class_order D
    alone = few_in_order D (omega (arith, few, length-map cs (definition_of m))) apart

    pub one_collection_is : IsCollectionOf D (collection_of m cs)
    one_collection_is = collection_is cs (λ c member. member) alone

    pub one_program_is : (heavy : ℕ) → heavy ≡ weight D → IsProgram m cs heavy
    one_program_is = program_is cs (λ c member. member) alone
