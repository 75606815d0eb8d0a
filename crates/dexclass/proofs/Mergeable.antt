-- Trimmed classes that can be merged.
use Rattle.dexclass.proofs.Common.{◌≡◌, ℕ, ◌<◌, List, length, get_or, map, sym, ap, ◌∙◌, subst, arith, length-map, get_or-map, AreDistinct, Definition, Mentions, mentions, AreWellFormed, IsGood, greatest_caps, ClassDefs, table_size, Collection, definitions, Denotes, IsCollectionOf, weight, mentions_weight, HoldBelow, AreRows, IsAccepted, IsGood-within, has_classes, AreReadable, rows_denote, denoted_rows, type_at}
use Rattle.dexclass.specs.internal.Trimming.{AreTrimmed}
use Rattle.dexclass.specs.{NumberedClass, definition_of, no_class, AreMergeable, IsReadAs}
use Rattle.std.specs.FinMap as finite
use Rattle.dexclass.specs.internal.Reading.{bodies_weight, IsWhole}
use Rattle.dexclass.proofs.RowsBelow.{weight_is, one_name, collection_denoted, light_accepted}

-- ---- names

-- the names of the classes are those of the definitions
named : (n : Mentions) (cs : List NumberedClass) (i : ℕ) (d : Definition) (e : ℕ) → i < length cs → (get_or (map (definition_of n) cs) i d).0 ≡ type_at n (get_or (map (λ (c : NumberedClass). c.name) cs) i e)
named n cs i d e lt =
    ap (λ (x : Definition). x.0) (get_or-map (definition_of n) cs i no_class d lt)
    ∙ ap (type_at n) (sym (get_or-map (λ (c : NumberedClass). c.name) cs i no_class e lt))

-- definitions of which no two have one name are of classes of which no two have
names_differ : (n : Mentions) (cs : List NumberedClass) → ((i j : ℕ) (d : Definition) → i < length cs → j < length cs → (get_or (map (definition_of n) cs) i d).0 ≡ (get_or (map (definition_of n) cs) j d).0 → i ≡ j)
    → AreDistinct (map (λ (c : NumberedClass). c.name) cs)
names_differ n cs one i j e less lt same =
    let few : j < length cs = omega (arith, lt, length-map cs (λ (c : NumberedClass). c.name)) in
    let d = definition_of n no_class in
    omega (arith, (one i j d (omega (arith, less, few)) few (named n cs i d e (omega (arith, less, few)) ∙ ap (type_at n) same ∙ sym (named n cs j d e few))), less)

-- ---- trimmed classes

-- trimmed classes can be merged where the definitions are good and well formed, and no two have one name
pub trimmed_mergeable : (D : List Definition) (n : Mentions) (cs : List NumberedClass) → AreTrimmed D n cs → ((i j : ℕ) (d : Definition) → i < length D → j < length D → (get_or D i d).0 ≡ (get_or D j d).0 → i ≡ j)
    → IsGood greatest_caps D → AreWellFormed D → AreMergeable n cs
trimmed_mergeable D n cs t one good formed =
    let few : length D ≡ length cs = ap length (sym t.same) ∙ length-map cs (definition_of n) in
    record {
      known = t.known;
      mentions_are = t.mentions_are ∙ ap mentions (sym t.same);
      names_differ = names_differ n cs (λ i j d li lj e.
          let at : (x : Definition) (k : ℕ) → (get_or (map (definition_of n) cs) k x).0 ≡ (get_or D k x).0 = λ x k. ap (λ (l : List Definition). (get_or l k x).0) t.same in
          one i j d (omega (arith, li, few)) (omega (arith, lj, few)) (sym (at d i) ∙ e ∙ at d j));
      good = subst (IsGood greatest_caps) (sym t.same) good;
      formed = subst AreWellFormed (sym t.same) formed;
    }

-- trimmed classes have the weight that was computed for them
pub total_is : (D : List Definition) (n : Mentions) (cs : List NumberedClass) → AreTrimmed D n cs → (bodies total : ℕ) → bodies ≡ bodies_weight D → IsWhole n bodies total → total ≡ weight (map (definition_of n) cs)
total_is D n cs trimmed bodies total sum whole =
    let all : total ≡ weight D = omega (arith, whole.weight_is, sum, (ap mentions_weight trimmed.mentions_are), weight_is D) in
    all ∙ ap weight (sym trimmed.same)

module _ (b : List ℕ) (h : HoldBelow 17 b) (D : List Definition) (readable : AreReadable b) (rows : AreRows b (table_size b ClassDefs) D) (n : Mentions) (cs : List NumberedClass) (trimmed : AreTrimmed D n cs) (bodies total : ℕ) (sum : bodies ≡ bodies_weight D)
    (whole : IsWhole n bodies total) where
  pub accepted : IsAccepted b
  accepted = light_accepted b h D readable rows (omega (arith, whole.light, whole.weight_is, sum, ap mentions_weight trimmed.mentions_are, weight_is D))

  -- the file is read as the collection of the classes
  pub read_as : (K : Collection) → IsCollectionOf (map (definition_of n) cs) K → IsReadAs b K
  read_as K is = record {
    accepted = accepted;
    denotes = collection_denoted b (has_classes b h) D rows K (subst (λ (E : List Definition). IsCollectionOf E K) trimmed.same is);
  }

  -- the classes can be merged, where what an accepted file denotes is good and well formed
  pub mergeable : ((K : Collection) → IsAccepted b → Denotes b K → IsGood greatest_caps (definitions K)) → ((K : Collection) → IsAccepted b → Denotes b K → AreWellFormed (definitions K)) → AreMergeable n cs
  mergeable good formed =
      let K = finite.from_entries D in
      let denotes = rows_denote b (has_classes b h) D rows in
      let same = denoted_rows b (has_classes b h) D rows K denotes in
      trimmed_mergeable D n cs trimmed (one_name b (has_classes b h) (table_size b ClassDefs) D rows) (IsGood-within D (definitions K) (λ d c. (same d).1 c) greatest_caps (good K accepted denotes))
      (λ d c. formed K accepted denotes d ((same d).1 c))
