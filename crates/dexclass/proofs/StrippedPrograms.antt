-- Classes without their debug programs and source texts make the stripped program.
use Rattle.dexclass.proofs.Common.{◌≡◌, ℕ, ◌-◌, ◌^◌, ◌<◌, min, List, length, get_or, map, sym, ap, ◌∙◌, subst, arith, All, length-map, get_or-map, All-nil, All-map, Definition, Collection, definitions, IsCollectionOf, Mentions, mentions, in_class_order, AreWellFormed, Caps, IsGood, greatest_caps, strip_definition, strip, strip_collection, IsGood-within, definitions-distinct, in_class_order-only, in_class_order-has, class_names-apart, definitions-are, collection-one, members_in, AreKnownMembers, AreOrdered, AreOfClass, stripped_members, strip_members, members_weight, both_ways, AreDistinct, IsAcyclic, type_at}
use Rattle.dexspec.proofs.strip.StripCollection.{definitions-strip_collection}
use Rattle.dexspec.proofs.strip.StripGood.{IsGood-strip}
use Rattle.dexmembers.specs.Weighing.{numbered_members_weight}
use Rattle.dexclass.proofs.ProgramsOf.{one_class_order}
use Rattle.dexclass.specs.{NumberedClass, no_class, definition_of, IsKnownClass, AreClassesOf, AreMergeable}
use Rattle.dexclass.specs.internal.Stripped.{stripped_class}
use Rattle.dexclass.proofs.Places.{one_place}
use Rattle.dexclass.proofs.RowClasses.{body_weighs}
use Rattle.dexclass.specs.internal.Trimming.{AreTrimmed}
use Rattle.dexclass.proofs.Mergeable.{trimmed_mergeable}

-- ---- a class

-- it denotes the stripped definition
pub class_stripped : (m : Mentions) (c : NumberedClass) → members_in m (stripped_members c.members) ≡ strip_members (members_in m c.members) → definition_of m (stripped_class c) ≡ strip_definition (definition_of m c)
class_stripped m c e = λ i. (
  type_at m c.name,
  record (definition_of m (stripped_class c)).1 {
    annotations = (e i).annotations;
    static_fields = (e i).static_fields;
    instance_fields = (e i).instance_fields;
    direct_methods = (e i).direct_methods;
    virtual_methods = (e i).virtual_methods;
    static_values = (e i).static_values;
  },
)

-- its numbers are those of symbols
pub class_known : (m : Mentions) (c : NumberedClass) → IsKnownClass m c → AreKnownMembers m (stripped_members c.members) → AreOrdered (stripped_members c.members) → AreOfClass m (type_at m c.name) (stripped_members c.members)
    → numbered_members_weight (stripped_members c.members) ≡ members_weight (members_in m (stripped_members c.members)) → IsKnownClass m (stripped_class c)
class_known m c h known ordered own weighs = record {
  types_in = h.types_in;
  texts_in = All-nil (λ i. i < length m.texts);
  members_known = known;
  members_ordered = ordered;
  members_own = own;
  weighed = ap (λ (n : ℕ). min (2 ^ 64 - 1) n) (omega (arith, weighs, body_weighs (definition_of m (stripped_class c)).1, length-map c.interfaces (type_at m)));
}

-- ---- classes

-- they are known
pub all_known : (m : Mentions) (cs : List NumberedClass) → ((c : NumberedClass) → IsKnownClass m c → IsKnownClass m (stripped_class c)) → All (IsKnownClass m) cs → (old : List NumberedClass) → old ≡ map stripped_class cs → All (IsKnownClass m) old
all_known m cs each known old e = subst (All (IsKnownClass m)) (sym e) (All-map (IsKnownClass m) stripped_class cs (λ k d lt. each (get_or cs k d) (known k d lt)))

-- they denote the stripped definitions
pub all_stripped : (K : Collection) (cs : List NumberedClass) → AreClassesOf K cs → ((m : Mentions) (c : NumberedClass) → definition_of m (stripped_class c) ≡ strip_definition (definition_of m c)) → (old : List NumberedClass) → old ≡ map stripped_class cs
    → map (definition_of (mentions (definitions K))) old ≡ strip (in_class_order (definitions K))
all_stripped K cs of each old e =
    let m = mentions (definitions K) in
    ap (map (definition_of m)) e ∙ both_ways stripped_class (definition_of m) (definition_of m) strip_definition (each m) cs ∙ ap strip of.are

-- ---- programs

-- no two stripped definitions have one name
one_name : (E : List Definition) → ((i j : ℕ) (d : Definition) → i < j → j < length E → (get_or E i d).0 ≡ (get_or E j d).0 → ⊥) → (i j : ℕ) (d : Definition) → i < length (strip E) → j < length (strip E) → (get_or (strip E) i d).0 ≡ (get_or (strip E) j d).0 → i ≡ j
one_name E apart i j d li lj e =
    let few = length-map E strip_definition in
    let at : (k : ℕ) → k < length E → (get_or (strip E) k d).0 ≡ (get_or E k d).0 = λ k lt. ap (λ (x : Definition). x.0) (get_or-map strip_definition E k d d lt) in
    one_place (λ (x : Definition). x.0) E apart i j d (omega (arith, li, few)) (omega (arith, lj, few)) (sym (at i (omega (arith, li, few))) ∙ e ∙ at j (omega (arith, lj, few)))

-- what is good stays so
pub stays_good : (K : Collection) (caps : Caps) → IsGood caps (definitions K) → IsGood caps (definitions (strip_collection K))
stays_good K caps good = subst (IsGood caps) (sym (definitions-strip_collection K)) (IsGood-strip (definitions K) caps good)

module _ (K : Collection) where
  abbrev E : List Definition
  E = in_class_order (definitions K)

  -- and no other collection has
  order_of : IsCollectionOf E K
  order_of name c =
      let is = definitions-are K name c in
      (λ member. in_class_order-has (definitions K) (name, c) (definitions-distinct K) (is.0 member), λ has. is.1 (in_class_order-only (definitions K) (name, c) has))

  -- trimmed, they can be merged
  pub stripped_mergeable : (n : Mentions) (cs : List NumberedClass) → AreTrimmed (strip E) n cs → IsGood greatest_caps (definitions K) → AreWellFormed (definitions K) → (IsGood greatest_caps E → IsGood greatest_caps (strip E)) → (AreWellFormed E → AreWellFormed (strip E)) → AreMergeable n cs
  stripped_mergeable n cs trimmed good formed stays stay =
      trimmed_mergeable (strip E) n cs trimmed (one_name E (class_names-apart (definitions K))) (stays (IsGood-within E (definitions K) (in_class_order-only (definitions K)) greatest_caps good)) (stay (λ d c. formed d (in_class_order-only (definitions K) d c)))

  -- and their program is the stripped one
  pub stripped_collection : (n : Mentions) (cs : List NumberedClass) → AreTrimmed (strip E) n cs → (IsCollectionOf E K → IsCollectionOf (strip E) (strip_collection K)) → (L : Collection) → IsCollectionOf (map (definition_of n) cs) L → L ≡ strip_collection K
  stripped_collection n cs trimmed listed L is = collection-one (strip E) L (strip_collection K) (subst (λ (D : List Definition). IsCollectionOf D L) trimmed.same is) (listed order_of)

  -- no two of its definitions have one name
  names_apart : AreDistinct (map (λ (d : Definition). d.0) E)
  names_apart i j t less lt e =
      let few : j < length E = omega (arith, lt, length-map E (λ (d : Definition). d.0)) in
      let none : Definition = definition_of (mentions (definitions K)) no_class in
      class_names-apart (definitions K) i j none less few
      (sym (get_or-map (λ (d : Definition). d.0) E i none t (omega (arith, less, few))) ∙ e ∙ get_or-map (λ (d : Definition). d.0) E j none t few)

  -- definitions in order are in order
  in_order : IsAcyclic (definitions K) → in_class_order E ≡ E
  in_order acyclic =
      sym (one_class_order (definitions K) E (λ d. (in_class_order-has (definitions K) d (definitions-distinct K), in_class_order-only (definitions K) d)) acyclic (definitions-distinct K) names_apart)

  -- and they are so trimmed, where stripping keeps their order
  pub stripped_in_order : (n : Mentions) (cs : List NumberedClass) → AreTrimmed (strip E) n cs → IsAcyclic (definitions K) → in_class_order (strip E) ≡ strip (in_class_order E) → in_class_order (map (definition_of n) cs) ≡ map (definition_of n) cs
  stripped_in_order n cs trimmed acyclic kept = ap in_class_order trimmed.same ∙ kept ∙ ap strip (in_order acyclic) ∙ sym trimmed.same
