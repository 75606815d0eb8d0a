-- The depths of classes by name, and the first class without one, which has the least name that has none.
use Rattle.dexmerge.proofs.Common.{◌≡◌, ℕ, ◌+◌, ◌<◌, true, List, length, get_or, map, refl, sym, ap, ◌∙◌, subst, arith, inl, inr, Option, Some, None, Less, All, IsSome, slice_set, Contains, cases_order, cases_lt, length-map, get_or_default, get_or-set_same, get_or-set_other, Text, text_cmp, same_text, Definition, AreSame, IsAcyclic, depth, is_defined, Mentions, IsCycle, list_any-member, depth-same, AreDepths, IsDepthOrNone, AllHaveDepths, IsFirstWithout, NumberedClass, type_at, definition_of, no_class, name_number, IsHierarchy, AreDepthsByName, false≢true}
use Rattle.dexspec.proofs.lists.Mapped.{Contains-map_source}
use Rattle.dexorder.specs.Definitions.{AreClassParents}
use Rattle.dexorder.proofs.DefinitionDepths.{no_cycle, is_cycle, cycle_class, same_from_equal}
use Rattle.dexorder.proofs.DefinitionOrder.{own_depths}
use Rattle.dexclass.proofs.Classed.{name_is, one_number}
use Rattle.dexclass.proofs.NamesOf.{less_type}
use Rattle.dexclass.proofs.Ordered.{are_classes}
use Rattle.dexmerge.specs.internal.Cycles.{AreKept, HaveDepths, IsFirstCycle}

-- depths by name rest on the members alone
pub depths_same : (m : Mentions) (D E : List Definition) (by_name : List (Option ℕ)) → AreSame D E → IsAcyclic D → AreDepthsByName m D by_name → AreDepthsByName m E by_name
depths_same m D E by_name same acyclic h = record {
  count = h.count;
  each = λ d has t lt e.
      let there : Contains D d = (same d).1 has in
      let defined : is_defined D d.0 ≡ true = list_any-member (λ (x : Definition). same_text x.0 d.0) D d there (same_from_equal d.0 d.0 refl) in
      h.each d there t lt e ∙ ap Some (depth-same D E d.0 (λ x c. (same x).0 c) (λ x c. (same x).1 c) (acyclic d.0 defined));
}

module _ (m : Mentions) (cs : List NumberedClass) (kept : AreKept m cs) where
  -- names are types
  pub kept_below : All (λ c. c.name < length m.types) cs
  kept_below i d lt = subst (λ (x : NumberedClass). x.name < length m.types) (get_or_default cs i no_class d lt) (kept.named.names i lt)

  abbrev D : List Definition
  D = map (definition_of m) cs

  -- a class of a lesser name comes before
  pub before_of_less : (i j : ℕ) → i < length cs → j < length cs → text_cmp (type_at m (name_number cs j)) (type_at m (name_number cs i)) ≡ Less → j < i
  before_of_less i j li lj e =
      let l = (less_type m kept.named.rising (name_number cs j) (name_number cs i) (kept.named.names j lj) (kept.named.names i li)).1 e in
      elim (cases_order j i) [
        | inl same ↦ absurd (omega (arith, l, ap (name_number cs) same))
        | inr (inl less) ↦ less
        | inr (inr more) ↦ absurd (omega (arith, l, kept.rise i j more lj))
      ]

  -- the depth of one class more is entered at its name
  pub by_name_more : (depths old : List (Option ℕ)) (i name : ℕ) (x : Option ℕ) → i < length cs → length old ≡ length m.types → name ≡ name_number cs i → x ≡ get_or depths i None
      → ((k : ℕ) → k < i → get_or old (name_number cs k) None ≡ get_or depths k None) → (k : ℕ) → k < i + 1 → get_or (slice_set old name x) (name_number cs k) None ≡ get_or depths k None
  by_name_more depths old i name x lt count is e before k less = elim (cases_lt k i) [
    | inl small ↦ get_or-set_other old name (name_number cs k) x None (λ same. absurd (omega (arith, kept.rise k i small lt, same, is))) ∙ before k small
    | inr large ↦
        let at : i ≡ k = omega (arith, large, less) in
        ap (λ (t : ℕ). get_or (slice_set old name x) t None) (ap (name_number cs) (sym at) ∙ sym is) ∙ get_or-set_same old name x None (omega (arith, kept.named.names i lt, count, is)) ∙ e ∙ ap (λ (n : ℕ). get_or depths n None) at
  ]

  -- the depths of all classes are there by name
  pub by_name_is : (depths by_name : List (Option ℕ)) → length by_name ≡ length m.types → ((k : ℕ) → k < length cs → get_or by_name (name_number cs k) None ≡ get_or depths k None) → HaveDepths m cs depths → AreDepthsByName m D by_name
  by_name_is depths by_name count all h = record {
    count = count;
    each = λ d has t lt e.
        let s = Contains-map_source (definition_of m) cs d has in
        let i : ℕ = s.1.0 in
        let few : i < length cs = s.1.1 in
        let name : type_at m (name_number cs i) ≡ d.0 = ap (λ (c : NumberedClass). type_at m c.name) (get_or_default cs i no_class s.0 few ∙ s.1.2) ∙ ap (λ (x : Definition). x.0) s.2 in
        ap (λ (n : ℕ). get_or by_name n None) (sym (one_number m cs kept.named (name_number cs i) t (kept.named.names i few) lt (name ∙ sym e))) ∙ all i few ∙ (h.are.each i (omega (arith, few, length-map cs (definition_of m)))) ∙ ap (λ (x : Text). Some (depth D x)) (name_is m cs kept.named i few ∙ name);
  }

  module _ (H : List (List ℕ)) (h : IsHierarchy cs H) where
    pub numbered : AreClassParents D H
    numbered = are_classes m cs kept.named H h

    count : length H ≡ length cs
    count = numbered.count ∙ length-map cs (definition_of m)

    module _ (depths : List (Option ℕ)) (a : AreDepths H depths) where
      -- the first class without a depth
      pub first_is : (i : ℕ) → IsFirstWithout depths i → IsFirstCycle m cs i
      first_is i f =
          let few : i < length cs = omega (arith, f.within, a.count, count) in
          let inside : i < length H = omega (arith, f.within, a.count) in
          record {
            within = few;
            is = subst (IsCycle D) (name_is m cs kept.named i few) (is_cycle D H numbered i inside (subst (IsDepthOrNone H i) f.none (a.is_depth i inside)));
            least = λ name x less.
                let s = cycle_class D H numbered depths name a x in
                let own : s.0 < length cs = omega (arith, s.1, count) in
                false≢true (subst IsSome s.3 (f.before s.0 (before_of_less i s.0 few own (subst (λ (t : Text). text_cmp t (type_at m (name_number cs i)) ≡ Less) (sym s.2 ∙ name_is m cs kept.named s.0 own) less))));
          }

      -- where each class has a depth, the depths are those of the definitions
      pub depths_are : AllHaveDepths depths → HaveDepths m cs depths
      depths_are all = record { acyclic = no_cycle D H numbered depths a all; are = own_depths D H depths numbered a all }
