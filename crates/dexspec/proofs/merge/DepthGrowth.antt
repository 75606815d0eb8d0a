-- A name that has a depth among more definitions has a depth among fewer, and it is no greater.
use Rattle.dexspec.proofs.Common.{◌≡◌, ℕ, zero, suc, true, List, flat_map, filter}
use Rattle.dexspec.specs.{Text, same_text, Definition, AreWithin, parents, is_defined, above, is_below, HasDepth, IsAcyclic}
use Rattle.dexspec.proofs.lists.Members.{AreAmong, AreAmong-flat_map, AreAmong-filter, list_any-member, list_any-source, list_all-member, list_all-from_members}

module _ (D E : List Definition) (h : AreWithin D E) where
  -- a defined name stays defined
  pub is_defined-within : (name : Text) → is_defined D name ≡ true → is_defined E name ≡ true
  is_defined-within name e =
      let s = list_any-source (λ (d : Definition). same_text d.0 name) D e in
      list_any-member (λ (d : Definition). same_text d.0 name) E s.0 (h s.0 s.1) s.2

  pub above-within : (name : Text) → AreAmong (above D name) (above E name)
  above-within name =
      let named = λ (d : Definition). same_text d.0 name in
      let parents_of = λ (d : Definition). parents d.1 in
      AreAmong-filter (is_defined D) (is_defined E) (flat_map parents_of (filter named D)) (flat_map parents_of (filter named E)) is_defined-within
      (AreAmong-flat_map parents_of (filter named D) (filter named E) (AreAmong-filter named named D E (λ d e. e) h))

  -- a bound on the depth holds for fewer definitions
  pub is_below-within : (n : ℕ) (name : Text) → is_below E n name ≡ true → is_below D n name ≡ true
  is_below-within zero name e = e
  is_below-within (suc n) name e =
      list_all-from_members (is_below D n) (above D name) (λ p c. is_below-within n p (list_all-member (is_below E n) (above E name) p e (above-within name p c)))

  pub HasDepth-within : (name : Text) → HasDepth E name → HasDepth D name
  HasDepth-within name w = (w.0, is_below-within w.0 name w.1)

  pub IsAcyclic-within : IsAcyclic E → IsAcyclic D
  IsAcyclic-within a name e = HasDepth-within name (a name (is_defined-within name e))
