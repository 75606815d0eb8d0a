-- Texts that a const-string names, whose numbers are not below a cap.
use Rattle.dexmerge.proofs.Common.{◌≡◌, ℕ, ◌<◌, ◌≤◌, Bool, true, false, leb, List, ◌++◌, length, map, refl, sym, ap, ◌∙◌, subst, arith, inl, inr, Option, Some, None, All, IsSome, IfSome, nat_lt, not, option_to_list, Contains, ltb-true, ltb-false, lt-ltb, le-leb, cases_lt, All-append, Mentions, Contains-nil, list_any-member, list_any-source, Contains-flat_map_source, Maps, image, KeepOrder, IsMappedUse, IsGreatest, shorts_remapped, NumberedItem, HasImages, NumberedMethod, methods_of, renumbered_members, members_uses, code_short_strings, method_short_strings, members_short_strings, all_back, NumberedClass, IsMappedClass, IsKnownClass, type_use, text_use, type_numbers, text_numbers, false≢true, not-true, le-ltb, lt-leb, false_from_ne_true, All-contains, same_Some}
use Rattle.dexcode.proofs.CodePlaces.{images_of_uses}
use Rattle.dexmembers.proofs.Images.{MethodHasImages, members_images}
use Rattle.dexmerge.specs.internal.Amounts.{short_numbers, has_from}
use Rattle.dexmerge.proofs.ShortStrings.{short_follows, option_source, short_denotes_text}

-- ---- by cases

-- where each number is below the cap, none is from it on
pub none_far : (cap : ℕ) (ns : List ℕ) → ((n : ℕ) → Contains ns n → n < cap) → has_from cap ns ≡ false
none_far cap ns below = false_from_ne_true (has_from cap ns) (λ e.
    let s = list_any-source (λ (n : ℕ). not (nat_lt n cap)) ns e in
    omega (arith, below s.0 s.1, ltb-false s.0 cap (not-true (nat_lt s.0 cap) s.2)))

pub at_least : (a b : ℕ) → leb a b ≡ not (nat_lt b a)
at_least a b = elim (cases_lt b a) [
  | inl less ↦ lt-leb a b less ∙ ap not (sym (lt-ltb b a less))
  | inr le ↦ le-leb a b le ∙ ap not (sym (le-ltb b a le))
]

-- ---- the greatest, remapped

module _ (r : Maps) (c : NumberedClass) (remapped : IsMappedClass r c) where
  -- each symbol in what it declares has an image
  members_remapped : All (IsMappedUse r) (members_uses c.members)
  members_remapped = all_back (IsMappedUse r) (map text_use (text_numbers c)) (members_uses c.members) (all_back (IsMappedUse r) (map type_use (type_numbers c)) (map text_use (text_numbers c) ++ members_uses c.members) remapped)

  -- so does each text that a const-string names
  pub text_remapped : (n : ℕ) → Contains (members_short_strings c.members) n → IsSome (image r.texts n)
  text_remapped n has =
      let images = members_images r (images_of_uses r) c.members members_remapped in
      let method = Contains-flat_map_source method_short_strings (methods_of c.members) n has in
      let y : NumberedMethod = method.0 in
      let own : MethodHasImages r y = All-contains (MethodHasImages r) (methods_of c.members) y (All-append (MethodHasImages r) c.members.direct_methods c.members.virtual_methods images.direct_methods_mapped images.virtual_methods_mapped) method.1 in
      let code = Contains-flat_map_source code_short_strings (option_to_list y.code) n method.2 in
      let k : NumberedItem = code.0 in
      shorts_remapped r k.body.pieces n (subst (λ (o : Option NumberedItem). IfSome o (HasImages r)) (option_source y.code k code.1) own.code_mapped).pieces_have code.2

  -- no text is named
  pub none_named : (cap : ℕ) → IsGreatest (members_short_strings c.members) None → has_from cap (members_short_strings (renumbered_members r c.members)) ≡ false
  none_named cap none = none_far cap (members_short_strings (renumbered_members r c.members)) (λ j has.
      let s = (short_follows r c.members).0 j has in absurd (Contains-nil s.0 (subst (λ (l : List ℕ). Contains l s.0) none s.1)))

  -- the greatest has no image
  pub none_remapped : (g : ℕ) → IsGreatest (members_short_strings c.members) (Some g) → image r.texts g ≡ None → ⊥
  none_remapped g is e = false≢true (subst IsSome e (text_remapped g is.0))

  -- no image of another is greater than the image of the greatest
  no_greater : (g k j : ℕ) → KeepOrder r → IsGreatest (members_short_strings c.members) (Some g) → image r.texts g ≡ Some k → Contains (members_short_strings (renumbered_members r c.members)) j → j ≤ k
  no_greater g k j order is to has =
      let s = (short_follows r c.members).0 j has in
      elim (cases_lt s.0 g) [
        | inl less ↦ (let lt = order.texts_keep s.0 g j k less s.2 to in omega (arith, lt))
        | inr ge ↦ (let same : s.0 ≡ g = omega (arith, All-contains (λ n. n ≤ g) (members_short_strings c.members) s.0 is.1 s.1, ge) in omega (arith, same_Some j k (sym s.2 ∙ ap (image r.texts) same ∙ to)))
      ]

  -- the greatest decides
  by_greatest : (g k cap : ℕ) (b : Bool) → nat_lt k cap ≡ b → KeepOrder r → IsGreatest (members_short_strings c.members) (Some g) → image r.texts g ≡ Some k → has_from cap (members_short_strings (renumbered_members r c.members)) ≡ not b
  by_greatest g k cap true test order is to = none_far cap (members_short_strings (renumbered_members r c.members)) (λ j has. omega (arith, no_greater g k j order is to has, ltb-true k cap test))
  by_greatest g k cap false test order is to = list_any-member (λ (n : ℕ). not (nat_lt n cap)) (members_short_strings (renumbered_members r c.members)) k ((short_follows r c.members).1 g k is.0 to) (ap not test)

  pub greatest_decides : (g k cap : ℕ) → KeepOrder r → IsGreatest (members_short_strings c.members) (Some g) → image r.texts g ≡ Some k → has_from cap (members_short_strings (renumbered_members r c.members)) ≡ not (nat_lt k cap)
  greatest_decides g k cap order is to = by_greatest g k cap (nat_lt k cap) refl order is to

-- ---- class by class

-- where there are no more texts than the cap, each number is below it
pub few_texts : (m : Mentions) (cs : List NumberedClass) (cap : ℕ) → All (IsKnownClass m) cs → length m.texts ≤ cap → has_from cap (short_numbers cs) ≡ false
few_texts m cs cap known few = none_far cap (short_numbers cs) (λ n has. let s = short_denotes_text m cs known n has in omega (arith, s.1.within, few))
