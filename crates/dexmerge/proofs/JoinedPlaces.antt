-- In a part of a union that is good under the greatest caps each number of a class maps to one that fits its place.
use Rattle.dexmerge.proofs.Common.{◌≡◌, ℕ, ◌*◌, ◌^◌, ◌<◌, ◌≤◌, List, [], ◌∷◌, ◌++◌, length, map, refl, sym, ap, ◌∙◌, subst, arith, inl, inr, Option, Some, None, All, Contains, cases_lt, All-nil, All-cons, All-weaker, rank, text_cmp, Definition, Collection, definitions, AreWithin, Mentions, mentions, weight, IsGood, greatest_caps, HasShortString-within, mentions-same, Contains-nil, Contains-first, Contains-later, Contains-cons_cases, Contains-flat_map, Maps, AllMapTo, KeepOrder, IsMappedUse, ImagesFit, IsGreatest, IsNotTooLarge, MapsShort, NumberedMembers, members_uses, members_short_strings, MembersHavePlaces, all_back, NumberedClass, definition_of, IsKnownClass, type_use, text_use, type_numbers, text_numbers, renumbered_class, ClassHasPlaces, StaysSame}
use Rattle.dexspec.proofs.lists.Decided.{definition_same_or_not}
use Rattle.dexspec.proofs.lists.Searches.{once_of}
use Rattle.dexspec.proofs.size.SizeClasses.{mentions-cover}
use Rattle.dexmerge.specs.internal.Collecting.{IsPartOf}
use Rattle.dexmerge.proofs.PartMembers.{KeepMeaning, MapClasses, remapped_class}
use Rattle.dexmerge.proofs.ShortStrings.{short_follows, short_denotes_text, rank_is}

-- ---- the greatest of numbers

one_more : (n : ℕ) (ns : List ℕ) (o : Option ℕ) → IsGreatest ns o → (p : Option ℕ) × IsGreatest (n ∷ ns) p
one_more n ns None none = (Some n, subst (λ (l : List ℕ). IsGreatest (n ∷ l) (Some n)) (sym none) (Contains-first n [], All-cons (λ k. k ≤ n) n [] (omega arith) (All-nil (λ k. k ≤ n))))
one_more n ns (Some g) is = elim (cases_lt g n) [
  | inl less ↦ (Some n, (Contains-first n ns, All-cons (λ k. k ≤ n) n ns (omega arith) (All-weaker (λ k. k ≤ g) (λ k. k ≤ n) (λ k h. omega (arith, h, less)) ns is.1)))
  | inr le ↦ (Some g, (Contains-later n g ns is.0, All-cons (λ k. k ≤ g) n ns le is.1))
]

greatest_is : (ns : List ℕ) → (o : Option ℕ) × IsGreatest ns o
greatest_is [] = (None, refl)
greatest_is (n ∷ ns) = let rest = greatest_is ns in one_more n ns rest.0 rest.1

-- ---- maps of a join

keep_order : (m n : Mentions) (r : Maps) → AllMapTo m n r → KeepOrder r
keep_order m n r l = record {
  texts_keep = l.texts_mapped.rising;
  types_keep = l.types_mapped.rising;
  protos_keep = l.protos_mapped.rising;
  fields_keep = l.fields_mapped.rising;
  methods_keep = l.methods_mapped.rising;
}

-- maps into a numbering that is not too large map to numbers that fit
abbrev pub MapsFit : Type 0
MapsFit = (m n : Mentions) (r : Maps) → AllMapTo m n r → IsNotTooLarge n → ImagesFit r

-- where the greatest short string maps to a number that is low enough, each number of members maps to one that fits its
-- place
abbrev pub MembersFit : Type 0
MembersFit = (r : Maps) (x : NumberedMembers) (greatest : Option ℕ) → KeepOrder r → ImagesFit r → IsGreatest (members_short_strings x) greatest → MapsShort r greatest → All (IsMappedUse r) (members_uses x) → MembersHavePlaces r x

-- what definitions weigh bounds the number of texts that they mention
texts_weigh : (E : List Definition) → 4 * length (mentions E).texts ≤ weight E
unfolding weight
texts_weigh E = omega (arith, mentions-cover (mentions E))

-- in what is good under the greatest caps, nothing is too large
not_too_large : (m : Mentions) (D : List Definition) → m ≡ mentions D → IsGood greatest_caps D → IsNotTooLarge m
not_too_large m D own good =
    let o = once_of definition_same_or_not D in
    record {
      texts_few = omega (arith, good.fits.weight o.once o.distinct o.only, texts_weigh o.once, ap (λ (n : Mentions). length n.texts) (own ∙ sym (mentions-same o.once D o.only o.has)));
      types_few = omega (arith, good.fits.types, ap (λ (n : Mentions). length n.types) own);
      protos_few = omega (arith, good.fits.protos, ap (λ (n : Mentions). length n.protos) own);
      fields_few = omega (arith, good.fits.fields, ap (λ (n : Mentions). length n.fields) own);
      methods_few = omega (arith, good.fits.methods, ap (λ (n : Mentions). length n.methods) own);
    }

module _ (maps_fit : MapsFit) (members_fit : MembersFit) (keep : KeepMeaning) (maps_to : MapClasses) (m : Mentions) (K : Collection) (r : Maps) (p : IsPartOf m K r) where
  abbrev own : Mentions
  own = mentions (definitions K)

  module _ (c : NumberedClass) (known : IsKnownClass own c) (has : Contains (definitions K) (definition_of own c)) where
    abbrev to : NumberedClass
    to = renumbered_class r c

    stays : StaysSame own m r c
    stays = keep own m r c p.are_mapped.are_mapped (remapped_class maps_to K r c p.are_mapped.all known) known

    -- remapped, it denotes a definition of the whole
    is_within : AreWithin (map (definition_of m) (to ∷ [])) p.whole
    is_within d has_d = elim (Contains-cons_cases (definition_of m to) d [] has_d) [
      | inl e ↦ subst (Contains p.whole) (sym stays.same ∙ e) (p.within (definition_of own c) has)
      | inr never ↦ absurd (Contains-nil d never)
    ]

    -- the text of a const-string has a number of 16 bits
    short_below : (j : ℕ) → Contains (members_short_strings to.members) j → j < 2 ^ 16
    short_below j in_class =
        let f = short_denotes_text m (to ∷ []) (All-cons (IsKnownClass m) to [] stays.known (All-nil (IsKnownClass m))) j
        (Contains-flat_map (λ (x : NumberedClass). members_short_strings x.members) (to ∷ []) to j (Contains-first to []) in_class) in
        omega (arith, p.good.fits.short_strings f.0 (HasShortString-within (map (definition_of m) (to ∷ [])) p.whole is_within f.0 f.2), ap (λ (n : Mentions). rank text_cmp f.0 n.texts) (sym p.mentions_are) ∙ rank_is m p.rising j f.0 f.1)

    -- no short string maps to a number that is too large
    maps_low : (g : Option ℕ) → IsGreatest (members_short_strings c.members) g → MapsShort r g
    maps_low None is = tt
    maps_low (Some g) is = λ j there. short_below j ((short_follows r c.members).1 g j is.0 there)

    -- each number of the class has its place
    pub places_by : ClassHasPlaces r c
    places_by =
        let x : NumberedMembers = c.members in
        let g = greatest_is (members_short_strings x) in
        let uses : All (IsMappedUse r) (members_uses x) = all_back (IsMappedUse r) (map text_use (text_numbers c)) (members_uses x) (all_back (IsMappedUse r) (map type_use (type_numbers c)) (map text_use (text_numbers c) ++ members_uses x) (remapped_class maps_to K r c p.are_mapped.all known)) in
        members_fit r x g.0 (keep_order own m r p.are_mapped.are_mapped) (maps_fit own m r p.are_mapped.are_mapped (not_too_large m p.whole p.mentions_are p.good)) g.1 (maps_low g.0 g.1) uses
