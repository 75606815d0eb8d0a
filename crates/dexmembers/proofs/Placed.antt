-- Members whose numbers have images, after a cut and after a join: each image fits its place.
use Rattle.dexmembers.proofs.Common.{◌≡◌, ℕ, ◌<◌, ◌≤◌, Bool, true, false, nat_lt, max, List, [], ◌∷◌, ◌++◌, Option, Some, None, refl, sym, ap, subst, ◌∙◌, arith, inl, inr, IsSome, IfSome, option_to_list, All, Contains, flat_map, ltb-true, ltb-false, append-nil, All-nil, All-cons, All-head, All-tail, All-append, All-weaker, Contains-append_left, Contains-append_right, Contains-append_cases, Contains-nil, Contains-first, Maps, image, image_of, KeepOrder, ImagesFit, IsGreatest, MapsShort, short_strings, NumberedItem, HasPlaces, HasImages, NumberedSet, NumberedValues, MapsNarrow, SetHasPlaces, HavePlaces, all_prefix, all_back}
use Rattle.std.specs.Ordering.{ord_max, nat_cmp}
use Rattle.std.specs.Option.{option_cmp}
use Rattle.dexpool.specs.declared.symbols.SymbolKind.{SymbolKind}
use Rattle.dexpool.specs.declared.symbols.SymbolKind.TheVariants as kinds
use Rattle.dexinsn.proofs.Fits.{ShortMapped, short_mapped, shorts_remapped}
use Rattle.dexcode.specs.Renumbering as code
use Rattle.dexpool.specs.Images.{IsMapped}
use Rattle.dexmembers.specs.{NumberedField, NumberedMethod, NumberedMembers, methods_of, FieldHasPlaces, MethodHasPlaces, MembersHavePlaces, MethodFits, NumbersFit, code_short_strings, method_short_strings, members_short_strings}
use Rattle.dexpool.proofs.KeptTables.{all_both}
use Rattle.dexmembers.proofs.RenumberingLists.{options_both}
use Rattle.dexmembers.proofs.Images.{SetHasImages, HaveImages, FieldHasImages, MethodHasImages, MembersHaveImages}
use Rattle.dexpool.proofs.Numbers.{some_of}

-- the code of the method, if it has some, has places
abbrev pub CodePlaced : Maps → NumberedMethod → Type 0
CodePlaced r x = IfSome x.code (HasPlaces r)

-- ---- from code that has places to members that have

module _ (r : Maps) (narrow : MapsNarrow r) (sets : (s : NumberedSet) → SetHasImages r s → SetHasPlaces r s) (values : (xs : NumberedValues) → HaveImages r xs → HavePlaces r xs) where
  on : (kind : SymbolKind) (i : ℕ) → IsSome (image_of r kind i) → IsMapped r kind i
  on kind i h = let at = some_of (image_of r kind i) h in (at.0, at.1, λ lt. narrow kind i at.0 at.1 lt)

  field_placed : (f : NumberedField) → FieldHasImages r f → FieldHasPlaces r f
  field_placed f h = record { number_mapped = on kinds.Field f.number h.number_mapped; annotations_mapped = sets f.annotations h.annotations_mapped }

  method_placed : (x : NumberedMethod) → MethodHasImages r x → CodePlaced r x → MethodHasPlaces r x
  method_placed x h placed = record {
    number_mapped = on kinds.Method x.number h.number_mapped;
    code_mapped = placed;
    annotations_mapped = sets x.annotations h.annotations_mapped;
    parameters_mapped = All-weaker (SetHasImages r) (SetHasPlaces r) sets x.parameter_annotations h.parameters_mapped;
  }

  pub members_placed : (x : NumberedMembers) → MembersHaveImages r x → All (CodePlaced r) (methods_of x) → MembersHavePlaces r x
  members_placed x h placed = record {
    annotations_mapped = sets x.annotations h.annotations_mapped;
    static_fields_mapped = All-weaker (FieldHasImages r) (FieldHasPlaces r) field_placed x.static_fields h.static_fields_mapped;
    instance_fields_mapped = All-weaker (FieldHasImages r) (FieldHasPlaces r) field_placed x.instance_fields h.instance_fields_mapped;
    direct_methods_mapped = all_both (MethodHasImages r) (CodePlaced r) (MethodHasPlaces r) x.direct_methods h.direct_methods_mapped (all_prefix (CodePlaced r) x.direct_methods x.virtual_methods placed) method_placed;
    virtual_methods_mapped = all_both (MethodHasImages r) (CodePlaced r) (MethodHasPlaces r) x.virtual_methods h.virtual_methods_mapped (all_back (CodePlaced r) x.direct_methods x.virtual_methods placed) method_placed;
    values_mapped = values x.static_values h.values_mapped;
  }

-- all methods have images
methods_mapped : (r : Maps) (x : NumberedMembers) → MembersHaveImages r x → All (MethodHasImages r) (methods_of x)
methods_mapped r x h = All-append (MethodHasImages r) x.direct_methods x.virtual_methods h.direct_methods_mapped h.virtual_methods_mapped

-- ---- after a cut

pub code_cut : (r : Maps) (x : NumberedMembers) → ((c : NumberedItem) → HasImages r c → code.NumbersFit c → HasPlaces r c) → MembersHaveImages r x → NumbersFit x → All (CodePlaced r) (methods_of x)
code_cut r x cut h fit = all_both (MethodHasImages r) MethodFits (CodePlaced r) (methods_of x) (methods_mapped r x h) fit (λ y maps_to fits. options_both (HasImages r) code.NumbersFit (HasPlaces r) cut y.code maps_to.code_mapped fits)

-- ---- the greatest of numbers

-- of two greatest numbers the greater is the greatest of all
both_by : (ns ks : List ℕ) (g h m : ℕ) (b : Bool) → nat_lt g h ≡ b → max g h ≡ m → IsGreatest ns (Some g) → IsGreatest ks (Some h) → IsGreatest (ns ++ ks) (Some m)
both_by ns ks g h m true test e is are =
    let less : g < h = ltb-true g h test in
    let same : h ≡ m = omega (arith, e, less) in (
      Contains-append_right ns ks m (subst (Contains ks) same are.0),
      All-append (λ k. k ≤ m) ns ks (All-weaker (λ k. k ≤ g) (λ k. k ≤ m) (λ k le. omega (arith, le, less, same)) ns is.1) (All-weaker (λ k. k ≤ h) (λ k. k ≤ m) (λ k le. omega (arith, le, same)) ks are.1),
    )
both_by ns ks g h m false test e is are =
    let le : h ≤ g = ltb-false g h test in
    let same : g ≡ m = omega (arith, e, le) in (
      Contains-append_left ns ks m (subst (Contains ns) same is.0),
      All-append (λ k. k ≤ m) ns ks (All-weaker (λ k. k ≤ g) (λ k. k ≤ m) (λ k less. omega (arith, less, same)) ns is.1) (All-weaker (λ k. k ≤ h) (λ k. k ≤ m) (λ k less. omega (arith, less, le, same)) ks are.1),
    )

pub both_greatest : (ns ks : List ℕ) (g h : ℕ) → IsGreatest ns (Some g) → IsGreatest ks (Some h) → IsGreatest (ns ++ ks) (Some (max g h))
both_greatest ns ks g h is are = both_by ns ks g h (max g h) (nat_lt g h) refl refl is are

pub left_greatest : (ns ks : List ℕ) (g : Option ℕ) → IsGreatest ns g → IsGreatest ks None → IsGreatest (ns ++ ks) g
left_greatest ns ks g is none = subst (λ l. IsGreatest l g) (sym (append-nil ns) ∙ ap (λ l. ns ++ l) (sym none)) is

-- no number is less than any other
pub greater_of : (ns ks : List ℕ) (g h : Option ℕ) → IsGreatest ns g → IsGreatest ks h → IsGreatest (ns ++ ks) (ord_max (option_cmp nat_cmp) g h)
greater_of ns ks None None is are = left_greatest ns ks None is are
greater_of ns ks (Some g) None is are = left_greatest ns ks (Some g) is are
greater_of ns ks None (Some h) is are = subst (λ l. IsGreatest (l ++ ks) (Some h)) (sym is) are
greater_of ns ks (Some g) (Some h) is are = subst (IsGreatest (ns ++ ks)) (max_some g h) (both_greatest ns ks g h is are)
  where
    max_some : (g h : ℕ) → Some (max g h) ≡ ord_max (option_cmp nat_cmp) (Some g) (Some h)
    max_some g h = grind arith

one_greatest : (n : ℕ) → IsGreatest (n ∷ []) (Some n)
one_greatest n = (Contains-first n [], All-cons (λ k. k ≤ n) n [] (omega arith) (All-nil (λ k. k ≤ n)))

-- each list has one, or has no number
with_greatest : (n : ℕ) (ns : List ℕ) (g : Option ℕ) → IsGreatest ns g → (h : Option ℕ) × IsGreatest (n ∷ ns) h
with_greatest n ns None is = (Some n, left_greatest (n ∷ []) ns (Some n) (one_greatest n) is)
with_greatest n ns (Some g) is = (Some (max n g), both_greatest (n ∷ []) ns n g (one_greatest n) is)

has_greatest : (ns : List ℕ) → (g : Option ℕ) × IsGreatest ns g
has_greatest [] = (None, refl)
has_greatest (n ∷ ns) = let rest = has_greatest ns in with_greatest n ns rest.0 rest.1

-- ---- after a join

-- the short strings of the code of a method have images
code_shorts_remapped : (r : Maps) (o : Option NumberedItem) (i : ℕ) → IfSome o (HasImages r) → Contains (flat_map code_short_strings (option_to_list o)) i → IsSome (image r.texts i)
code_shorts_remapped r None i h c = absurd (Contains-nil i c)
code_shorts_remapped r (Some x) i h c = shorts_remapped r x.body.pieces i h.pieces_have (subst (λ ns. Contains ns i) (append-nil (short_strings x.body.pieces)) c)

methods_shorts_remapped : (r : Maps) (xs : List NumberedMethod) (i : ℕ) → All (MethodHasImages r) xs → Contains (flat_map method_short_strings xs) i → IsSome (image r.texts i)
methods_shorts_remapped r [] i h c = absurd (Contains-nil i c)
methods_shorts_remapped r (x ∷ xs) i h c = elim (Contains-append_cases (method_short_strings x) (flat_map method_short_strings xs) i c) [
  | inl l ↦ code_shorts_remapped r x.code i (All-head (MethodHasImages r) x xs h).code_mapped l
  | inr l ↦ methods_shorts_remapped r xs i (All-tail (MethodHasImages r) x xs h) l
]

-- if all short strings have images of 16 bits, those of each method do
each_short : (r : Maps) (xs : List NumberedMethod) → ShortMapped r (flat_map method_short_strings xs) → All (λ x. ShortMapped r (method_short_strings x)) xs
each_short r [] h = All-nil (λ x. ShortMapped r (method_short_strings x))
each_short r (x ∷ xs) h =
    All-cons (λ y. ShortMapped r (method_short_strings y)) x xs
    (λ i j c e. h i j (Contains-append_left (method_short_strings x) (flat_map method_short_strings xs) i c) e)
    (each_short r xs (λ i j c e. h i j (Contains-append_right (method_short_strings x) (flat_map method_short_strings xs) i c) e))

-- the greatest of them has such an image
greatest_short : (r : Maps) (ns : List ℕ) (g : Option ℕ) → ShortMapped r ns → IsGreatest ns g → MapsShort r g
greatest_short r ns None h is = tt
greatest_short r ns (Some g) h is = λ j e. h g j is.0 e

module _ (r : Maps) (joined : (c : NumberedItem) (g : Option ℕ) → IsGreatest (short_strings c.body.pieces) g → MapsShort r g → HasImages r c → HasPlaces r c) where
  code_joined : (o : Option NumberedItem) → IfSome o (HasImages r) → ShortMapped r (flat_map code_short_strings (option_to_list o)) → IfSome o (HasPlaces r)
  code_joined None h short = tt
  code_joined (Some c) h short =
      let ns = short_strings c.body.pieces in
      let mine : ShortMapped r ns = subst (ShortMapped r) (append-nil ns) short in
      let g = has_greatest ns in
      joined c g.0 g.1 (greatest_short r ns g.0 mine g.1) h

  pub codes_joined : (x : NumberedMembers) (greatest : Option ℕ) → KeepOrder r → MembersHaveImages r x → IsGreatest (members_short_strings x) greatest → MapsShort r greatest → All (CodePlaced r) (methods_of x)
  codes_joined x greatest order h is short =
      let all = methods_mapped r x h in
      let are_mapped : ShortMapped r (members_short_strings x) = short_mapped r (members_short_strings x) greatest order is short (λ i c. methods_shorts_remapped r (methods_of x) i all c) in
      all_both (MethodHasImages r) (λ y. ShortMapped r (method_short_strings y)) (CodePlaced r) (methods_of x) all (each_short r (methods_of x) are_mapped) (λ y maps_to shorts. code_joined y.code maps_to.code_mapped shorts)

-- numbers of 32 bits have images of 32 bits
pub fit_narrow : (r : Maps) → ImagesFit r → MapsNarrow r
fit_narrow r fit kinds.Text i j e lt = let z = fit.texts_fit i j e in omega (arith, z)
fit_narrow r fit kinds.Typ i j e lt = let z = fit.types_fit i j e in omega (arith, z)
fit_narrow r fit kinds.Proto i j e lt = let z = fit.protos_fit i j e in omega (arith, z)
fit_narrow r fit kinds.Field i j e lt = let z = fit.fields_fit i j e in omega (arith, z)
fit_narrow r fit kinds.Method i j e lt = let z = fit.methods_fit i j e in omega (arith, z)
