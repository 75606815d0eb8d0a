-- What values denote, which is the same under other numbers, and the symbols that occur in them.
use Rattle.dexval.proofs.Common.{◌≡◌, ℕ, [], ◌++◌, refl, ap, ◌∙◌, subst, All, AllZip, All-head, All-tail, Text, Values, Elements, ThenValue, ThenElement, ArrayValue, AnnotationValue, StringValue, TypeValue, FieldValue, MethodValue, EnumValue, AnnotationSet, Mentions, value_symbols, values_symbols, elements_symbols, annotation_symbols, set_symbols, IsSome, AreMarksOf, Maps, image_of, AllMapTo, Literal, ByteLiteral, Reference, StringReference, TypeReference, FieldReference, MethodReference, EnumReference, NumberedValue, NumberedValues, NumberedElements, NumberedAnnotation, NumberedSet, Plain, Named, Array, Annotated, NoValue, ThenNext, NoElement, ThenNamed, text_at, type_at, plain_value, named_value, kind_of_reference, value_in, values_in, elements_in, annotation_in, set_in, IsKnown, AreKnown, HaveKnown, IsKnownAnnotation, IsKnownSet, Denotes, Denote, DenotesSet, renumbered, renumbered_values, renumbered_elements, renumbered_annotation, renumbered_set, IsUseOf, IsMappedUse, HasMark, value_uses, values_uses, elements_uses, annotation_uses, set_uses, all_prefix, all_back}
use Rattle.dexspec.specs.Values.{Value}
use Rattle.dexspec.specs.Annotations.{Annotation}
use Rattle.dexpool.specs.declared.symbols.SymbolKind.TheVariants as kinds
use Rattle.dexpool.specs.declared.marks.Marks.{Marks}
use Rattle.dexpool.specs.Laws.{MapsAll}
use Rattle.dexpool.proofs.MappingAll.{uses_mapped}
use Rattle.dexpool.proofs.Parts.{all_parts}
use Rattle.dexpool.proofs.Numbers.{number_remapped, number_used, zip-append, all_used, all_kept, all_marked}
use Rattle.dexval.proofs.Images.{use_of}

-- an annotation by its parts
abbrev annotation_with : ℕ → Text → Elements → Annotation
annotation_with v t es = record { visibility = v; type = t; elements = es }

-- ---- other numbers

module _ (m n : Mentions) (r : Maps) (maps_to : AllMapTo m n r) where
  named_remapped : (x : Reference) (i : ℕ) → IsSome (image_of r (kind_of_reference x) i) → IsKnown n (renumbered r (Named x i)) × (value_in n (renumbered r (Named x i)) ≡ value_in m (Named x i))
  named_remapped StringReference i h = let t = number_remapped m n r maps_to kinds.Text i h in (t.0, ap StringValue t.1)
  named_remapped TypeReference i h = let t = number_remapped m n r maps_to kinds.Typ i h in (t.0, ap TypeValue t.1)
  named_remapped FieldReference i h = let t = number_remapped m n r maps_to kinds.Field i h in (t.0, ap FieldValue t.1)
  named_remapped MethodReference i h = let t = number_remapped m n r maps_to kinds.Method i h in (t.0, ap MethodValue t.1)
  named_remapped EnumReference i h = let t = number_remapped m n r maps_to kinds.Field i h in (t.0, ap EnumValue t.1)

  mutual
    value_remapped : (x : NumberedValue) → All (IsMappedUse r) (value_uses x) → IsKnown n (renumbered r x) × (value_in n (renumbered r x) ≡ value_in m x)
    value_remapped (Plain l) h = (tt, refl)
    value_remapped (Named x i) h = named_remapped x i (All-head (IsMappedUse r) (use_of (kind_of_reference x) i) [] h)
    value_remapped (Array xs) h = let t = values_remapped xs h in (t.0, ap ArrayValue t.1)
    value_remapped (Annotated t es) h =
        let typ = number_remapped m n r maps_to kinds.Typ t (All-head (IsMappedUse r) (use_of kinds.Typ t) (elements_uses es) h) in
        let elements = elements_remapped es (All-tail (IsMappedUse r) (use_of kinds.Typ t) (elements_uses es) h) in
        ((typ.0, elements.0), ap (λ (s : Text). AnnotationValue s (elements_in n (renumbered_elements r es))) typ.1 ∙ ap (AnnotationValue (type_at m t)) elements.1)

    values_remapped : (xs : NumberedValues) → All (IsMappedUse r) (values_uses xs) → AreKnown n (renumbered_values r xs) × (values_in n (renumbered_values r xs) ≡ values_in m xs)
    values_remapped NoValue h = (tt, refl)
    values_remapped (ThenNext x xs) h =
        let first = value_remapped x (all_prefix (IsMappedUse r) (value_uses x) (values_uses xs) h) in
        let rest = values_remapped xs (all_back (IsMappedUse r) (value_uses x) (values_uses xs) h) in
        ((first.0, rest.0), ap (λ (v : Value). ThenValue v (values_in n (renumbered_values r xs))) first.1 ∙ ap (ThenValue (value_in m x)) rest.1)

    elements_remapped : (es : NumberedElements) → All (IsMappedUse r) (elements_uses es) → HaveKnown n (renumbered_elements r es) × (elements_in n (renumbered_elements r es) ≡ elements_in m es)
    elements_remapped NoElement h = (tt, refl)
    elements_remapped (ThenNamed name x es) h =
        let named = number_remapped m n r maps_to kinds.Text name (All-head (IsMappedUse r) (use_of kinds.Text name) (value_uses x ++ elements_uses es) h) in
        let following = All-tail (IsMappedUse r) (use_of kinds.Text name) (value_uses x ++ elements_uses es) h in
        let first = value_remapped x (all_prefix (IsMappedUse r) (value_uses x) (elements_uses es) following) in
        let rest = elements_remapped es (all_back (IsMappedUse r) (value_uses x) (elements_uses es) following) in (
          (named.0, first.0, rest.0),
          ap (λ (s : Text). ThenElement s (value_in n (renumbered r x)) (elements_in n (renumbered_elements r es))) named.1
              ∙ ap (λ (v : Value). ThenElement (text_at m name) v (elements_in n (renumbered_elements r es))) first.1 ∙ ap (ThenElement (text_at m name) (value_in m x)) rest.1,
        )

  annotation_remapped : (a : NumberedAnnotation) → All (IsMappedUse r) (annotation_uses a) → IsKnownAnnotation n (renumbered_annotation r a) × (annotation_in n (renumbered_annotation r a) ≡ annotation_in m a)
  annotation_remapped a h =
      let typ = number_remapped m n r maps_to kinds.Typ a.type (All-head (IsMappedUse r) (use_of kinds.Typ a.type) (elements_uses a.elements) h) in
      let elements = elements_remapped a.elements (All-tail (IsMappedUse r) (use_of kinds.Typ a.type) (elements_uses a.elements) h) in (
        record { type_in = typ.0; elements_known = elements.0 },
        ap (λ (t : Text). annotation_with a.visibility t (elements_in n (renumbered_elements r a.elements))) typ.1 ∙ ap (annotation_with a.visibility (type_at m a.type)) elements.1,
      )

  set_remapped : (xs : NumberedSet) → All (IsMappedUse r) (set_uses xs) → IsKnownSet n (renumbered_set r xs) × (set_in n (renumbered_set r xs) ≡ set_in m xs)
  set_remapped xs h = all_kept (IsKnownAnnotation n) (annotation_in n) (λ a. All (IsMappedUse r) (annotation_uses a)) (renumbered_annotation r) (annotation_in m) annotation_remapped xs (all_parts (IsMappedUse r) annotation_uses xs h)

-- a remapped value denotes the same value
pub value_keeps : (m n : Mentions) (r : Maps) (x : NumberedValue) (v : Value) → AllMapTo m n r → All (IsMappedUse r) (value_uses x) → Denotes m x v → Denotes n (renumbered r x) v
value_keeps m n r x v maps_to images h = let t = value_remapped m n r maps_to x images in record { known = t.0; means = t.1 ∙ h.means }

-- values
pub values_keep : (m n : Mentions) (r : Maps) (xs : NumberedValues) (vs : Values) → AllMapTo m n r → All (IsMappedUse r) (values_uses xs) → Denote m xs vs → Denote n (renumbered_values r xs) vs
values_keep m n r xs vs maps_to images h = let t = values_remapped m n r maps_to xs images in record { known = t.0; mean = t.1 ∙ h.mean }

-- a set
pub set_keeps : (m n : Mentions) (r : Maps) (xs : NumberedSet) (s : AnnotationSet) → AllMapTo m n r → All (IsMappedUse r) (set_uses xs) → DenotesSet m xs s → DenotesSet n (renumbered_set r xs) s
set_keeps m n r xs s maps_to images h = let t = set_remapped m n r maps_to xs images in record { known = t.0; means = t.1 ∙ h.means }

-- ---- the symbols that occur

module _ (m : Mentions) where
  plain_used : (l : Literal) → AllZip (IsUseOf m) [] (value_symbols (plain_value l))
  plain_used (ByteLiteral z) = tt
  plain_used x = tt

  named_used : (x : Reference) (i : ℕ) → IsKnown m (Named x i) → AllZip (IsUseOf m) (value_uses (Named x i)) (value_symbols (named_value m x i))
  named_used StringReference i h = (number_used m kinds.Text i h, tt)
  named_used TypeReference i h = (number_used m kinds.Typ i h, tt)
  named_used MethodReference i h = (number_used m kinds.Method i h, tt)
  named_used x i h = (number_used m kinds.Field i h, tt)

  mutual
    value_used : (x : NumberedValue) → IsKnown m x → AllZip (IsUseOf m) (value_uses x) (value_symbols (value_in m x))
    value_used (Plain l) h = plain_used l
    value_used (Named x i) h = named_used x i h
    value_used (Array xs) h = values_used xs h
    value_used (Annotated t es) h = (number_used m kinds.Typ t h.0, elements_used es h.1)

    values_used : (xs : NumberedValues) → AreKnown m xs → AllZip (IsUseOf m) (values_uses xs) (values_symbols (values_in m xs))
    values_used NoValue h = tt
    values_used (ThenNext x xs) h = zip-append (IsUseOf m) (value_uses x) (value_symbols (value_in m x)) (values_uses xs) (values_symbols (values_in m xs)) (value_used x h.0) (values_used xs h.1)

    elements_used : (es : NumberedElements) → HaveKnown m es → AllZip (IsUseOf m) (elements_uses es) (elements_symbols (elements_in m es))
    elements_used NoElement h = tt
    elements_used (ThenNamed name x es) h =
        (number_used m kinds.Text name h.0, zip-append (IsUseOf m) (value_uses x) (value_symbols (value_in m x)) (elements_uses es) (elements_symbols (elements_in m es)) (value_used x h.1) (elements_used es h.2))

  annotation_used : (a : NumberedAnnotation) → IsKnownAnnotation m a → AllZip (IsUseOf m) (annotation_uses a) (annotation_symbols (annotation_in m a))
  annotation_used a h = (number_used m kinds.Typ a.type h.type_in, elements_used a.elements h.elements_known)

  pub set_used : (xs : NumberedSet) → IsKnownSet m xs → AllZip (IsUseOf m) (set_uses xs) (set_symbols (set_in m xs))
  set_used = all_used (IsKnownAnnotation m) (annotation_in m) m annotation_uses annotation_symbols annotation_used

-- the symbols of a value, one for one
pub value_encoded : (m : Mentions) (x : NumberedValue) (v : Value) → Denotes m x v → AllZip (IsUseOf m) (value_uses x) (value_symbols v)
value_encoded m x v h = subst (λ (w : Value). AllZip (IsUseOf m) (value_uses x) (value_symbols w)) h.means (value_used m x h.known)

-- of values
pub values_encoded : (m : Mentions) (xs : NumberedValues) (vs : Values) → Denote m xs vs → AllZip (IsUseOf m) (values_uses xs) (values_symbols vs)
values_encoded m xs vs h = subst (λ (w : Values). AllZip (IsUseOf m) (values_uses xs) (values_symbols w)) h.mean (values_used m xs h.known)

-- of a set
pub set_encoded : (m : Mentions) (xs : NumberedSet) (s : AnnotationSet) → DenotesSet m xs s → AllZip (IsUseOf m) (set_uses xs) (set_symbols s)
set_encoded m xs s h = subst (λ (w : AnnotationSet). AllZip (IsUseOf m) (set_uses xs) (set_symbols w)) h.means (set_used m xs h.known)

-- ---- marks

pub value_marks : (m : Mentions) (marks : Marks) (x : NumberedValue) → AreMarksOf m marks → IsKnown m x → All (HasMark marks) (value_uses x)
value_marks m marks x are known = all_marked m marks (value_uses x) (value_symbols (value_in m x)) are (value_used m x known)

pub values_marks : (m : Mentions) (marks : Marks) (xs : NumberedValues) → AreMarksOf m marks → AreKnown m xs → All (HasMark marks) (values_uses xs)
values_marks m marks xs are known = all_marked m marks (values_uses xs) (values_symbols (values_in m xs)) are (values_used m xs known)

pub set_marks : (m : Mentions) (marks : Marks) (xs : NumberedSet) → AreMarksOf m marks → IsKnownSet m xs → All (HasMark marks) (set_uses xs)
set_marks m marks xs are known = all_marked m marks (set_uses xs) (set_symbols (set_in m xs)) are (set_used m xs known)

-- ---- images, in a map that has one for each number

module _ (m : Mentions) (r : Maps) (all : MapsAll m r) where
  pub value_mapped : (x : NumberedValue) → IsKnown m x → All (IsMappedUse r) (value_uses x)
  value_mapped x known = uses_mapped m r all (value_uses x) (value_symbols (value_in m x)) (value_used m x known)

  pub values_mapped : (xs : NumberedValues) → AreKnown m xs → All (IsMappedUse r) (values_uses xs)
  values_mapped xs known = uses_mapped m r all (values_uses xs) (values_symbols (values_in m xs)) (values_used m xs known)

  pub set_mapped : (xs : NumberedSet) → IsKnownSet m xs → All (IsMappedUse r) (set_uses xs)
  set_mapped xs known = uses_mapped m r all (set_uses xs) (set_symbols (set_in m xs)) (set_used m xs known)
