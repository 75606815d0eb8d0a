-- A value determines its numbers: each number is the rank of its symbol.
use Rattle.dexval.proofs.Common.{◌≡◌, ℕ, map, refl, ap, sym, ◌∙◌, subst, ◌↔◌, All, rank, text_cmp, field_cmp, method_cmp, ByteValue, ShortValue, CharValue, IntValue, LongValue, FloatValue, DoubleValue, StringValue, TypeValue, FieldValue, MethodValue, EnumValue, ArrayValue, AnnotationValue, NullValue, BooleanValue, Values, NoValues, ThenValue, Elements, NoElements, ThenElement, AnnotationSet, Mentions, AreRising, Maps, AllMapTo, IsMappedUse, Literal, ByteLiteral, ShortLiteral, CharLiteral, IntLiteral, LongLiteral, FloatLiteral, DoubleLiteral, NullLiteral, BooleanLiteral, Reference, StringReference, TypeReference, FieldReference, MethodReference, EnumReference, NumberedValue, NumberedValues, NumberedElements, NumberedAnnotation, NumberedSet, Plain, Named, Array, Annotated, NoValue, ThenNext, NoElement, ThenNamed, plain_value, named_value, value_in, values_in, elements_in, annotation_in, set_in, IsKnown, AreKnown, HaveKnown, IsKnownAnnotation, IsKnownSet, Denotes, Denote, DenotesSet, renumbered, renumbered_values, renumbered_set, value_uses, values_uses, set_uses}
use Rattle.dexspec.specs.Values.{Value}
use Rattle.dexspec.specs.Annotations.{Annotation}
use Rattle.dexpool.specs.declared.symbols.SymbolKind.TheVariants as kinds
use Rattle.dexpool.proofs.Numbers.{number_ranked, all_back}
use Rattle.dexval.proofs.Meanings.{value_keeps, values_keep, set_keeps}

-- ---- values with symbols replaced by their ranks

abbrev mutual
  pub ranked : Mentions → Value → NumberedValue
  ranked m (ByteValue z) = Plain (ByteLiteral z)
  ranked m (ShortValue z) = Plain (ShortLiteral z)
  ranked m (CharValue u) = Plain (CharLiteral u)
  ranked m (IntValue z) = Plain (IntLiteral z)
  ranked m (LongValue z) = Plain (LongLiteral z)
  ranked m (FloatValue bits) = Plain (FloatLiteral bits)
  ranked m (DoubleValue bits) = Plain (DoubleLiteral bits)
  ranked m (StringValue s) = Named StringReference (rank text_cmp s m.texts)
  ranked m (TypeValue t) = Named TypeReference (rank text_cmp t m.types)
  ranked m (FieldValue f) = Named FieldReference (rank field_cmp f m.fields)
  ranked m (MethodValue x) = Named MethodReference (rank method_cmp x m.methods)
  ranked m (EnumValue f) = Named EnumReference (rank field_cmp f m.fields)
  ranked m (ArrayValue vs) = Array (ranked_values m vs)
  ranked m (AnnotationValue t es) = Annotated (rank text_cmp t m.types) (ranked_elements m es)
  ranked m NullValue = Plain NullLiteral
  ranked m (BooleanValue is) = Plain (BooleanLiteral is)

  pub ranked_values : Mentions → Values → NumberedValues
  ranked_values m NoValues = NoValue
  ranked_values m (ThenValue v vs) = ThenNext (ranked m v) (ranked_values m vs)

  pub ranked_elements : Mentions → Elements → NumberedElements
  ranked_elements m NoElements = NoElement
  ranked_elements m (ThenElement name v es) = ThenNamed (rank text_cmp name m.texts) (ranked m v) (ranked_elements m es)

-- an annotation by its parts
abbrev numbered_with : ℕ → ℕ → NumberedElements → NumberedAnnotation
numbered_with v t es = record { visibility = v; type = t; elements = es }

abbrev pub ranked_annotation : Mentions → Annotation → NumberedAnnotation
ranked_annotation m a = numbered_with a.visibility (rank text_cmp a.type m.types) (ranked_elements m a.elements)

-- ---- the ranks are the numbers

plain_ranked : (m : Mentions) (l : Literal) → ranked m (plain_value l) ≡ Plain l
plain_ranked m (ByteLiteral z) = refl
plain_ranked m x = refl

module _ (m : Mentions) (rising : AreRising m) where
  named_ranked : (x : Reference) (i : ℕ) → IsKnown m (Named x i) → ranked m (named_value m x i) ≡ Named x i
  named_ranked StringReference i h = ap (Named StringReference) (number_ranked m rising kinds.Text i h)
  named_ranked TypeReference i h = ap (Named TypeReference) (number_ranked m rising kinds.Typ i h)
  named_ranked FieldReference i h = ap (Named FieldReference) (number_ranked m rising kinds.Field i h)
  named_ranked MethodReference i h = ap (Named MethodReference) (number_ranked m rising kinds.Method i h)
  named_ranked EnumReference i h = ap (Named EnumReference) (number_ranked m rising kinds.Field i h)

  mutual
    value_ranked : (x : NumberedValue) → IsKnown m x → ranked m (value_in m x) ≡ x
    value_ranked (Plain l) h = plain_ranked m l
    value_ranked (Named x i) h = named_ranked x i h
    value_ranked (Array xs) h = ap Array (values_ranked xs h)
    value_ranked (Annotated t es) h = ap (λ (i : ℕ). Annotated i (ranked_elements m (elements_in m es))) (number_ranked m rising kinds.Typ t h.0) ∙ ap (Annotated t) (elements_ranked es h.1)

    pub values_ranked : (xs : NumberedValues) → AreKnown m xs → ranked_values m (values_in m xs) ≡ xs
    values_ranked NoValue h = refl
    values_ranked (ThenNext x xs) h = ap (λ (y : NumberedValue). ThenNext y (ranked_values m (values_in m xs))) (value_ranked x h.0) ∙ ap (ThenNext x) (values_ranked xs h.1)

    elements_ranked : (es : NumberedElements) → HaveKnown m es → ranked_elements m (elements_in m es) ≡ es
    elements_ranked NoElement h = refl
    elements_ranked (ThenNamed name x es) h =
        ap (λ (i : ℕ). ThenNamed i (ranked m (value_in m x)) (ranked_elements m (elements_in m es))) (number_ranked m rising kinds.Text name h.0)
        ∙ ap (λ (y : NumberedValue). ThenNamed name y (ranked_elements m (elements_in m es))) (value_ranked x h.1) ∙ ap (ThenNamed name x) (elements_ranked es h.2)

  annotation_ranked : (a : NumberedAnnotation) → IsKnownAnnotation m a → ranked_annotation m (annotation_in m a) ≡ a
  annotation_ranked a h =
      ap (λ (i : ℕ). numbered_with a.visibility i (ranked_elements m (elements_in m a.elements))) (number_ranked m rising kinds.Typ a.type h.type_in) ∙ ap (numbered_with a.visibility a.type) (elements_ranked a.elements h.elements_known)

  pub set_ranked : (xs : NumberedSet) → IsKnownSet m xs → map (ranked_annotation m) (set_in m xs) ≡ xs
  set_ranked = all_back (IsKnownAnnotation m) (annotation_in m) (ranked_annotation m) annotation_ranked

  -- numbered values that denote the same value are equal
  one_value : (x y : NumberedValue) (v : Value) → Denotes m x v → Denotes m y v → x ≡ y
  one_value x y v h k = sym (value_ranked x h.known) ∙ ap (ranked m) (h.means ∙ sym k.means) ∙ value_ranked y k.known

  one_list : (xs ys : NumberedValues) (vs : Values) → Denote m xs vs → Denote m ys vs → xs ≡ ys
  one_list xs ys vs h k = sym (values_ranked xs h.known) ∙ ap (ranked_values m) (h.mean ∙ sym k.mean) ∙ values_ranked ys k.known

  pub one_set : (xs ys : NumberedSet) (s : AnnotationSet) → DenotesSet m xs s → DenotesSet m ys s → xs ≡ ys
  one_set xs ys s h k = sym (set_ranked xs h.known) ∙ ap (map (ranked_annotation m)) (h.means ∙ sym k.means) ∙ set_ranked ys k.known

-- ---- values of two numberings, remapped to a third

module _ (m n whole : Mentions) (r s : Maps) (rising : AreRising whole) (from_first : AllMapTo m whole r) (from_second : AllMapTo n whole s) where
  pub same_value : (x y : NumberedValue) (v w : Value) → All (IsMappedUse r) (value_uses x) → All (IsMappedUse s) (value_uses y) → Denotes m x v → Denotes n y w → (renumbered r x ≡ renumbered s y) ↔ (v ≡ w)
  same_value x y v w images images' h k =
      let mine = value_keeps m whole r x v from_first images h in
      let theirs = value_keeps n whole s y w from_second images' k in ((λ e. sym mine.means ∙ ap (value_in whole) e ∙ theirs.means), (λ e. one_value whole rising (renumbered r x) (renumbered s y) w (subst (Denotes whole (renumbered r x)) e mine) theirs))

  pub same_values : (xs ys : NumberedValues) (vs ws : Values) → All (IsMappedUse r) (values_uses xs) → All (IsMappedUse s) (values_uses ys) → Denote m xs vs → Denote n ys ws → (renumbered_values r xs ≡ renumbered_values s ys) ↔ (vs ≡ ws)
  same_values xs ys vs ws images images' h k =
      let mine = values_keep m whole r xs vs from_first images h in
      let theirs = values_keep n whole s ys ws from_second images' k in (
        (λ e. sym mine.mean ∙ ap (values_in whole) e ∙ theirs.mean),
        (λ e. one_list whole rising (renumbered_values r xs) (renumbered_values s ys) ws (subst (Denote whole (renumbered_values r xs)) e mine) theirs),
      )

  pub same_set : (xs ys : NumberedSet) (a b : AnnotationSet) → All (IsMappedUse r) (set_uses xs) → All (IsMappedUse s) (set_uses ys) → DenotesSet m xs a → DenotesSet n ys b → (renumbered_set r xs ≡ renumbered_set s ys) ↔ (a ≡ b)
  same_set xs ys a b images images' h k =
      let mine = set_keeps m whole r xs a from_first images h in
      let theirs = set_keeps n whole s ys b from_second images' k in (
        (λ e. sym mine.means ∙ ap (set_in whole) e ∙ theirs.means),
        (λ e. one_set whole rising (renumbered_set r xs) (renumbered_set s ys) b (subst (DenotesSet whole (renumbered_set r xs)) e mine) theirs),
      )
