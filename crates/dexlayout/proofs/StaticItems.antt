-- The arrays of static values of classes.
use Rattle.dexlayout.proofs.Common.{◌≡◌, ℕ, ◌<◌, List, [], ◌∷◌, length, map, None, Some, refl, sym, ap, ◌∙◌, arith, option_map, Definition, Mentions, values_unless_empty, static_values_uses, end, EncodedArrayItems, annotation_section, array_section, encoded_array_bytes, NumberedValue, values_in, values_of_list, NumberedClass, definition_of, AreStaticValues, ordered_of, encode_uses, no_items_from, static_item, map-map}
use Rattle.dexlayout.proofs.EncodedUses.{own_in}

-- ---- the array of one class

-- values that are there
some_values : (m : Mentions) (xs : List NumberedValue) → 0 < length xs → values_unless_empty (values_in m (values_of_list xs)) ≡ Some (values_in m (values_of_list xs))
some_values m [] lt = absurd (omega (arith, lt))
some_values m (x ∷ xs) lt = refl

no_values : (m : Mentions) (xs : List NumberedValue) → length xs ≡ 0 → values_unless_empty (values_in m (values_of_list xs)) ≡ None
no_values m [] e = refl
no_values m (x ∷ xs) e = absurd (omega (arith, e))

module _ (m : Mentions) (c : NumberedClass) (xs : List NumberedValue) (same : values_of_list xs ≡ c.members.static_values) where
  pub static_some : 0 < length xs → static_item m c ≡ Some (encoded_array_bytes m (values_in m (values_of_list xs)))
  static_some some = ap (λ v. option_map (encoded_array_bytes m) (values_unless_empty (values_in m v))) (sym same) ∙ ap (option_map (encoded_array_bytes m)) (some_values m xs some)

  pub static_none : length xs ≡ 0 → static_item m c ≡ None
  static_none none = ap (λ v. option_map (encoded_array_bytes m) (values_unless_empty (values_in m v))) (sym same) ∙ ap (option_map (encoded_array_bytes m)) (no_values m xs none)

-- ---- those of a file

-- the arrays of the definitions
statics_are : (m : Mentions) (cs : List NumberedClass) → map (static_item m) cs ≡ map (option_map (encoded_array_bytes m)) (map (λ (d : Definition). values_unless_empty d.1.static_values) (map (definition_of m) cs))
statics_are m cs = sym (map-map (option_map (encoded_array_bytes m)) (λ (d : Definition). values_unless_empty d.1.static_values) (map (definition_of m) cs) ∙ map-map (λ d. option_map (encoded_array_bytes m) (values_unless_empty d.1.static_values)) (definition_of m) cs)

-- encoded after the annotations they are those of the file
pub arrays_laid : (m : Mentions) (cs : List NumberedClass) (from : ℕ) → from ≡ end (annotation_section (ordered_of m cs)) → AreStaticValues m cs (encode_uses 1 (no_items_from from) (map (static_item m) cs))
unfolding array_section
arrays_laid m cs from is = own_in 1 (encoded_array_bytes m) EncodedArrayItems (static_values_uses (ordered_of m cs)) is (statics_are m cs)
