-- The encoding of numbered items is the encoding of the symbols that the numbers denote, and is at most as long as the
-- items weigh.
use Rattle.dexval.proofs.Common.{◌≡◌, ℕ, suc, ◌+◌, ◌^◌, ◌<◌, ◌≤◌, List, [], ◌∷◌, ◌++◌, length, refl, sym, ap, ◌∙◌, subst, arith, Result, Vec, length-append, uleb128, Values, CharValue, count_values, names_of, Mentions, text_index, type_index, unsigned_bytes, value_bytes, values_bytes, elements_bytes, encoded_array_bytes, annotation_bytes, Puts, uleb128-size, value_bytes-size, count_of, AreRising, Literal, ByteLiteral, Reference, StringReference, TypeReference, FieldReference, MethodReference, EnumReference, NumberedValue, NumberedValues, NumberedElements, NumberedAnnotation, Plain, Named, Array, Annotated, NoValue, ThenNext, NoElement, ThenNamed, text_at, type_at, plain_value, named_value, value_in, values_in, elements_in, annotation_in, kind_of_reference, IsKnown, AreKnown, HaveKnown, IsKnownAnnotation, Denotes, Denote, DenotesAnnotation, IsCounted, AreCounted, HaveCounted, IsCountedAnnotation, values_count, elements_count, count_bytes, literal_bytes, reference_code, numbered_bytes, numbered_values_bytes, numbered_elements_bytes, numbered_array_bytes, encoded_annotation_bytes, numbered_annotation_bytes, numbered_weight, numbered_values_weight, numbered_elements_weight, numbered_annotation_weight}
use Rattle.dexspec.specs.Values.{Value}
use Rattle.dexspec.specs.Annotations.{Annotation}
use Rattle.dexpool.proofs.UnionLaws.{ranks_are_numbers}
use Rattle.dexval.proofs.Counts.{count_is, count_length, count-size}
use Rattle.dexval.proofs.Weights.{plain_weight}

-- ---- bytes

literal_is : (m : Mentions) (l : Literal) → literal_bytes l ≡ value_bytes m (plain_value l)
literal_is m (ByteLiteral z) = refl
literal_is m x = refl

named_is : (m : Mentions) (k : Reference) (i : ℕ) → AreRising m → i < count_of (kind_of_reference k) m → unsigned_bytes (reference_code k) i ≡ value_bytes m (named_value m k i)
named_is m StringReference i r lt = ap (unsigned_bytes 0x17) (sym ((ranks_are_numbers m r).texts_are i [] lt))
named_is m TypeReference i r lt = ap (unsigned_bytes 0x18) (sym ((ranks_are_numbers m r).types_are i [] lt))
named_is m FieldReference i r lt = ap (unsigned_bytes 0x19) (sym ((ranks_are_numbers m r).fields_are i (record { class = []; name = []; type = [] }) lt))
named_is m MethodReference i r lt = ap (unsigned_bytes 0x1a) (sym ((ranks_are_numbers m r).methods_are i (record { class = []; name = []; proto = record { return_type = []; parameters = [] } }) lt))
named_is m EnumReference i r lt = ap (unsigned_bytes 0x1b) (sym ((ranks_are_numbers m r).fields_are i (record { class = []; name = []; type = [] }) lt))

values_count_is : (m : Mentions) (xs : NumberedValues) → values_count xs ≡ count_values (values_in m xs)
values_count_is m NoValue = refl
values_count_is m (ThenNext x xs) = ap (λ (n : ℕ). n + 1) (values_count_is m xs)

elements_count_is : (m : Mentions) (es : NumberedElements) → elements_count es ≡ length (names_of (elements_in m es))
elements_count_is m NoElement = refl
elements_count_is m (ThenNamed name x es) = omega (arith, elements_count_is m es)

-- values with their count, if each value has its bytes
array_by : (m : Mentions) (xs : NumberedValues) → values_count xs < 2 ^ 32 → numbered_values_bytes xs ≡ values_bytes m (values_in m xs) → numbered_array_bytes xs ≡ encoded_array_bytes m (values_in m xs)
array_by m xs few e = ap (λ (l : List ℕ). l ++ numbered_values_bytes xs) (count_is (values_count xs) few) ∙ ap (λ (n : ℕ). uleb128 n ++ numbered_values_bytes xs) (values_count_is m xs) ∙ ap (λ (l : List ℕ). uleb128 (count_values (values_in m xs)) ++ l) e

-- a type and elements with their count, if each element has its bytes
annotation_by : (m : Mentions) (t : ℕ) (es : NumberedElements) → AreRising m → t < length m.types → elements_count es < 2 ^ 32 → numbered_elements_bytes es ≡ elements_bytes m (elements_in m es)
    → encoded_annotation_bytes t es ≡ uleb128 (type_index m (type_at m t)) ++ (uleb128 (length (names_of (elements_in m es))) ++ elements_bytes m (elements_in m es))
annotation_by m t es r lt few e =
    ap (λ (n : ℕ). uleb128 n ++ (count_bytes (elements_count es) ++ numbered_elements_bytes es)) (sym ((ranks_are_numbers m r).types_are t [] lt))
    ∙ ap (λ (l : List ℕ). uleb128 (type_index m (type_at m t)) ++ (l ++ numbered_elements_bytes es)) (count_is (elements_count es) few)
    ∙ ap (λ (n : ℕ). uleb128 (type_index m (type_at m t)) ++ (uleb128 n ++ numbered_elements_bytes es)) (elements_count_is m es)
    ∙ ap (λ (l : List ℕ). uleb128 (type_index m (type_at m t)) ++ (uleb128 (length (names_of (elements_in m es))) ++ l)) e

mutual
  -- a value
  pub bytes_are : (m : Mentions) (x : NumberedValue) → AreRising m → IsCounted x → IsKnown m x → numbered_bytes x ≡ value_bytes m (value_in m x)
  bytes_are m (Plain l) r few h = literal_is m l
  bytes_are m (Named k i) r few h = named_is m k i r h
  bytes_are m (Array xs) r few h = ap (λ (l : List ℕ). 28 ∷ l) (array_by m xs few.0 (values_bytes_are m xs r few.1 h))
  bytes_are m (Annotated t es) r few h = ap (λ (l : List ℕ). 29 ∷ l) (annotation_by m t es r h.0 few.0 (elements_bytes_are m es r few.1 h.1))

  -- values
  values_bytes_are : (m : Mentions) (xs : NumberedValues) → AreRising m → AreCounted xs → AreKnown m xs → numbered_values_bytes xs ≡ values_bytes m (values_in m xs)
  values_bytes_are m NoValue r few h = refl
  values_bytes_are m (ThenNext x xs) r few h = ap (λ (l : List ℕ). l ++ numbered_values_bytes xs) (bytes_are m x r few.0 h.0) ∙ ap (λ (l : List ℕ). value_bytes m (value_in m x) ++ l) (values_bytes_are m xs r few.1 h.1)

  -- elements
  elements_bytes_are : (m : Mentions) (es : NumberedElements) → AreRising m → HaveCounted es → HaveKnown m es → numbered_elements_bytes es ≡ elements_bytes m (elements_in m es)
  elements_bytes_are m NoElement r few h = refl
  elements_bytes_are m (ThenNamed name x es) r few h =
      ap (λ (n : ℕ). uleb128 n ++ (numbered_bytes x ++ numbered_elements_bytes es)) (sym ((ranks_are_numbers m r).texts_are name [] h.0))
      ∙ ap (λ (l : List ℕ). uleb128 (text_index m (text_at m name)) ++ (l ++ numbered_elements_bytes es)) (bytes_are m x r few.0 h.1)
      ∙ ap (λ (l : List ℕ). uleb128 (text_index m (text_at m name)) ++ (value_bytes m (value_in m x) ++ l)) (elements_bytes_are m es r few.1 h.2)

-- values with their count
array_bytes_are : (m : Mentions) (xs : NumberedValues) → AreRising m → values_count xs < 2 ^ 32 → AreCounted xs → AreKnown m xs → numbered_array_bytes xs ≡ encoded_array_bytes m (values_in m xs)
array_bytes_are m xs rising few counted known = array_by m xs few (values_bytes_are m xs rising counted known)

-- an annotation
annotation_bytes_are : (m : Mentions) (x : NumberedAnnotation) → AreRising m → IsCountedAnnotation x → IsKnownAnnotation m x → numbered_annotation_bytes x ≡ annotation_bytes m (annotation_in m x)
annotation_bytes_are m x rising counted known = ap (λ (l : List ℕ). x.visibility ∷ l) (annotation_by m x.type x.elements rising known.type_in counted.0 (elements_bytes_are m x.elements rising counted.1 known.elements_known))

-- ---- appended bytes

pub value_put_is : {T E : Type 0} {u w : Vec ℕ} {r : Result T E} (m : Mentions) (x : NumberedValue) → AreRising m → Puts (numbered_bytes x) u w r → (v : Value) → IsCounted x → Denotes m x v → Puts (value_bytes m v) u w r
value_put_is {u = u} {w = w} {r = r} m x rising h v counted encodes = subst (λ (l : List ℕ). Puts l u w r) (bytes_are m x rising counted encodes.known ∙ ap (value_bytes m) encodes.means) h

pub array_put_is : {T E : Type 0} {u w : Vec ℕ} {r : Result T E} (m : Mentions) (xs : NumberedValues) → AreRising m → Puts (numbered_array_bytes xs) u w r → (vs : Values) → values_count xs < 2 ^ 32 → AreCounted xs → Denote m xs vs → Puts (encoded_array_bytes m vs) u w r
array_put_is {u = u} {w = w} {r = r} m xs rising h vs few counted are_encoded = subst (λ (l : List ℕ). Puts l u w r) (array_bytes_are m xs rising few counted are_encoded.known ∙ ap (encoded_array_bytes m) are_encoded.mean) h

pub annotation_put_is : {T E : Type 0} {u w : Vec ℕ} {r : Result T E} (m : Mentions) (x : NumberedAnnotation) → AreRising m → Puts (numbered_annotation_bytes x) u w r → (a : Annotation) → IsCountedAnnotation x → DenotesAnnotation m x a → Puts (annotation_bytes m a) u w r
annotation_put_is {u = u} {w = w} {r = r} m x rising h a counted encodes = subst (λ (l : List ℕ). Puts l u w r) (annotation_bytes_are m x rising counted encodes.known ∙ ap (annotation_bytes m) encodes.means) h

-- ---- lengths, whatever the counts

count_lengths : (m : Mentions) (xs : NumberedValues) → length (numbered_values_bytes xs) ≡ length (values_bytes m (values_in m xs)) → length (numbered_array_bytes xs) ≡ length (encoded_array_bytes m (values_in m xs))
count_lengths m xs e = omega (arith, length-append {A = ℕ}, count_length (values_count xs), ap (λ (n : ℕ). length (uleb128 n)) (values_count_is m xs), e)

annotation_lengths : (m : Mentions) (t : ℕ) (es : NumberedElements) → AreRising m → t < length m.types → length (numbered_elements_bytes es) ≡ length (elements_bytes m (elements_in m es))
    → length (encoded_annotation_bytes t es) ≡ length (uleb128 (type_index m (type_at m t)) ++ (uleb128 (length (names_of (elements_in m es))) ++ elements_bytes m (elements_in m es)))
annotation_lengths m t es r lt e =
    omega (arith, length-append {A = ℕ}, count_length (elements_count es), ap (λ (n : ℕ). length (uleb128 n)) (elements_count_is m es), ap (λ (n : ℕ). length (uleb128 n)) ((ranks_are_numbers m r).types_are t [] lt), e)

mutual
  lengths_are : (m : Mentions) (x : NumberedValue) → AreRising m → IsKnown m x → length (numbered_bytes x) ≡ length (value_bytes m (value_in m x))
  lengths_are m (Plain l) r h = ap (λ (l : List ℕ). length l) (literal_is m l)
  lengths_are m (Named k i) r h = ap (λ (l : List ℕ). length l) (named_is m k i r h)
  lengths_are m (Array xs) r h = ap suc (count_lengths m xs (values_lengths_are m xs r h))
  lengths_are m (Annotated t es) r h = ap suc (annotation_lengths m t es r h.0 (elements_lengths_are m es r h.1))

  values_lengths_are : (m : Mentions) (xs : NumberedValues) → AreRising m → AreKnown m xs → length (numbered_values_bytes xs) ≡ length (values_bytes m (values_in m xs))
  values_lengths_are m NoValue r h = refl
  values_lengths_are m (ThenNext x xs) r h = omega (arith, length-append {A = ℕ}, lengths_are m x r h.0, values_lengths_are m xs r h.1)

  elements_lengths_are : (m : Mentions) (es : NumberedElements) → AreRising m → HaveKnown m es → length (numbered_elements_bytes es) ≡ length (elements_bytes m (elements_in m es))
  elements_lengths_are m NoElement r h = refl
  elements_lengths_are m (ThenNamed name x es) r h =
      omega (arith, length-append {A = ℕ}, ap (λ (n : ℕ). length (uleb128 n)) ((ranks_are_numbers m r).texts_are name [] h.0), lengths_are m x r h.1, elements_lengths_are m es r h.2)

-- an annotation
pub annotation_lengths_are : (m : Mentions) (x : NumberedAnnotation) (a : Annotation) → AreRising m → DenotesAnnotation m x a → length (numbered_annotation_bytes x) ≡ length (annotation_bytes m a)
annotation_lengths_are m x a rising encodes =
    ap suc (annotation_lengths m x.type x.elements rising encodes.known.type_in (elements_lengths_are m x.elements rising encodes.known.elements_known))
    ∙ ap (λ (b : Annotation). length (annotation_bytes m b)) encodes.means

-- ---- sizes

literal_size : (m : Mentions) (l : Literal) → length (literal_bytes l) ≤ 9
literal_size m l = omega (arith, value_bytes-size m (plain_value l), plain_weight l, ap (λ (bs : List ℕ). length bs) (literal_is m l))

mutual
  -- a value
  pub size_is : (m : Mentions) (x : NumberedValue) → length (numbered_bytes x) ≤ numbered_weight x
  size_is m (Plain l) = literal_size m l
  size_is m (Named k i) = value_bytes-size m (CharValue i)
  size_is m (Array xs) = omega (arith, length-append (count_bytes (values_count xs)) (numbered_values_bytes xs), count-size (values_count xs), values_size_is m xs)
  size_is m (Annotated t es) = omega (arith, length-append {A = ℕ}, uleb128-size t, count-size (elements_count es), elements_size_is m es)

  -- values
  pub values_size_is : (m : Mentions) (xs : NumberedValues) → length (numbered_values_bytes xs) ≤ numbered_values_weight xs
  values_size_is m NoValue = omega arith
  values_size_is m (ThenNext x xs) = omega (arith, length-append (numbered_bytes x) (numbered_values_bytes xs), size_is m x, values_size_is m xs)

  -- elements
  pub elements_size_is : (m : Mentions) (es : NumberedElements) → length (numbered_elements_bytes es) ≤ numbered_elements_weight es
  elements_size_is m NoElement = omega arith
  elements_size_is m (ThenNamed name x es) = omega (arith, length-append {A = ℕ}, uleb128-size name, size_is m x, elements_size_is m es)

-- values with their count
pub array_size_is : (m : Mentions) (xs : NumberedValues) → length (numbered_array_bytes xs) ≤ 6 + numbered_values_weight xs
array_size_is m xs = omega (arith, length-append (count_bytes (values_count xs)) (numbered_values_bytes xs), count-size (values_count xs), values_size_is m xs)

-- an annotation
pub annotation_size_is : (m : Mentions) (a : NumberedAnnotation) → length (numbered_annotation_bytes a) ≤ numbered_annotation_weight a
annotation_size_is m a = omega (arith, size_is m (Annotated a.type a.elements))
