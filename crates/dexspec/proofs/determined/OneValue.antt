-- There is at most one encoded value at an offset, in one size: the type code of the first byte determines the kind of
-- value, and its argument the number of bytes that follow.
use Rattle.dexspec.proofs.Common.{◌≡◌, ℕ, suc, ◌+◌, ◌-◌, ◌*◌, ◌%◌, ◌^◌, ◌<◌, List, [], ◌∷◌, length, drop, refl, ap, sym, subst, ◌∙◌, arith, ℤ, pos, Bool, true, false, if◌then◌else◌, ◌==◌, Values}
use Rattle.dexspec.specs.{number_of, signed_in, BytesAt, Uleb128At, Text, Field, Method, StringRow, TypeRow, FieldRow, MethodRow, Value, ByteValue, ShortValue, CharValue, IntValue, LongValue, FloatValue, DoubleValue, StringValue, TypeValue, FieldValue, MethodValue, EnumValue, ArrayValue, AnnotationValue, NullValue, BooleanValue, NoValues, ThenValue, Elements, NoElements, ThenElement, count_values, names_of, value_byte, SizedAt, IndexAt, ArrayAround, AnnotationAround, ValueAt, ValuesAt, ElementsAt, EncodedArrayAt, EncodedAnnotationAt}
use Rattle.dexspec.proofs.written.PlacedBytes.{same_first, same_bytes_at}
use Rattle.dexspec.proofs.determined.OneNumber.{one_uleb128}
use Rattle.dexspec.proofs.determined.OneRow.{one_string, one_type, one_field, one_method}

-- ---- the bytes after a first byte

-- a first byte with its type code
record HasCode (b : List ℕ) (o code : ℕ) : Type 0 where
  first : ℕ
  rest : List ℕ
  encodes : BytesAt b o (first ∷ rest)
  is : first % 32 ≡ code

-- there is one type code at an offset
one_code : (b : List ℕ) (o c d : ℕ) → HasCode b o c → HasCode b o d → c ≡ d
one_code b o c d h g = sym h.is ∙ ap (λ (x : ℕ). x % 32) (same_first h.first g.first h.rest g.rest h.encodes g.encodes) ∙ g.is

-- a value with bytes of its own has its type code
sized_code : (b : List ℕ) (o code width : ℕ) (bytes : List ℕ) (n : ℕ) → code < 32 → SizedAt code width b o bytes n → HasCode b o code
sized_code b o code width bytes n lt h = record { first = value_byte (length bytes - 1) code; rest = bytes; encodes = h.encodes; is = omega arith }

-- the number in the bytes after a first byte
one_sized : {X : Type 0} (read : List ℕ → X) (code width : ℕ) (b : List ℕ) (o : ℕ) (x y : X) (n k : ℕ)
    → (bytes : List ℕ) × SizedAt code width b o bytes n × (x ≡ read bytes) → (bytes : List ℕ) × SizedAt code width b o bytes k × (y ≡ read bytes) → (x ≡ y) × (n ≡ k)
one_sized read code width b o x y n k h g =
    let first = same_first (value_byte (length h.0 - 1) code) (value_byte (length g.0 - 1) code) h.0 g.0 h.1.encodes g.1.encodes in
    let len : length h.0 ≡ length g.0 = omega (arith, first, h.1.some, g.1.some) in
    let all = same_bytes_at (value_byte (length h.0 - 1) code ∷ h.0) (value_byte (length g.0 - 1) code ∷ g.0) h.1.encodes g.1.encodes (ap suc len) in
    let bytes : h.0 ≡ g.0 = ap (λ (z : List ℕ). drop 1 z) all in
    (h.2 ∙ ap read bytes ∙ sym g.2, omega (arith, len, h.1.size, g.1.size))

-- the symbol of an index
one_index : {X : Type 0} (Row : List ℕ → ℕ → X → Type 0) → ((b : List ℕ) (i : ℕ) (x y : X) → Row b i x → Row b i y → x ≡ y)
    → (code : ℕ) (b : List ℕ) (o : ℕ) (x y : X) (n k : ℕ) → IndexAt code Row b o x n → IndexAt code Row b o y k → (x ≡ y) × (n ≡ k)
one_index Row one code b o x y n k h g =
    let same = one_sized number_of code 4 b o h.0 g.0 n k h.1 g.1 in
    (one b g.0 x y (subst (λ i. Row b i x) same.0 h.2) g.2, same.1)

-- a boolean is in the argument of its first byte
one_boolean : (b : List ℕ) (o : ℕ) (x y : Bool) (n k : ℕ) → ValueAt b o (BooleanValue x) n → ValueAt b o (BooleanValue y) k → (x ≡ y) × (n ≡ k)
one_boolean b o false true n k h g = absurd (let e = same_first (value_byte 0 0x1f) (value_byte 1 0x1f) [] [] h.0 g.0 in omega arith)
one_boolean b o true false n k h g = absurd (let e = same_first (value_byte 1 0x1f) (value_byte 0 0x1f) [] [] h.0 g.0 in omega arith)
one_boolean b o _ _ n k h g = (refl, h.1 ∙ sym g.1)

-- ---- the kinds of value, by type code

-- the type code of a value
abbrev code_of : Value → ℕ
code_of (ByteValue z) = 0x00
code_of (ShortValue z) = 0x02
code_of (CharValue u) = 0x03
code_of (IntValue z) = 0x04
code_of (LongValue z) = 0x06
code_of (FloatValue bits) = 0x10
code_of (DoubleValue bits) = 0x11
code_of (StringValue s) = 0x17
code_of (TypeValue t) = 0x18
code_of (FieldValue f) = 0x19
code_of (MethodValue m) = 0x1a
code_of (EnumValue f) = 0x1b
code_of (ArrayValue vs) = 0x1c
code_of (AnnotationValue t es) = 0x1d
code_of NullValue = 0x1e
code_of (BooleanValue is) = 0x1f

-- a value in a file has its type code there
value_code : (b : List ℕ) (o : ℕ) (v : Value) (n : ℕ) → ValueAt b o v n → HasCode b o (code_of v)
value_code b o (ByteValue z) n h = sized_code b o 0x00 1 h.0 n (omega arith) h.1
value_code b o (ShortValue z) n h = sized_code b o 0x02 2 h.0 n (omega arith) h.1
value_code b o (CharValue u) n h = sized_code b o 0x03 2 h.0 n (omega arith) h.1
value_code b o (IntValue z) n h = sized_code b o 0x04 4 h.0 n (omega arith) h.1
value_code b o (LongValue z) n h = sized_code b o 0x06 8 h.0 n (omega arith) h.1
value_code b o (FloatValue bits) n h = sized_code b o 0x10 4 h.0 n (omega arith) h.1
value_code b o (DoubleValue bits) n h = sized_code b o 0x11 8 h.0 n (omega arith) h.1
value_code b o (StringValue s) n h = sized_code b o 0x17 4 h.1.0 n (omega arith) h.1.1
value_code b o (TypeValue t) n h = sized_code b o 0x18 4 h.1.0 n (omega arith) h.1.1
value_code b o (FieldValue f) n h = sized_code b o 0x19 4 h.1.0 n (omega arith) h.1.1
value_code b o (MethodValue m) n h = sized_code b o 0x1a 4 h.1.0 n (omega arith) h.1.1
value_code b o (EnumValue f) n h = sized_code b o 0x1b 4 h.1.0 n (omega arith) h.1.1
value_code b o (ArrayValue vs) n h = record { first = value_byte 0 0x1c; rest = []; encodes = h.0; is = refl }
value_code b o (AnnotationValue t es) n h = record { first = value_byte 0 0x1d; rest = []; encodes = h.0; is = refl }
value_code b o NullValue n h = record { first = value_byte 0 0x1e; rest = []; encodes = h.0; is = refl }
value_code b o (BooleanValue false) n h = record { first = value_byte 0 0x1f; rest = []; encodes = h.0; is = refl }
value_code b o (BooleanValue true) n h = record { first = value_byte 1 0x1f; rest = []; encodes = h.0; is = refl }

-- the parts of a value of any kind
abbrev signed_part : Value → ℤ
signed_part (ByteValue z) = z
signed_part (ShortValue z) = z
signed_part (IntValue z) = z
signed_part (LongValue z) = z
signed_part _ = pos 0

-- its number without a sign
abbrev unsigned_part : Value → ℕ
unsigned_part (CharValue u) = u
unsigned_part (FloatValue bits) = bits
unsigned_part (DoubleValue bits) = bits
unsigned_part _ = 0

-- its text
abbrev text_part : Value → Text
text_part (StringValue s) = s
text_part (TypeValue t) = t
text_part (AnnotationValue t es) = t
text_part _ = []

-- its field
abbrev field_part : Value → Field
field_part (FieldValue f) = f
field_part (EnumValue f) = f
field_part _ = record { class = []; name = []; type = [] }

-- its method
abbrev method_part : Value → Method
method_part (MethodValue m) = m
method_part _ = record { class = []; name = []; proto = record { return_type = []; parameters = [] } }

-- its values
abbrev values_part : Value → Values
values_part (ArrayValue vs) = vs
values_part _ = NoValues

-- its elements
abbrev elements_part : Value → Elements
elements_part (AnnotationValue t es) = es
elements_part _ = NoElements

-- whether it is true
abbrev boolean_part : Value → Bool
boolean_part (BooleanValue is) = is
boolean_part _ = false

-- the value of a type code with the parts of another
abbrev with_code : ℕ → Value → Value
with_code c v =
    if c == 0x00 then ByteValue (signed_part v)
    else if c == 0x02 then ShortValue (signed_part v)
    else if c == 0x03 then CharValue (unsigned_part v)
    else if c == 0x04 then IntValue (signed_part v)
    else if c == 0x06 then LongValue (signed_part v)
    else if c == 0x10 then FloatValue (unsigned_part v)
    else if c == 0x11 then DoubleValue (unsigned_part v)
    else if c == 0x17 then StringValue (text_part v)
    else if c == 0x18 then TypeValue (text_part v)
    else if c == 0x19 then FieldValue (field_part v)
    else if c == 0x1a then MethodValue (method_part v)
    else if c == 0x1b then EnumValue (field_part v)
    else if c == 0x1c then ArrayValue (values_part v)
    else if c == 0x1d then AnnotationValue (text_part v) (elements_part v)
    else if c == 0x1e then NullValue
    else BooleanValue (boolean_part v)

-- with its own type code a value is itself
with_own_code : (v : Value) → with_code (code_of v) v ≡ v
with_own_code (ByteValue z) = refl
with_own_code _ = refl

-- values at one offset have the same kind
same_kind : (b : List ℕ) (o : ℕ) (v w : Value) (n k : ℕ) → ValueAt b o v n → ValueAt b o w k → w ≡ with_code (code_of v) w
same_kind b o v w n k h g = sym (with_own_code w) ∙ ap (λ (c : ℕ). with_code c w) (one_code b o (code_of w) (code_of v) (value_code b o w k g) (value_code b o v n h))

-- ---- values at an offset

-- equal parts of one kind
of_kind : {X : Type 0} (make : X → Value) (x y : X) (w : Value) (n k : ℕ) → w ≡ make y → (x ≡ y) × (n ≡ k) → (make x ≡ w) × (n ≡ k)
of_kind make x y w n k e same = (ap make same.0 ∙ sym e, same.1)

-- an array's count and values
array_tail : (b : List ℕ) (o : ℕ) (vs ws : Values) (n k : ℕ) → ((p i j : ℕ) → count_values vs ≡ count_values ws → ValuesAt b p vs i → ValuesAt b p ws j → (vs ≡ ws) × (i ≡ j))
    → ArrayAround (λ p i. ValuesAt b p vs i) (count_values vs) b o n → ArrayAround (λ p i. ValuesAt b p ws i) (count_values ws) b o k → (vs ≡ ws) × (n ≡ k)
array_tail b o vs ws n k one h g =
    let count = one_uleb128 b o (count_values vs) (count_values ws) h.0 g.0 h.2 g.2 in
    let same = one (o + g.0) h.1 g.1 count.0 (subst (λ (i : ℕ). ValuesAt b (o + i) vs h.1) count.1 h.3) g.3 in
    (same.0, omega (arith, count.1, same.1, h.4, g.4))

-- an annotation's type, and its elements
annotation_tail : (b : List ℕ) (o : ℕ) (t u : Text) (es fs : Elements) (n k : ℕ)
    → ((p i j : ℕ) → length (names_of es) ≡ length (names_of fs) → ElementsAt b p es i → ElementsAt b p fs j → (es ≡ fs) × (i ≡ j))
    → AnnotationAround (λ p i. ElementsAt b p es i) t (names_of es) b o n → AnnotationAround (λ p i. ElementsAt b p fs i) u (names_of fs) b o k → (t ≡ u) × (es ≡ fs) × (n ≡ k)
annotation_tail b o t u es fs n k one h g =
    let index = one_uleb128 b o h.3 g.3 h.0 g.0 h.4 g.4 in
    let type = one_type b g.3 t u (subst (λ (i : ℕ). TypeRow b i t) index.0 h.5) g.5 in
    let count = one_uleb128 b (o + g.0) (length (names_of es)) (length (names_of fs)) h.1 g.1 (subst (λ (i : ℕ). Uleb128At b (o + i) (length (names_of es)) h.1) index.1 h.6) g.6 in
    let place : o + h.0 + h.1 ≡ o + g.0 + g.1 = omega (arith, index.1, count.1) in
    let same = one (o + g.0 + g.1) h.2 g.2 count.0 (subst (λ (p : ℕ). ElementsAt b p es h.2) place h.7) g.7 in
    (type, same.0, omega (arith, index.1, count.1, same.1, h.9, g.9))

mutual
  -- one value
  pub one_value : (b : List ℕ) (o : ℕ) (v w : Value) (n k : ℕ) → ValueAt b o v n → ValueAt b o w k → (v ≡ w) × (n ≡ k)
  one_value b o (ByteValue z) w n k h g =
      let e = same_kind b o (ByteValue z) w n k h g in
      of_kind ByteValue z (signed_part w) w n k e (one_sized (λ bytes. signed_in (length bytes) (number_of bytes)) 0x00 1 b o z (signed_part w) n k h (subst (λ (x : Value). ValueAt b o x k) e g))
  one_value b o (ShortValue z) w n k h g =
      let e = same_kind b o (ShortValue z) w n k h g in
      of_kind ShortValue z (signed_part w) w n k e (one_sized (λ bytes. signed_in (length bytes) (number_of bytes)) 0x02 2 b o z (signed_part w) n k h (subst (λ (x : Value). ValueAt b o x k) e g))
  one_value b o (CharValue u) w n k h g =
      let e = same_kind b o (CharValue u) w n k h g in
      of_kind CharValue u (unsigned_part w) w n k e (one_sized number_of 0x03 2 b o u (unsigned_part w) n k h (subst (λ (x : Value). ValueAt b o x k) e g))
  one_value b o (IntValue z) w n k h g =
      let e = same_kind b o (IntValue z) w n k h g in
      of_kind IntValue z (signed_part w) w n k e (one_sized (λ bytes. signed_in (length bytes) (number_of bytes)) 0x04 4 b o z (signed_part w) n k h (subst (λ (x : Value). ValueAt b o x k) e g))
  one_value b o (LongValue z) w n k h g =
      let e = same_kind b o (LongValue z) w n k h g in
      of_kind LongValue z (signed_part w) w n k e (one_sized (λ bytes. signed_in (length bytes) (number_of bytes)) 0x06 8 b o z (signed_part w) n k h (subst (λ (x : Value). ValueAt b o x k) e g))
  one_value b o (FloatValue bits) w n k h g =
      let e = same_kind b o (FloatValue bits) w n k h g in
      of_kind FloatValue bits (unsigned_part w) w n k e (one_sized (λ bytes. 256 ^ (4 - length bytes) * number_of bytes) 0x10 4 b o bits (unsigned_part w) n k h (subst (λ (x : Value). ValueAt b o x k) e g))
  one_value b o (DoubleValue bits) w n k h g =
      let e = same_kind b o (DoubleValue bits) w n k h g in
      of_kind DoubleValue bits (unsigned_part w) w n k e (one_sized (λ bytes. 256 ^ (8 - length bytes) * number_of bytes) 0x11 8 b o bits (unsigned_part w) n k h (subst (λ (x : Value). ValueAt b o x k) e g))
  one_value b o (StringValue s) w n k h g =
      let e = same_kind b o (StringValue s) w n k h g in
      of_kind StringValue s (text_part w) w n k e (one_index StringRow one_string 0x17 b o s (text_part w) n k h (subst (λ (x : Value). ValueAt b o x k) e g))
  one_value b o (TypeValue t) w n k h g =
      let e = same_kind b o (TypeValue t) w n k h g in
      of_kind TypeValue t (text_part w) w n k e (one_index TypeRow one_type 0x18 b o t (text_part w) n k h (subst (λ (x : Value). ValueAt b o x k) e g))
  one_value b o (FieldValue f) w n k h g =
      let e = same_kind b o (FieldValue f) w n k h g in
      of_kind FieldValue f (field_part w) w n k e (one_index FieldRow one_field 0x19 b o f (field_part w) n k h (subst (λ (x : Value). ValueAt b o x k) e g))
  one_value b o (MethodValue m) w n k h g =
      let e = same_kind b o (MethodValue m) w n k h g in
      of_kind MethodValue m (method_part w) w n k e (one_index MethodRow one_method 0x1a b o m (method_part w) n k h (subst (λ (x : Value). ValueAt b o x k) e g))
  one_value b o (EnumValue f) w n k h g =
      let e = same_kind b o (EnumValue f) w n k h g in
      of_kind EnumValue f (field_part w) w n k e (one_index FieldRow one_field 0x1b b o f (field_part w) n k h (subst (λ (x : Value). ValueAt b o x k) e g))
  one_value b o (ArrayValue vs) w n k h g =
      let e = same_kind b o (ArrayValue vs) w n k h g in
      let g' = subst (λ (x : Value). ValueAt b o x k) e g in
      let same = array_tail b (o + 1) vs (values_part w) h.1 g'.1 (λ p i j count x y. one_values b p vs (values_part w) i j count x y) h.2 g'.2 in
      (ap ArrayValue same.0 ∙ sym e, omega (arith, same.1, h.3, g'.3))
  one_value b o (AnnotationValue t es) w n k h g =
      let e = same_kind b o (AnnotationValue t es) w n k h g in
      let g' = subst (λ (x : Value). ValueAt b o x k) e g in
      let same = annotation_tail b (o + 1) t (text_part w) es (elements_part w) h.1 g'.1 (λ p i j count x y. one_elements b p es (elements_part w) i j count x y) h.2 g'.2 in
      ((λ i. AnnotationValue (same.0 i) (same.1 i)) ∙ sym e, omega (arith, same.2, h.3, g'.3))
  one_value b o NullValue w n k h g =
      let e = same_kind b o NullValue w n k h g in
      let g' = subst (λ (x : Value). ValueAt b o x k) e g in
      (sym e, h.1 ∙ sym g'.1)
  one_value b o (BooleanValue is) w n k h g =
      let e = same_kind b o (BooleanValue is) w n k h g in
      let same = one_boolean b o is (boolean_part w) n k h (subst (λ (x : Value). ValueAt b o x k) e g) in
      (ap BooleanValue same.0 ∙ sym e, same.1)

  -- two lists of values of one length in sequence
  pub one_values : (b : List ℕ) (o : ℕ) (vs ws : Values) (n k : ℕ) → count_values vs ≡ count_values ws → ValuesAt b o vs n → ValuesAt b o ws k → (vs ≡ ws) × (n ≡ k)
  one_values b o NoValues NoValues n k count h g = (refl, h ∙ sym g)
  one_values b o NoValues (ThenValue w ws) n k count h g = absurd (omega arith)
  one_values b o (ThenValue v vs) NoValues n k count h g = absurd (omega arith)
  one_values b o (ThenValue v vs) (ThenValue w ws) n k count h g =
      let first = one_value b o v w h.0 g.0 h.2 g.2 in
      let rest = one_values b (o + g.0) vs ws h.1 g.1 (omega arith) (subst (λ (i : ℕ). ValuesAt b (o + i) vs h.1) first.1 h.3) g.3 in
      ((λ i. ThenValue (first.0 i) (rest.0 i)), omega (arith, first.1, rest.1, h.4, g.4))

  -- two lists of elements of one length in sequence
  pub one_elements : (b : List ℕ) (o : ℕ) (es fs : Elements) (n k : ℕ) → length (names_of es) ≡ length (names_of fs) → ElementsAt b o es n → ElementsAt b o fs k → (es ≡ fs) × (n ≡ k)
  one_elements b o NoElements NoElements n k count h g = (refl, h ∙ sym g)
  one_elements b o NoElements (ThenElement t w fs) n k count h g = absurd (omega arith)
  one_elements b o (ThenElement s v es) NoElements n k count h g = absurd (omega arith)
  one_elements b o (ThenElement s v es) (ThenElement t w fs) n k count h g =
      let index = one_uleb128 b o h.3 g.3 h.0 g.0 h.4 g.4 in
      let name = one_string b g.3 s t (subst (λ (i : ℕ). StringRow b i s) index.0 h.5) g.5 in
      let first = one_value b (o + g.0) v w h.1 g.1 (subst (λ (i : ℕ). ValueAt b (o + i) v h.1) index.1 h.6) g.6 in
      let place : o + h.0 + h.1 ≡ o + g.0 + g.1 = omega (arith, index.1, first.1) in
      let rest = one_elements b (o + g.0 + g.1) es fs h.2 g.2 (omega arith) (subst (λ (p : ℕ). ElementsAt b p es h.2) place h.7) g.7 in
      ((λ i. ThenElement (name i) (first.0 i) (rest.0 i)), omega (arith, index.1, first.1, rest.1, h.8, g.8))

-- there is at most one encoded array at an offset
pub one_array : (b : List ℕ) (o : ℕ) (vs ws : Values) (n k : ℕ) → EncodedArrayAt b o vs n → EncodedArrayAt b o ws k → (vs ≡ ws) × (n ≡ k)
one_array b o vs ws n k h g = array_tail b o vs ws n k (λ p. one_values b p vs ws) h g

-- there is at most one encoded annotation at an offset, of one type
pub one_annotation : (b : List ℕ) (o : ℕ) (t u : Text) (es fs : Elements) (n k : ℕ) → EncodedAnnotationAt t b o es n → EncodedAnnotationAt u b o fs k → (t ≡ u) × (es ≡ fs) × (n ≡ k)
one_annotation b o t u es fs n k h g = annotation_tail b o t u es fs n k (λ p. one_elements b p es fs) h g
