-- The values that may be at an offset, by the first byte.
use Rattle.dexval.proofs.Common.{◌≡◌, ◌≢◌, ◌⊎◌, ℕ, suc, ◌-◌, ◌%◌, ◌<◌, List, [], ◌∷◌, length, drop, take, get_or, Some, None, refl, ap, subst, ◌∙◌, arith, inl, inr, true, false, slice_index, number_of, BytesAt, Text, ByteValue, ShortValue, CharValue, IntValue, LongValue, FloatValue, DoubleValue, StringValue, TypeValue, FieldValue, MethodValue, EnumValue, ArrayValue, AnnotationValue, NullValue, BooleanValue, Values, Elements, value_byte, SizedAt, ValueAt, Mentions, SymbolKind, ArePools, count_of, width_of, kind_of_code}
use Rattle.std.proofs.Math.Seq.{drop-cons}
use Rattle.dexspec.specs.Values.{Value}
use Rattle.dexspec.proofs.written.PlacedBytes.{same_first, same_bytes_at, is_at_within}
use Rattle.dexpool.specs.declared.symbols.SymbolKind.TheVariants as kinds

-- ---- the first byte

-- bytes that are at an offset begin there
pub within_is : (b : List ℕ) (o x : ℕ) (xs : List ℕ) → BytesAt b o (x ∷ xs) → o < length b
within_is b o x xs h = omega (arith, is_at_within h)

-- the first of them is the byte at the offset
pub first_is : (b : List ℕ) (o x : ℕ) (xs : List ℕ) → BytesAt b o (x ∷ xs) → slice_index b o ≡ x
first_is b o x xs h = let own : BytesAt b o (get_or b o 0 ∷ []) = record { here = ap (take 1) (drop-cons b o 0 (within_is b o x xs h)) } in same_first (get_or b o 0) x [] xs own h

-- a single byte is at its offset
pub is_at_byte : (b : List ℕ) (o x : ℕ) → o < length b → slice_index b o ≡ x → BytesAt b o (x ∷ [])
is_at_byte b o x lt e = record { here = ap (take 1) (drop-cons b o 0 lt) ∙ ap (λ (y : ℕ). y ∷ []) e }

-- the bytes of the number are the bytes of the file at the offset
pub one_number : (code width wide : ℕ) (b : List ℕ) (o : ℕ) (xs ys : List ℕ) (n k : ℕ) → SizedAt code width b o xs n → SizedAt code wide b o ys k → xs ≡ ys
one_number code width wide b o xs ys n k h g =
    let len : length xs ≡ length ys = omega (arith, same_first (value_byte (length xs - 1) code) (value_byte (length ys - 1) code) xs ys h.encodes g.encodes, h.some, g.some) in
    ap (λ (z : List ℕ). drop 1 z) (same_bytes_at (value_byte (length xs - 1) code ∷ xs) (value_byte (length ys - 1) code ∷ ys) h.encodes g.encodes (ap suc len))

-- ---- the shapes

-- the first byte of null, or of a boolean
abbrev pub IsFixed : ℕ → Type 0
IsFixed first = (first ≡ 0x1e) ⊎ (first ≡ 0x1f) ⊎ (first ≡ 0x3f)

-- a value is a number of some bytes (perhaps that of a symbol), a single byte, an array, or an annotation
data Shape (b : List ℕ) (o : ℕ) (m : Mentions) (v : Value) (n : ℕ) : Type 0 where
  sized : (code width : ℕ) (bytes : List ℕ) → code < 32 → width_of code ≡ Some width → SizedAt code width b o bytes n → ((kind : SymbolKind) → kind_of_code code ≡ Some kind → number_of bytes < count_of kind m) → Shape b o m v n
  fixed : (first : ℕ) → IsFixed first → BytesAt b o (first ∷ []) → Shape b o m v n
  array : (vs : Values) → v ≡ ArrayValue vs → BytesAt b o (0x1c ∷ []) → Shape b o m v n
  annotation : (t : Text) (es : Elements) → v ≡ AnnotationValue t es → BytesAt b o (0x1d ∷ []) → Shape b o m v n

-- a number that denotes no symbol
plain : {b : List ℕ} {o : ℕ} {m : Mentions} {v : Value} {n : ℕ} (code width : ℕ) (bytes : List ℕ) → code < 32 → width_of code ≡ Some width → kind_of_code code ≡ None → SizedAt code width b o bytes n → Shape b o m v n
plain code width bytes lt w none h = sized code width bytes lt w h (λ kind e. absurd cc)

-- a number of a symbol
naming : {b : List ℕ} {o : ℕ} {m : Mentions} {v : Value} {n : ℕ} (code : ℕ) (kind : SymbolKind) (bytes : List ℕ) (i : ℕ) → code < 32 → width_of code ≡ Some 4 → kind_of_code code ≡ Some kind → SizedAt code 4 b o bytes n → i ≡ number_of bytes → i < count_of kind m → Shape b o m v n
naming {m = m} code kind bytes i lt w named h is known = sized code 4 bytes lt w h (λ other e. let same : kind ≡ other = cc in subst (λ (k : SymbolKind). number_of bytes < count_of k m) same (subst (λ (x : ℕ). x < count_of kind m) is known))

-- each value in a file has its shape
shape : (b : List ℕ) (o : ℕ) (m : Mentions) (v : Value) (n : ℕ) → ArePools b m → ValueAt b o v n → Shape b o m v n
shape b o m (ByteValue z) n p h = plain 0x00 1 h.0 (omega arith) refl refl h.1
shape b o m (ShortValue z) n p h = plain 0x02 2 h.0 (omega arith) refl refl h.1
shape b o m (CharValue u) n p h = plain 0x03 2 h.0 (omega arith) refl refl h.1
shape b o m (IntValue z) n p h = plain 0x04 4 h.0 (omega arith) refl refl h.1
shape b o m (LongValue z) n p h = plain 0x06 8 h.0 (omega arith) refl refl h.1
shape b o m (FloatValue bits) n p h = plain 0x10 4 h.0 (omega arith) refl refl h.1
shape b o m (DoubleValue bits) n p h = plain 0x11 8 h.0 (omega arith) refl refl h.1
shape b o m (StringValue s) n p h = naming 0x17 kinds.Text h.1.0 h.0 (omega arith) refl refl h.1.1 h.1.2 (omega (arith, h.2.row, p.texts_are.count))
shape b o m (TypeValue t) n p h = naming 0x18 kinds.Typ h.1.0 h.0 (omega arith) refl refl h.1.1 h.1.2 (omega (arith, h.2.row, p.types_are.count))
shape b o m (FieldValue f) n p h = naming 0x19 kinds.Field h.1.0 h.0 (omega arith) refl refl h.1.1 h.1.2 (omega (arith, h.2.row, p.fields_are.count))
shape b o m (MethodValue x) n p h = naming 0x1a kinds.Method h.1.0 h.0 (omega arith) refl refl h.1.1 h.1.2 (omega (arith, h.2.row, p.methods_are.count))
shape b o m (EnumValue f) n p h = naming 0x1b kinds.Field h.1.0 h.0 (omega arith) refl refl h.1.1 h.1.2 (omega (arith, h.2.row, p.fields_are.count))
shape b o m (ArrayValue vs) n p h = array vs refl h.0
shape b o m (AnnotationValue t es) n p h = annotation t es refl h.0
shape b o m NullValue n p h = fixed 0x1e (inl refl) h.0
shape b o m (BooleanValue false) n p h = fixed 0x1f (inr (inl refl)) h.0
shape b o m (BooleanValue true) n p h = fixed 0x3f (inr (inr refl)) h.0

-- ---- what follows from the first byte

-- the first byte of an array, an annotation or a fixed value has no width
no_width_of : (first code width len : ℕ) → code < 32 → first ≡ value_byte (len - 1) code → width_of code ≡ Some width → (c : ℕ) → first % 32 ≡ c → width_of c ≡ Some width
no_width_of first code width len lt e w c is = let same : code ≡ c = omega arith in subst (λ (k : ℕ). width_of k ≡ Some width) same w

-- a value begins inside the file
pub value_within : (b : List ℕ) (o : ℕ) (m : Mentions) (v : Value) (n : ℕ) → ArePools b m → ValueAt b o v n → o < length b
value_within b o m v n p h =
    elim (shape b o m v n p h) [
      | sized code width bytes lt w s known ↦ within_is b o _ bytes s.encodes
      | fixed first is s ↦ within_is b o first [] s
      | array vs e s ↦ within_is b o 0x1c [] s
      | annotation t es e s ↦ within_is b o 0x1d [] s
    ]

-- the first byte of an array is that of no other value
pub array_only : (b : List ℕ) (o : ℕ) (m : Mentions) (v : Value) (n : ℕ) → ArePools b m → slice_index b o ≡ 0x1c → ValueAt b o v n → (vs : Values) × (v ≡ ArrayValue vs)
array_only b o m v n p is h =
    elim (shape b o m v n p h) [
      | sized code width bytes lt w s known ↦ absurd (let e = no_width_of (slice_index b o) code width (length bytes) lt (first_is b o _ bytes s.encodes) w 28 (ap (λ (x : ℕ). x % 32) is) in cc)
      | fixed first f s ↦ absurd (let e = first_is b o first [] s in elim f [ inl x ↦ omega (arith, x) | inr y ↦ elim y [ inl x ↦ omega (arith, x) | inr x ↦ omega (arith, x) ] ])
      | array vs e s ↦ (vs, e)
      | annotation t es e s ↦ absurd (let e = first_is b o 0x1d [] s in omega arith)
    ]

-- the first byte of an annotation is that of no other value
pub annotation_only : (b : List ℕ) (o : ℕ) (m : Mentions) (v : Value) (n : ℕ) → ArePools b m → slice_index b o ≡ 0x1d → ValueAt b o v n → (t : Text) × (es : Elements) × (v ≡ AnnotationValue t es)
annotation_only b o m v n p is h =
    elim (shape b o m v n p h) [
      | sized code width bytes lt w s known ↦ absurd (let e = no_width_of (slice_index b o) code width (length bytes) lt (first_is b o _ bytes s.encodes) w 29 (ap (λ (x : ℕ). x % 32) is) in cc)
      | fixed first f s ↦ absurd (let e = first_is b o first [] s in elim f [ inl x ↦ omega (arith, x) | inr y ↦ elim y [ inl x ↦ omega (arith, x) | inr x ↦ omega (arith, x) ] ])
      | array vs e s ↦ absurd (let e = first_is b o 0x1c [] s in omega arith)
      | annotation t es e s ↦ (t, es, e)
    ]

-- a number after a first byte
pub record IsSized (b : List ℕ) (o : ℕ) (m : Mentions) (n : ℕ) : Type 0 where
  pub width : ℕ
  pub bytes : List ℕ
  pub wide : width_of (slice_index b o % 32) ≡ Some width
  pub encodes : SizedAt (slice_index b o % 32) width b o bytes n
  pub known : (kind : SymbolKind) → kind_of_code (slice_index b o % 32) ≡ Some kind → number_of bytes < count_of kind m

-- after any other first byte comes a number
pub sized_only : (b : List ℕ) (o : ℕ) (m : Mentions) (v : Value) (n : ℕ) → ArePools b m → slice_index b o ≢ 0x1c → slice_index b o ≢ 0x1d → slice_index b o ≢ 0x1e → slice_index b o ≢ 0x1f → slice_index b o ≢ 0x3f → ValueAt b o v n → IsSized b o m n
sized_only b o m v n p c d e f t h =
    elim (shape b o m v n p h) [
      | sized code width bytes lt w s known ↦
          let is : code ≡ slice_index b o % 32 = let x = first_is b o (value_byte (length bytes - 1) code) bytes s.encodes in omega arith in
          record {
            width = width;
            bytes = bytes;
            wide = subst (λ (k : ℕ). width_of k ≡ Some width) is w;
            encodes = subst (λ (k : ℕ). SizedAt k width b o bytes n) is s;
            known = subst (λ (k : ℕ). (kind : SymbolKind) → kind_of_code k ≡ Some kind → number_of bytes < count_of kind m) is known;
          }
      | fixed first x s ↦ absurd (let at = first_is b o first [] s in elim x [ inl y ↦ e (at ∙ y) | inr y ↦ elim y [ inl z ↦ f (at ∙ z) | inr z ↦ t (at ∙ z) ] ])
      | array vs x s ↦ absurd (c (first_is b o 0x1c [] s))
      | annotation u es x s ↦ absurd (d (first_is b o 0x1d [] s))
    ]
