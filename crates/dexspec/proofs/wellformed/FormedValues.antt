-- Values and annotations in a list of bytes are well formed.
use Rattle.dexspec.proofs.Common.{◌≡◌, ℕ, suc, ◌+◌, ◌-◌, ◌*◌, ◌<◌, ◌≤◌, ◌^◌, List, [], ◌∷◌, length, drop, All, refl, sym, ap, ◌∙◌, subst, arith, inl, inr, ℤ, pos, negsuc, FitsSigned, w8, w16, w32, w64, Contains, pow-le-pow_right, mul-le-mul_left, mul-suc, pow-add, ints, All-take, All-drop, Values}
use Rattle.dexspec.specs.{OrNone, number_of, BytesAt, uint_at, uints_at, magnitude, Field, Method, FieldRow, MethodRow, Value, ByteValue, ShortValue, CharValue, IntValue, LongValue, FloatValue, DoubleValue, ArrayValue, AnnotationValue, NoValues, ThenValue, Elements, NoElements, ThenElement, value_byte, SignedAt, UnsignedAt, BitsAt, ValueAt, ValuesAt, ElementsAt, values_depth, most_depth, Annotation, AnnotationSet, AnnotationAt, SetAt, RefListAt, Directory, no_directory, DirectoryAt, PairAt, pairs_at, fields_count, methods_count, parameters_count, StaticValuesAt, FitsUint, IsValue, AreValues, AreElements, IsAnnotation, IsSet}
use Rattle.dexspec.proofs.lists.Members.{Contains-nil}
use Rattle.dexspec.proofs.numbers.ByteNumbers.{number_bound, signed_in_room, pow_256_pos}
use Rattle.dexspec.proofs.wellformed.Fitting.{zip_source}
use Rattle.dexspec.proofs.wellformed.FormedRows.{all_from, uint_bound, length-uints_at, length-zip}

-- ---- sets

-- no annotations
pub empty_set : IsSet []
empty_set = record { annotations = λ k d lt. absurd (omega arith); rise = refl; count = omega arith }

-- a list of well-formed sets, whose length fits
pub record AreSets (list : List AnnotationSet) : Type 0 where
  pub sets : All IsSet list
  pub count : FitsUint (length list)

-- no sets
pub empty_list : AreSets []
empty_list = record { sets = λ k d lt. absurd (omega arith); count = omega arith }

-- the sets of a directory
pub record HasSets (d : Directory) : Type 0 where
  pub own : IsSet d.own
  pub fields : (e : Field × AnnotationSet) → Contains d.fields e → IsSet e.1
  pub methods : (e : Method × AnnotationSet) → Contains d.methods e → IsSet e.1
  pub parameters : (e : Method × List AnnotationSet) → Contains d.parameters e → AreSets e.1

-- ---- numbers in values

-- a number that fits one byte fits their type
fits_8 : (z : ℤ) → 2 * magnitude z < 256 → FitsSigned w8 z
fits_8 (pos n) h = omega (arith, ints)
fits_8 (negsuc n) h = omega (arith, ints)

-- two bytes
fits_16 : (z : ℤ) → 2 * magnitude z < 65536 → FitsSigned w16 z
fits_16 (pos n) h = omega (arith, ints)
fits_16 (negsuc n) h = omega (arith, ints)

-- four bytes
fits_32 : (z : ℤ) → 2 * magnitude z < 4294967296 → FitsSigned w32 z
fits_32 (pos n) h = omega (arith, ints)
fits_32 (negsuc n) h = omega (arith, ints)

-- eight bytes
fits_64 : (z : ℤ) → 2 * magnitude z < 18446744073709551616 → FitsSigned w64 z
fits_64 (pos n) h = omega (arith, ints)
fits_64 (negsuc n) h = omega (arith, ints)

-- a bit pattern of fewer bytes, with zeros below, fits all bytes
shifted : (l w n : ℕ) → l ≤ w → n < 256 ^ l → 256 ^ (w - l) * n < 256 ^ w
shifted l w n le lt =
    let high = 256 ^ (w - l) in
    let room : high * suc n ≤ high * 256 ^ l = mul-le-mul_left high lt in
    let whole : high * 256 ^ l ≡ 256 ^ w = sym (pow-add 256 (w - l) l) ∙ ap (λ (k : ℕ). 256 ^ k) (omega arith) in
    let split : high * suc n ≡ high * n + high = mul-suc high n in
    omega (arith, room, whole, split, pow_256_pos (w - l))

module _ (b : List ℕ) (bytes : All (λ byte. byte < 256) b) where
  -- the bytes at an offset are bytes
  bytes_in : (o first : ℕ) (xs : List ℕ) → BytesAt b o (first ∷ xs) → All (λ x. x < 256) xs
  bytes_in o first xs h =
      let small = λ (x : ℕ). x < 256 in
      let all : All small (first ∷ xs) = subst (λ (ys : List ℕ). All small ys) h.here (All-take small (length (first ∷ xs)) (drop o b) (All-drop small o b bytes)) in
      λ k d lt. all (suc k) d (omega arith)

  -- a signed number fits the bytes of its type
  signed_room_at : (code width o : ℕ) (z : ℤ) (n : ℕ) → SignedAt code width b o z n → 2 * magnitude z < 256 ^ width
  signed_room_at code width o z n h =
      let own = signed_in_room h.0 z (bytes_in o (value_byte (length h.0 - 1) code) h.0 h.1.encodes) h.1.some (sym h.2) in
      let most : 256 ^ length h.0 ≤ 256 ^ width = pow-le-pow_right (omega arith) h.1.few in
      omega (arith, own, most)

  -- an unsigned number fits
  unsigned_room_at : (code width o v n : ℕ) → UnsignedAt code width b o v n → v < 256 ^ width
  unsigned_room_at code width o v n h =
      let own = number_bound h.0 (bytes_in o (value_byte (length h.0 - 1) code) h.0 h.1.encodes) in
      let most : 256 ^ length h.0 ≤ 256 ^ width = pow-le-pow_right (omega arith) h.1.few in
      omega (arith, own, most, h.2)

  -- a bit pattern fits
  bits_room_at : (code width o v n : ℕ) → BitsAt code width b o v n → v < 256 ^ width
  bits_room_at code width o v n h =
      let own = number_bound h.0 (bytes_in o (value_byte (length h.0 - 1) code) h.0 h.1.encodes) in
      let most = shifted (length h.0) width (number_of h.0) h.1.few own in
      subst (λ (x : ℕ). x < 256 ^ width) (sym h.2) most

  -- ---- values

  mutual
    -- a value is well formed
    value_formed : (o : ℕ) (v : Value) (n : ℕ) → ValueAt b o v n → IsValue v
    value_formed o (ByteValue z) n h = fits_8 z (signed_room_at 0x00 1 o z n h)
    value_formed o (ShortValue z) n h = fits_16 z (signed_room_at 0x02 2 o z n h)
    value_formed o (CharValue u) n h = unsigned_room_at 0x03 2 o u n h
    value_formed o (IntValue z) n h = fits_32 z (signed_room_at 0x04 4 o z n h)
    value_formed o (LongValue z) n h = fits_64 z (signed_room_at 0x06 8 o z n h)
    value_formed o (FloatValue bits) n h = bits_room_at 0x10 4 o bits n h
    value_formed o (DoubleValue bits) n h = bits_room_at 0x11 8 o bits n h
    value_formed o (ArrayValue vs) n h = (values_formed (o + 1 + h.2.0) vs h.2.1 h.2.3, h.2.2.spelled.in_range)
    value_formed o (AnnotationValue t es) n h = (elements_formed (o + 1 + h.2.0 + h.2.1) es h.2.2 h.2.7, h.2.6.spelled.in_range, h.2.8)
    value_formed o _ n h = tt

    -- values are well formed
    pub values_formed : (o : ℕ) (vs : Values) (n : ℕ) → ValuesAt b o vs n → AreValues vs
    values_formed o NoValues n h = tt
    values_formed o (ThenValue v vs) n h = (value_formed o v h.0 h.2, values_formed (o + h.0) vs h.1 h.3)

    -- elements are well formed
    elements_formed : (o : ℕ) (es : Elements) (n : ℕ) → ElementsAt b o es n → AreElements es
    elements_formed o NoElements n h = tt
    elements_formed o (ThenElement name v es) n h = (value_formed (o + h.0) v h.1 h.6, elements_formed (o + h.0 + h.1) es h.2 h.7)

  -- static values are well formed, and their depth is bounded
  pub static_values_formed : (o : ℕ) (vs : Values) → OrNone StaticValuesAt NoValues b o vs → AreValues vs × (values_depth vs ≤ most_depth)
  static_values_formed o vs (inl h) = subst (λ (ws : Values). AreValues ws × (values_depth ws ≤ most_depth)) (sym h.1) (tt, omega arith)
  static_values_formed o vs (inr h) = let a = h.1.1.array in (values_formed (o + a.0) vs a.1 a.3, h.1.1.shallow)

  -- ---- annotations

  -- an annotation is well formed
  annotation_formed : (o : ℕ) (a : Annotation) → AnnotationAt b o a → IsAnnotation a
  annotation_formed o a h =
      let w = h.annotation.1 in
      record { visibility = h.known; elements = elements_formed (o + 1 + w.0 + w.1) a.elements w.2 w.7; count = w.6.spelled.in_range; rise = w.8; shallow = h.shallow }

  -- a set is well formed
  set_formed : (o : ℕ) (set : AnnotationSet) → SetAt b o set → IsSet set
  set_formed o set h = record {
    annotations = all_from IsAnnotation set (λ a c. let w = zip_source (AnnotationAt b) (uints_at b (o + 4) (uint_at b o)) set a h.annotations c in annotation_formed w.0 a w.2);
    rise = h.rise;
    count = omega (arith, length-zip (AnnotationAt b) (uints_at b (o + 4) (uint_at b o)) set h.annotations, length-uints_at b (o + 4) (uint_at b o), uint_bound b o bytes);
  }

  -- an optional set
  set_or_none_formed : (o : ℕ) (set : AnnotationSet) → OrNone SetAt [] b o set → IsSet set
  set_or_none_formed o set (inl h) = subst IsSet (sym h.1) empty_set
  set_or_none_formed o set (inr h) = set_formed o set h.1

  -- a list of sets is well formed
  ref_list_formed : (o : ℕ) (list : List AnnotationSet) → RefListAt b o list → AreSets list
  ref_list_formed o list h = record {
    sets = all_from IsSet list (λ s c. let w = zip_source (OrNone SetAt [] b) (uints_at b (o + 4) (uint_at b o)) list s h.sets c in set_or_none_formed w.0 s w.2);
    count = omega (arith, length-zip (OrNone SetAt [] b) (uints_at b (o + 4) (uint_at b o)) list h.sets, length-uints_at b (o + 4) (uint_at b o), uint_bound b o bytes);
  }

  -- the sets of a directory are well formed
  pub directory_formed : (o : ℕ) (d : Directory) → OrNone DirectoryAt no_directory b o d → HasSets d
  directory_formed o d (inl h) =
      subst HasSets (sym h.1) (record { own = empty_set; fields = λ e c. absurd (Contains-nil e c); methods = λ e c. absurd (Contains-nil e c); parameters = λ e c. absurd (Contains-nil e c) })
  directory_formed o d (inr h) =
      let is = h.1 in
      record {
        own = set_or_none_formed (uint_at b o) d.own is.own;
        fields = λ e c. let w = zip_source (PairAt FieldRow SetAt b) (pairs_at b (o + 16) (fields_count b o)) d.fields e is.fields.pairs c in set_formed w.0.1 e.1 w.2.2;
        methods = λ e c. let w = zip_source (PairAt MethodRow SetAt b) (pairs_at b (o + 16 + 8 * fields_count b o) (methods_count b o)) d.methods e is.methods.pairs c in set_formed w.0.1 e.1 w.2.2;
        parameters = λ e c.
            let w = zip_source (PairAt MethodRow RefListAt b) (pairs_at b (o + 16 + 8 * (fields_count b o + methods_count b o)) (parameters_count b o)) d.parameters e is.parameters.pairs c in
            ref_list_formed w.0.1 e.1 w.2.2;
      }
