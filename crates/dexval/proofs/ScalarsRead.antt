-- Values that hold no other value, as they are read: a value that is read is at the offset, and if none is read, none
-- is at the offset.
use Rattle.dexval.proofs.Common.{◌≡◌, ◌≢◌, ℕ, ◌%◌, List, [], Some, None, refl, ap, sym, subst, ◌∙◌, arith, slice_index, number_of, SizedAt, Mentions, ArePools, NumberedValue, Plain, Named, ByteLiteral, ShortLiteral, CharLiteral, IntLiteral, LongLiteral, FloatLiteral, DoubleLiteral, StringReference, TypeReference, FieldReference, MethodReference, EnumReference, width_of, IsUnknown, Spells, NoValueAt, IsReadAt}
use Rattle.dexval.proofs.Shapes.{sized_only, one_number}

module _ (b : List ℕ) (o : ℕ) (m : Mentions) (p : ArePools b m) where
  -- bytes of a type code, if the code is known
  as_code : (code c width wide : ℕ) (bytes : List ℕ) (n : ℕ) → code ≡ c → width_of code ≡ Some width → width_of c ≡ Some wide → SizedAt code width b o bytes n → SizedAt c wide b o bytes n
  as_code code c width wide bytes n e w x h =
      let same : width ≡ wide = let both : Some width ≡ Some wide = sym w ∙ ap width_of e ∙ x in cc in subst (λ (k : ℕ). SizedAt c k b o bytes n) same (subst (λ (k : ℕ). SizedAt k width b o bytes n) e h)

  -- the value of the bytes is at the offset
  pub spelled_encoded : (code width : ℕ) (bytes : List ℕ) (n : ℕ) (x : NumberedValue) → width_of code ≡ Some width → SizedAt code width b o bytes n → Spells m code bytes x → IsReadAt b o m 0 x n
  spelled_encoded code width bytes n (Plain (ByteLiteral z)) w h s = record { known = tt; encodes = (bytes, as_code code 0x00 width 1 bytes n s.0 w refl h, s.1); shallow = omega arith }
  spelled_encoded code width bytes n (Plain (ShortLiteral z)) w h s = record { known = tt; encodes = (bytes, as_code code 0x02 width 2 bytes n s.0 w refl h, s.1); shallow = omega arith }
  spelled_encoded code width bytes n (Plain (CharLiteral u)) w h s = record { known = tt; encodes = (bytes, as_code code 0x03 width 2 bytes n s.0 w refl h, s.1); shallow = omega arith }
  spelled_encoded code width bytes n (Plain (IntLiteral z)) w h s = record { known = tt; encodes = (bytes, as_code code 0x04 width 4 bytes n s.0 w refl h, s.1); shallow = omega arith }
  spelled_encoded code width bytes n (Plain (LongLiteral z)) w h s = record { known = tt; encodes = (bytes, as_code code 0x06 width 8 bytes n s.0 w refl h, s.1); shallow = omega arith }
  spelled_encoded code width bytes n (Plain (FloatLiteral bits)) w h s = record { known = tt; encodes = (bytes, as_code code 0x10 width 4 bytes n s.0 w refl h, s.1); shallow = omega arith }
  spelled_encoded code width bytes n (Plain (DoubleLiteral bits)) w h s = record { known = tt; encodes = (bytes, as_code code 0x11 width 8 bytes n s.0 w refl h, s.1); shallow = omega arith }
  spelled_encoded code width bytes n (Named StringReference i) w h s = record { known = s.1.known; encodes = (i, (bytes, as_code code 0x17 width 4 bytes n s.0 w refl h, s.1.is), p.texts_are.each i [] (omega (arith, s.1.known, p.texts_are.count))); shallow = omega arith }
  spelled_encoded code width bytes n (Named TypeReference i) w h s = record { known = s.1.known; encodes = (i, (bytes, as_code code 0x18 width 4 bytes n s.0 w refl h, s.1.is), p.types_are.each i [] (omega (arith, s.1.known, p.types_are.count))); shallow = omega arith }
  spelled_encoded code width bytes n (Named FieldReference i) w h s = record { known = s.1.known; encodes = (i, (bytes, as_code code 0x19 width 4 bytes n s.0 w refl h, s.1.is), p.fields_are.each i _ (omega (arith, s.1.known, p.fields_are.count))); shallow = omega arith }
  spelled_encoded code width bytes n (Named MethodReference i) w h s = record { known = s.1.known; encodes = (i, (bytes, as_code code 0x1a width 4 bytes n s.0 w refl h, s.1.is), p.methods_are.each i _ (omega (arith, s.1.known, p.methods_are.count))); shallow = omega arith }
  spelled_encoded code width bytes n (Named EnumReference i) w h s = record { known = s.1.known; encodes = (i, (bytes, as_code code 0x1b width 4 bytes n s.0 w refl h, s.1.is), p.fields_are.each i _ (omega (arith, s.1.known, p.fields_are.count))); shallow = omega arith }
  spelled_encoded code width bytes n x w h s = absurd s

  module _ (c : slice_index b o ≢ 0x1c) (d : slice_index b o ≢ 0x1d) (e : slice_index b o ≢ 0x1e) (f : slice_index b o ≢ 0x1f) (t : slice_index b o ≢ 0x3f) (depth : ℕ) where
    -- a type code that has no width
    pub no_width : width_of (slice_index b o % 32) ≡ None → NoValueAt b o depth
    no_width none v n h shallow = let s = sized_only b o m v n p c d e f t h in let w = s.wide in cc

    -- too many bytes, or too few in the file
    pub no_number : (width : ℕ) → width_of (slice_index b o % 32) ≡ Some width → ((xs : List ℕ) (n : ℕ) → SizedAt (slice_index b o % 32) width b o xs n → ⊥) → NoValueAt b o depth
    no_number width w none v n h shallow =
        let s = sized_only b o m v n p c d e f t h in
        let same : s.width ≡ width = let both : Some s.width ≡ Some width = sym s.wide ∙ w in cc in none s.bytes n (subst (λ (k : ℕ). SizedAt (slice_index b o % 32) k b o s.bytes n) same s.encodes)

    -- the bytes are the number of no symbol
    pub no_symbol : (width : ℕ) (xs : List ℕ) (k : ℕ) → width_of (slice_index b o % 32) ≡ Some width → SizedAt (slice_index b o % 32) width b o xs k → IsUnknown m (slice_index b o % 32) xs → NoValueAt b o depth
    no_symbol width xs k w g u v n h shallow =
        let s = sized_only b o m v n p c d e f t h in
        let named = u.names width w in omega (arith, u.unknown named.0 named.1, s.known named.0 named.1, ap number_of (one_number (slice_index b o % 32) s.width width b o s.bytes xs n k s.encodes g))
