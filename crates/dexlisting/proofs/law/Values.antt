-- Values and elements of a listing are read back.
use Rattle.dexspec.proofs.Common.{◌≡◌, ℕ, ◌==◌, ◌||◌, Bool, true, false, List, [], ◌∷◌, ◌++◌, get_or, refl, sym, ap, ◌∙◌, true≢false, arith, codes, append_assoc, append_cancel_left}
use Rattle.std.proofs.Common.{ap₂, eqb-true}
use Rattle.dexspec.specs.Texts.{Text}
use Rattle.dexspec.specs.Values.{Value, ByteValue, ShortValue, CharValue, IntValue, LongValue, FloatValue, DoubleValue, StringValue, TypeValue, FieldValue, MethodValue, EnumValue, ArrayValue, AnnotationValue, NullValue, BooleanValue, Values, NoValues, ThenValue, Elements, NoElements, ThenElement}
use Rattle.dexspec.specs.Mentions.{value_symbols, values_symbols, elements_symbols}
use Rattle.dexspec.specs.WellFormed.{IsValue, AreValues, AreElements}
use Rattle.dexlisting.specs.FullListing.{plain_unit, plain, value_text, values_text, elements_text}
use Rattle.dexlisting.proofs.law.Reads.{Reads, Anything, begins, Ends, after, part}
use Rattle.dexlisting.proofs.law.Numbers.{is_digit, is_hexadecimal, reads_literal, reads_place, fits_byte, fits_short, fits_int, fits_long}
use Rattle.dexlisting.proofs.law.Texts.{is_name_sign, name_sign, reads_quoted, reads_plain}
use Rattle.dexlisting.proofs.law.Types.{reads_type}
use Rattle.dexlisting.proofs.law.Symbols.{KnownSymbol, reads_field, reads_method}
use Rattle.dexlisting.proofs.law.Goods.{Knows, each_append}
use Rattle.dexlisting.proofs.law.Kinds.{same_kind, same_boolean, not_closed}

-- ---- what follows a value

-- a blank or a line feed
abbrev pub is_break : ℕ → Bool
is_break u = (u == 0x20) || (u == 0x0a)

-- a text begins with one
abbrev pub Breaks : List ℕ → Type 0
Breaks r = begins is_break r ≡ true

-- so no number and no name goes on
pub breaks_end : (test : ℕ → Bool) → test 0x20 ≡ false → test 0x0a ≡ false → (r : List ℕ) → Breaks r → Ends test r
breaks_end test blank feed [] b = refl
breaks_end test blank feed (u ∷ r) b = go (u == 0x20) refl b
  where
    go : (is : Bool) → (u == 0x20) ≡ is → (is || (u == 0x0a)) ≡ true → test u ≡ false
    go true e f = ap test (eqb-true u 0x20 e) ∙ blank
    go false e f = ap test (eqb-true u 0x0a f) ∙ feed

-- no decimal number
no_digit : (r : List ℕ) → Breaks r → Ends is_digit r
no_digit r b = breaks_end is_digit refl refl r b

-- no hexadecimal number
no_hexadecimal : (r : List ℕ) → Breaks r → Ends is_hexadecimal r
no_hexadecimal r b = breaks_end is_hexadecimal refl refl r b

-- no name, with the sign after it, begins with the bracket after elements
not_ended : (name : Text) (a r s : List ℕ) → (plain name ++ (codes "=" ++ a)) ++ r ≡ 0x7d ∷ s → ⊥
not_ended [] a r s e = omega (arith, ap (λ t. get_or t 0 0) e)
not_ended (u ∷ name) a r s e = true≢false (sym (name_sign u (plain name ++ (codes "=" ++ (a ++ r))))
    ∙ ap (begins is_name_sign) (ap (λ t. plain_unit u ++ t) (sym (append_assoc (plain name) (codes "=" ++ a) r))
    ∙ sym (append_assoc (plain_unit u) (plain name ++ (codes "=" ++ a)) r) ∙ ap (λ t. t ++ r) (sym (append_assoc (plain_unit u) (plain name) (codes "=" ++ a))) ∙ e))

-- ---- values

-- a value that some file can have, of which all symbols are known
abbrev pub KnownValue : Value → Type 0
KnownValue v = IsValue v × Knows (value_symbols v)

-- such values
abbrev pub KnownValues : Values → Type 0
KnownValues vs = AreValues vs × Knows (values_symbols vs)

-- elements of such values
abbrev pub KnownElements : Elements → Type 0
KnownElements es = AreElements es × Knows (elements_symbols es)

-- what follows values or elements begins with a blank
values_break : (vs : Values) (r : List ℕ) → Breaks (values_text vs ++ r)
values_break NoValues r = refl
values_break (ThenValue v vs) r = refl

-- the same of elements
elements_break : (es : Elements) (r : List ℕ) → Breaks (elements_text es ++ r)
elements_break NoElements r = refl
elements_break (ThenElement name v es) r = refl

mutual
  -- a value
  value_from : (v w : Value) (r s : List ℕ) → KnownValue v → KnownValue w → Breaks r → Breaks s → value_text v ++ r ≡ value_text w ++ s → (v ≡ w) × (r ≡ s)
  value_from (ByteValue y) (ByteValue z) r s gv gw fr fs e =
      let p = reads_literal.read y z r s (fits_byte y gv.0) (fits_byte z gw.0) (no_digit r fr) (no_digit s fs) (after (codes "byte ") e) in (ap ByteValue p.0, p.1)
  value_from (ShortValue y) (ShortValue z) r s gv gw fr fs e =
      let p = reads_literal.read y z r s (fits_short y gv.0) (fits_short z gw.0) (no_digit r fr) (no_digit s fs) (after (codes "short ") e) in (ap ShortValue p.0, p.1)
  value_from (CharValue y) (CharValue z) r s gv gw fr fs e =
      let p = reads_place.read y z r s (omega (arith, gv.0)) (omega (arith, gw.0)) (no_hexadecimal r fr) (no_hexadecimal s fs) (after (codes "char ") e) in (ap CharValue p.0, p.1)
  value_from (IntValue y) (IntValue z) r s gv gw fr fs e =
      let p = reads_literal.read y z r s (fits_int y gv.0) (fits_int z gw.0) (no_digit r fr) (no_digit s fs) (after (codes "int ") e) in (ap IntValue p.0, p.1)
  value_from (LongValue y) (LongValue z) r s gv gw fr fs e =
      let p = reads_literal.read y z r s (fits_long y gv.0) (fits_long z gw.0) (no_digit r fr) (no_digit s fs) (after (codes "long ") e) in (ap LongValue p.0, p.1)
  value_from (FloatValue y) (FloatValue z) r s gv gw fr fs e =
      let p = reads_place.read y z r s (omega (arith, gv.0)) (omega (arith, gw.0)) (no_hexadecimal r fr) (no_hexadecimal s fs) (after (codes "float-bits ") e) in (ap FloatValue p.0, p.1)
  value_from (DoubleValue y) (DoubleValue z) r s gv gw fr fs e =
      let p = reads_place.read y z r s gv.0 gw.0 (no_hexadecimal r fr) (no_hexadecimal s fs) (after (codes "double-bits ") e) in (ap DoubleValue p.0, p.1)
  value_from (StringValue y) (StringValue z) r s gv gw fr fs e =
      let p = reads_quoted.read y z r s gv.1.0 gw.1.0 tt tt (after (codes "string ") e) in (ap StringValue p.0, p.1)
  value_from (TypeValue y) (TypeValue z) r s gv gw fr fs e =
      let p = reads_type.read y z r s gv.1.0 gw.1.0 tt tt (after (codes "type ") e) in (ap TypeValue p.0, p.1)
  value_from (FieldValue y) (FieldValue z) r s gv gw fr fs e =
      let p = reads_field.read y z r s gv.1.0 gw.1.0 tt tt (after (codes "field ") e) in (ap FieldValue p.0, p.1)
  value_from (MethodValue y) (MethodValue z) r s gv gw fr fs e =
      let p = reads_method.read y z r s gv.1.0 gw.1.0 tt tt (after (codes "method ") e) in (ap MethodValue p.0, p.1)
  value_from (EnumValue y) (EnumValue z) r s gv gw fr fs e =
      let p = reads_field.read y z r s gv.1.0 gw.1.0 tt tt (after (codes "enum ") e) in (ap EnumValue p.0, p.1)
  value_from (ArrayValue vs) (ArrayValue ws) r s gv gw fr fs e =
      let p = values_from vs ws r s (gv.0.0, gv.1) (gw.0.0, gw.1) (after (codes "array {") e) in (ap ArrayValue p.0, p.1)
  value_from (AnnotationValue t es) (AnnotationValue u fields) r s gv gw fr fs e =
      let p = part reads_type t u (codes " {" ++ elements_text es) (codes " {" ++ elements_text fields) r s gv.1.0 gw.1.0 tt tt (after (codes "annotation ") e) in
      let q = elements_from es fields r s (gv.0.0, gv.1.1) (gw.0.0, gw.1.1) (after (codes " {") p.1) in
      (ap₂ AnnotationValue p.0 q.0, q.1)
  value_from NullValue NullValue r s gv gw fr fs e = (refl, after (codes "null") e)
  value_from (BooleanValue a) (BooleanValue b) r s gv gw fr fs e =
      let same = same_boolean a b r s e in
      (ap BooleanValue same, append_cancel_left (value_text (BooleanValue b)) r s (ap (λ c. value_text (BooleanValue c) ++ r) (sym same) ∙ e))
  value_from v w r s gv gw fr fs e = absurd (omega (arith, same_kind v w r s e))

  -- values, up to the bracket after them
  values_from : (vs ws : Values) (r s : List ℕ) → KnownValues vs → KnownValues ws → values_text vs ++ r ≡ values_text ws ++ s → (vs ≡ ws) × (r ≡ s)
  values_from NoValues NoValues r s gv gw e = (refl, after (codes " }") e)
  values_from NoValues (ThenValue w ws) r s gv gw e =
      absurd (not_closed w (values_text ws ++ s) r (sym (append_assoc (value_text w) (values_text ws) s) ∙ sym (after (codes " ") e)))
  values_from (ThenValue v vs) NoValues r s gv gw e =
      absurd (not_closed v (values_text vs ++ r) s (sym (append_assoc (value_text v) (values_text vs) r) ∙ after (codes " ") e))
  values_from (ThenValue v vs) (ThenValue w ws) r s gv gw e =
      let kv = each_append KnownSymbol (value_symbols v) (values_symbols vs) gv.1 in
      let kw = each_append KnownSymbol (value_symbols w) (values_symbols ws) gw.1 in
      let p = value_from v w (values_text vs ++ r) (values_text ws ++ s) (gv.0.0, kv.0) (gw.0.0, kw.0) (values_break vs r) (values_break ws s)
      (sym (append_assoc (value_text v) (values_text vs) r) ∙ after (codes " ") e ∙ append_assoc (value_text w) (values_text ws) s) in
      let q = values_from vs ws r s (gv.0.1, kv.1) (gw.0.1, kw.1) p.1 in
      (ap₂ ThenValue p.0 q.0, q.1)

  -- elements, up to the bracket after them
  elements_from : (es fs : Elements) (r s : List ℕ) → KnownElements es → KnownElements fs → elements_text es ++ r ≡ elements_text fs ++ s → (es ≡ fs) × (r ≡ s)
  elements_from NoElements NoElements r s gv gw e = (refl, after (codes " }") e)
  elements_from NoElements (ThenElement name w fs) r s gv gw e = absurd (not_ended name (value_text w ++ elements_text fs) s r (sym (after (codes " ") e)))
  elements_from (ThenElement name v es) NoElements r s gv gw e = absurd (not_ended name (value_text v ++ elements_text es) r s (after (codes " ") e))
  elements_from (ThenElement name v es) (ThenElement other w fs) r s gv gw e =
      let kv = each_append KnownSymbol (value_symbols v) (elements_symbols es) gv.1.1 in
      let kw = each_append KnownSymbol (value_symbols w) (elements_symbols fs) gw.1.1 in
      let n = part reads_plain name other (codes "=" ++ (value_text v ++ elements_text es)) (codes "=" ++ (value_text w ++ elements_text fs)) r s gv.1.0 gw.1.0 refl refl (after (codes " ") e) in
      let p = value_from v w (elements_text es ++ r) (elements_text fs ++ s) (gv.0.0, kv.0) (gw.0.0, kw.0) (elements_break es r) (elements_break fs s)
      (sym (append_assoc (value_text v) (elements_text es) r) ∙ after (codes "=") n.1 ∙ append_assoc (value_text w) (elements_text fs) s) in
      let q = elements_from es fs r s (gv.0.1, kv.1) (gw.0.1, kw.1) p.1 in
      (λ i. ThenElement (n.0 i) (p.0 i) (q.0 i), q.1)

-- a value is read back in front of a blank or a line feed
pub reads_value : Reads KnownValue Breaks value_text
reads_value = record { read = value_from }

-- values are read back
pub reads_values : Reads KnownValues Anything values_text
reads_values = record { read = λ x y r s gx gy fr fs e. values_from x y r s gx gy e }

-- elements are read back
pub reads_elements : Reads KnownElements Anything elements_text
reads_elements = record { read = λ x y r s gx gy fr fs e. elements_from x y r s gx gy e }
