-- Whether definitions exceed a cap is decidable.
use Rattle.dexspec.proofs.Common.{◌≡◌, ◌⊎◌, ℕ, ◌<◌, ◌≤◌, ◌==◌, Bool, true, false, cond, List, [], ◌∷◌, length, slice_index, Option, Some, None, option_to_list, refl, sym, ap, subst, arith, inl, inr, eqb-true, Contains, flat_map, cases_lt, Code}
use Rattle.dexspec.specs.{AreDistinct, rank, Text, text_cmp, TextSymbol, Piece, Instruction, low_byte, Definition, MethodDef, declared_methods, AreWithin, mentions, weight, Caps, Cap, TypeCap, ProtoCap, FieldCap, MethodCap, ShortStringCap, WeightCap, HasShortString, Exceeds, Fits}
use Rattle.dexspec.proofs.lists.{Contains-nil, Contains-first, Contains-cons_cases, Contains-flat_map, Contains-flat_map_source, some_or_none, once_of, definition_same_or_not}
use Rattle.dexspec.proofs.merge.WeightGrowth.{weight-within}

-- ---- the texts of const-strings that are not jumbo

-- a text if a test passed
abbrev short_text : Text → Bool → List Text
short_text s is = cond is (s ∷ []) []

-- the text of a piece, if it is such a const-string
abbrev piece_short : Piece → List Text
piece_short (Instruction us (Some (TextSymbol s))) = short_text s (low_byte (slice_index us 0) == 0x1a)
piece_short _ = []

-- the texts of code, of a method, of a definition, of all definitions
abbrev code_shorts : Code → List Text
code_shorts c = flat_map piece_short c.pieces

abbrev method_shorts : MethodDef → List Text
method_shorts m = flat_map code_shorts (option_to_list m.code)

abbrev definition_shorts : Definition → List Text
definition_shorts d = flat_map method_shorts (declared_methods d.1)

abbrev shorts : List Definition → List Text
shorts D = flat_map definition_shorts D

-- a piece is such a const-string of the text
abbrev IsShort : Piece → Text → Type 0
IsShort p s = (us : List ℕ) × (p ≡ Instruction us (Some (TextSymbol s))) × (low_byte (slice_index us 0) ≡ 0x1a)

-- case split on whether it is a const-string that is not jumbo
short_by : (us : List ℕ) (s t : Text) (b : Bool) → (low_byte (slice_index us 0) == 0x1a) ≡ b → Contains (short_text s b) t → IsShort (Instruction us (Some (TextSymbol s))) t
short_by us s t true e c = elim (Contains-cons_cases s t [] c) [
  | inl same ↦ (us, ap (λ z. Instruction us (Some (TextSymbol z))) same, eqb-true (low_byte (slice_index us 0)) 0x1a e)
  | inr none ↦ absurd (Contains-nil t none)
]
short_by us s t false e c = absurd (Contains-nil t c)

-- each text in the list of a piece is its text
piece_short-source : (p : Piece) (t : Text) → Contains (piece_short p) t → IsShort p t
piece_short-source (Instruction us (Some (TextSymbol s))) t c = short_by us s t (low_byte (slice_index us 0) == 0x1a) refl c
piece_short-source p t c = absurd (Contains-nil t c)

-- the text of such a piece is in its list
piece_short-has : (p : Piece) (t : Text) → IsShort p t → Contains (piece_short p) t
piece_short-has p t (us, e, low) =
    let is : (low_byte (slice_index us 0) == 0x1a) ≡ true = ap (λ n. n == 0x1a) low in
    subst (λ q. Contains (piece_short q) t) (sym e) (subst (λ b. Contains (short_text t b) t) (sym is) (Contains-first t []))

-- a present value is in the list
option_has : {X : Type 0} (o : Option X) (x : X) → o ≡ Some x → Contains (option_to_list o) x
option_has o x e = subst (λ p. Contains (option_to_list p) x) (sym e) (Contains-first x [])

-- each value in the list is present
option_source : {X : Type 0} (o : Option X) (x : X) → Contains (option_to_list o) x → o ≡ Some x
option_source None x c = absurd (Contains-nil x c)
option_source (Some y) x c = elim (Contains-cons_cases y x [] c) [ inl e ↦ ap Some e | inr none ↦ absurd (Contains-nil x none) ]

-- a short string is in the list
shorts-has : (D : List Definition) (s : Text) → HasShortString D s → Contains (shorts D) s
shorts-has D s x =
    let piece = piece_short-has (Instruction x.units (Some (TextSymbol s))) s (x.units, refl, x.short) in
    let in_code = Contains-flat_map piece_short x.code.pieces (Instruction x.units (Some (TextSymbol s))) s x.piece piece in
    let in_method = Contains-flat_map code_shorts (option_to_list x.method.code) x.code s (option_has x.method.code x.code x.has_code) in_code in
    let in_definition = Contains-flat_map method_shorts (declared_methods x.definition.1) x.method s x.declared in_method in
    Contains-flat_map definition_shorts D x.definition s x.member in_definition

-- each text in the list is a short string
shorts-source : (D : List Definition) (s : Text) → Contains (shorts D) s → HasShortString D s
shorts-source D s c =
    let d = Contains-flat_map_source definition_shorts D s c in
    let m = Contains-flat_map_source method_shorts (declared_methods d.0.1) s d.2 in
    let k = Contains-flat_map_source code_shorts (option_to_list m.0.code) s m.2 in
    let p = Contains-flat_map_source piece_short k.0.pieces s k.2 in
    let is = piece_short-source p.0 s p.2 in
    record {
      definition = d.0;
      method = m.0;
      code = k.0;
      units = is.0;
      member = d.1;
      declared = m.1;
      has_code = option_source m.0.code k.0 k.1;
      piece = subst (Contains k.0.pieces) is.1 p.1;
      short = is.2;
    }

-- ---- the caps

-- distinct members weigh at most as much as the list without its repeats
pub weight-once : (D E : List Definition) → AreDistinct E → AreWithin E D → weight E ≤ weight (once_of definition_same_or_not D).once
weight-once D E d h = let o = once_of definition_same_or_not D in weight-within E o.once d (λ x c. o.has x (h x c))

module _ (caps : Caps) (D : List Definition) where
  -- whether a number exceeds another is decidable
  more_or_not : (m n : ℕ) → (m < n) ⊎ (¬ (m < n))
  more_or_not m n = elim (cases_lt m n) [ inl lt ↦ inl lt | inr ge ↦ inr (λ lt. omega (arith, lt, ge)) ]

  -- whether a text has too great a rank is decidable
  short_or_not : (s : Text) → (caps.short_strings ≤ rank text_cmp s (mentions D).texts) ⊎ (¬ (caps.short_strings ≤ rank text_cmp s (mentions D).texts))
  short_or_not s = elim (cases_lt (rank text_cmp s (mentions D).texts) caps.short_strings) [ inl lt ↦ inr (λ ge. omega (arith, lt, ge)) | inr ge ↦ inl ge ]

  -- the weight of the distinct definitions decides
  weight_or_not : Exceeds caps D WeightCap ⊎ (¬ (Exceeds caps D WeightCap))
  weight_or_not = let o = once_of definition_same_or_not D in elim (cases_lt caps.weight (weight o.once)) [
    | inl lt ↦ inl (o.once, o.distinct, o.only, lt)
    | inr ge ↦ inr (λ x. omega (arith, ge, weight-once D x.0 x.1 x.2, x.3))
  ]

  -- a cap is exceeded or not
  pub exceeds_or_not : (cap : Cap) → Exceeds caps D cap ⊎ (¬ (Exceeds caps D cap))
  exceeds_or_not TypeCap = more_or_not caps.types (length (mentions D).types)
  exceeds_or_not ProtoCap = more_or_not caps.protos (length (mentions D).protos)
  exceeds_or_not FieldCap = more_or_not caps.fields (length (mentions D).fields)
  exceeds_or_not MethodCap = more_or_not caps.methods (length (mentions D).methods)
  exceeds_or_not ShortStringCap = elim (some_or_none (λ s. caps.short_strings ≤ rank text_cmp s (mentions D).texts) (shorts D) short_or_not) [
    | inl t ↦ inl (t.0, shorts-source D t.0 t.1, t.2)
    | inr none ↦ inr (λ x. none x.0 (shorts-has D x.0 x.1) x.2)
  ]
  exceeds_or_not WeightCap = weight_or_not

  -- not more is at most
  at_most : (m n : ℕ) → (¬ (m < n)) → n ≤ m
  at_most m n never = elim (cases_lt m n) [ inl lt ↦ absurd (never lt) | inr ge ↦ ge ]

  -- not at least is less
  less_than : (m n : ℕ) → (¬ (m ≤ n)) → n < m
  less_than m n never = elim (cases_lt n m) [ inl lt ↦ lt | inr ge ↦ absurd (never ge) ]

  -- definitions that exceed no cap fit
  pub fits-from_none : ((cap : Cap) → ¬ (Exceeds caps D cap)) → Fits caps D
  fits-from_none none = record {
    types = at_most caps.types (length (mentions D).types) (none TypeCap);
    protos = at_most caps.protos (length (mentions D).protos) (none ProtoCap);
    fields = at_most caps.fields (length (mentions D).fields) (none FieldCap);
    methods = at_most caps.methods (length (mentions D).methods) (none MethodCap);
    short_strings = λ s x. less_than caps.short_strings (rank text_cmp s (mentions D).texts) (λ ge. none ShortStringCap (s, x, ge));
    weight = λ E d h. at_most caps.weight (weight E) (λ lt. none WeightCap (E, d, h, lt));
  }
