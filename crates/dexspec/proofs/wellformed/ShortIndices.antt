-- The indices of 16 bits fit their fields in definitions that fit the greatest caps: a const-string that is not a jumbo
-- one names a text of a small rank, and the other pools are small.
use Rattle.dexspec.proofs.Common.{◌≡◌, ℕ, ◌+◌, ◌<◌, ◌≤◌, ◌^◌, Bool, true, false, ◌&&◌, cond, List, [], ◌∷◌, length, slice_index, All, Option, Some, None, refl, sym, ap, ◌∙◌, arith, inl, inr, ◌-◌, slice_index_or, if◌then◌else◌, nat_le, nat_lt, option_and_then, Contains, list_all, find, flat_map, cases_lt, leb-true, eq-eqb, ltb-true, Code, Contains-append_left}
use Rattle.dexspec.specs.{Pool, StringPool, Symbol, TextSymbol, TypeSymbol, ProtoSymbol, FieldSymbol, MethodSymbol, field_cmp, method_cmp, proto_cmp, text_cmp, Opcode, OpcodeRun, opcode_runs, opcode_of, is_in_run, Cut, is_payload_ident, Piece, Instruction, units_of, DenotesPiece, index_pool, is_wide_index, low_byte, cut_units, MethodDef, Definition, declared_methods, mentions, piece_symbols, IsCodeItem, greatest_caps, Fits, symbol_index}
use Rattle.dexspec.specs.internal.IndexPlaces.{IndexFits}
use Rattle.dexspec.proofs.lists.{and_first, and_second, Contains-first, Contains-flat_map, rank-place}
use Rattle.dexspec.proofs.merge.{text_total, proto_total, field_total, method_total, mentions-rising}
use Rattle.dexspec.proofs.wellformed.FormedRows.{all_from}
use Rattle.dexspec.proofs.wellformed.Fitting.{zip_source}
use Rattle.dexspec.proofs.wellformed.Blanked.{IsZero, zeroed}
use Rattle.dexspec.proofs.wellformed.BlankedCode.{found_passes, mapped_some}
use Rattle.dexspec.proofs.normal.MemberRanks.{IsMentioned, mentioned, code_occurs}

-- ---- the opcodes that name texts

-- the first that passes, passes
found_is : {X : Type 0} (p : X → Bool) (xs : List X) (x : X) → find p xs ≡ Some x → p x ≡ true
found_is p [] x e = absurd cc
found_is p (y ∷ ys) x e = by (p y) refl e (found_is p ys x)
  where
    by : (t : Bool) → p y ≡ t → cond t (Some y) (find p ys) ≡ Some x → (find p ys ≡ Some x → p x ≡ true) → p x ≡ true
    by true q e again = let same : y ≡ x = cc in ap p (sym same) ∙ q
    by false q e again = again e

-- the opcodes of a run that name texts are two
abbrev names_texts : OpcodeRun → Option Pool → Bool
names_texts r (Some StringPool) = nat_le 0x1a r.first && nat_le (r.first + length r.mnemonics) 0x1c
names_texts r _ = true

-- this holds in the whole table
runs_name_texts : list_all (λ (r : OpcodeRun). names_texts r r.index) opcode_runs ≡ true
unfolding opcode_runs
runs_name_texts = refl

-- const-string, or const-string/jumbo
string_opcode : (n : ℕ) (op : Opcode) → opcode_of n ≡ Some op → op.index ≡ Some StringPool → (0x1a ≤ n) × (n ≤ 0x1b)
unfolding opcode_of
string_opcode n op e index =
    let s = mapped_some (λ (r : OpcodeRun). record { format = r.format; index = r.index; mnemonic = slice_index_or r.mnemonics (n - r.first) [] }) (find (is_in_run n) opcode_runs) op e in
    let r = s.0 in
    let pool : r.index ≡ Some StringPool = ap (λ (o : Opcode). o.index) s.2 ∙ index in
    let in_run = found_is (is_in_run n) opcode_runs r s.1 in
    let passes : names_texts r r.index ≡ true = found_passes (is_in_run n) (λ (q : OpcodeRun). names_texts q q.index) opcode_runs r runs_name_texts s.1 in
    let both : (nat_le 0x1a r.first && nat_le (r.first + length r.mnemonics) 0x1c) ≡ true = sym (ap (names_texts r) pool) ∙ passes in
    let low = leb-true 0x1a r.first (and_first (nat_le 0x1a r.first) (nat_le (r.first + length r.mnemonics) 0x1c) both) in
    let high = leb-true (r.first + length r.mnemonics) 0x1c (and_second (nat_le 0x1a r.first) (nat_le (r.first + length r.mnemonics) 0x1c) both) in
    let from = leb-true r.first n (and_first (nat_le r.first n) (nat_lt n (r.first + length r.mnemonics)) in_run) in
    let to = ltb-true n (r.first + length r.mnemonics) (and_second (nat_le r.first n) (nat_lt n (r.first + length r.mnemonics)) in_run) in
    (omega (arith, low, from), omega (arith, high, to))

-- case split on whether a payload begins here
text_byte_by : (u : ℕ) (t : Bool) → is_payload_ident u ≡ t → (if t then None else option_and_then (λ op. op.index) (opcode_of (low_byte u))) ≡ Some StringPool → (0x1a ≤ low_byte u) × (low_byte u ≤ 0x1b)
text_byte_by u true e h = absurd cc
text_byte_by u false e h = by (opcode_of (low_byte u)) refl h
  where
    by : (o : Option Opcode) → opcode_of (low_byte u) ≡ o → option_and_then (λ op. op.index) o ≡ Some StringPool → (0x1a ≤ low_byte u) × (low_byte u ≤ 0x1b)
    by None q k = absurd cc
    by (Some op) q k = string_opcode (low_byte u) op q k

-- the opcode of an instruction that names a text by an index of 16 bits
short_string : (us : List ℕ) → index_pool us ≡ Some StringPool → is_wide_index us ≡ false → low_byte (slice_index us 0) ≡ 0x1a
short_string us pool short =
    let n = low_byte (slice_index us 0) in
    let within = text_byte_by (slice_index us 0) (is_payload_ident (slice_index us 0)) refl pool in
    elim (cases_lt n 0x1b) [
      | inl lt ↦ omega (arith, within.0, lt)
      | inr ge ↦
          let is : n ≡ 0x1b = omega (arith, ge, within.1) in
          absurd (let z : true ≡ false = sym (eq-eqb n 0x1b is) ∙ short in cc)
    ]

-- ---- pieces

module _ (D : List Definition) (fits : Fits greatest_caps D) (d : Definition) (x : MethodDef) (c : Code) (in_file : Contains D d) (declared : Contains (declared_methods d.1) x) (has : x.code ≡ Some c) (is : IsCodeItem c) where
  -- a piece's index fits its field
  index_fits : (p : Piece) → Contains c.pieces p → IndexFits (mentions D) p
  index_fits (Instruction us (Some s)) k = λ short.
      let occurs = code_occurs d.0 d.1 x c s declared has
      (Contains-append_left _ _ s (Contains-flat_map piece_symbols c.pieces (Instruction us (Some s)) s k (Contains-first s []))) in
      by s k short (mentioned D d s in_file occurs)
    where
      by : (s : Symbol) → Contains c.pieces (Instruction us (Some s)) → is_wide_index us ≡ false → IsMentioned (mentions D) s → symbol_index (mentions D) s < 2 ^ 16
      by (TextSymbol s) k short m =
          let units = flat_map units_of c.pieces in
          let w = zip_source (λ (cut : Cut) (q : Piece). DenotesPiece IsZero (cut_units units cut) q) is.cuts c.pieces (Instruction us (Some (TextSymbol s))) is.pieces.pieces k in
          let z = zeroed IsZero (cut_units units w.0) (Instruction us (Some (TextSymbol s))) w.2 in
          let byte = short_string us z.0 short in
          fits.short_strings s (record { definition = d; method = x; code = c; units = us; member = in_file; declared = declared; has_code = has; piece = k; short = byte })
      by (TypeSymbol t) k short m = omega (arith, (rank-place text_cmp text_total (mentions D).types t t (mentions-rising D).types m).0, fits.types)
      by (ProtoSymbol p) k short m = omega (arith, (rank-place proto_cmp proto_total (mentions D).protos p p (mentions-rising D).protos m).0, fits.protos)
      by (FieldSymbol f) k short m = omega (arith, (rank-place field_cmp field_total (mentions D).fields f f (mentions-rising D).fields m).0, fits.fields)
      by (MethodSymbol y) k short m = omega (arith, (rank-place method_cmp method_total (mentions D).methods y y (mentions-rising D).methods m).0, fits.methods)
  index_fits _ k = tt

  -- the indices of all pieces fit
  pub indices_fit : All (IndexFits (mentions D)) c.pieces
  indices_fit = all_from (IndexFits (mentions D)) c.pieces index_fits
