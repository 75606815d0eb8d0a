-- Pieces with their indices are code: cut in the same way, with the same targets, and encoding the pieces.
use Rattle.dexspec.proofs.Common.{◌≡◌, ℕ, ◌-◌, ◌/◌, ◌%◌, ◌<◌, ◌≤◌, ◌^◌, Bool, true, false, List, [], ◌∷◌, length, take, drop, slice_index, Option, Some, None, refl, sym, ap, ◌∙◌, subst, arith, inl, inr, length-take, length-drop, if◌then◌else◌, ◌==◌, ℤ, nat_le, slice_set, slice_index_or, IsTrue, option_and_then, Contains, AllZip, flat_map, list_all, find, length-set, eqb-true, leb-true, get_or-set_same, get_or-set_other, get_or-take, All-contains, All-set, Mentions}
use Rattle.dexspec.specs.{AreUnits, Pool, pool_of, Format, F31c, Opcode, OpcodeRun, opcode_runs, opcode_of, units_in, is_in_run, SymbolRow, Cut, piece_size, is_payload_ident, is_instruction_start, has_right_targets, IsCode, Piece, Instruction, Payload, units_of, DenotesPiece, index_pool, index_in, is_wide_index, with_index, two_units, low_byte, cut_units, piece_symbols, symbol_index, piece_units}
use Rattle.dexspec.specs.internal.IndexPlaces.{IndexFits}
use Rattle.dexspec.proofs.lists.Members.{Contains-flat_map, Contains-flat_map_source}
use Rattle.dexspec.proofs.wellformed.FormedRows.{all_from}
use Rattle.dexspec.proofs.wellformed.ShortStrings.{first_kept}
use Rattle.dexspec.proofs.wellformed.Blanked.{IsZero, pool_at, Blank, zeroed, if_true, if_false, piece_is, piece_bounds}
use Rattle.dexspec.proofs.wellformed.BlankedCode.{pieces_denoted, pieces_denoted_back, kept_piece, found_passes, mapped_some, instruction_same, right_same, rewritten}
use Rattle.dexspec.proofs.written.NumbersWritten.{AreInRows, first_in_row}

-- ---- an index that is set

-- units with an index, wide or not
abbrev put : List ℕ → Bool → ℕ → List ℕ
put w t i = if t then slice_set (slice_set w 1 (i % 65536)) 2 (i / 65536) else slice_set w 1 i

-- the number of units is unchanged
length_put : (w : List ℕ) (t : Bool) (i : ℕ) → length (put w t i) ≡ length w
length_put w true i = length-set (slice_set w 1 (i % 65536)) 2 (i / 65536) ∙ length-set w 1 (i % 65536)
length_put w false i = length-set w 1 i

-- the first of them is kept
first_put : (w : List ℕ) (t : Bool) (i : ℕ) → slice_index (put w t i) 0 ≡ slice_index w 0
first_put w true i = get_or-set_other (slice_set w 1 (i % 65536)) 2 0 (i / 65536) 0 (omega arith) ∙ get_or-set_other w 1 0 (i % 65536) 0 (omega arith)
first_put w false i = get_or-set_other w 1 0 i 0 (omega arith)

-- the index is read back, if it fits
read_put : (w : List ℕ) (t : Bool) (i : ℕ) → 2 ≤ length w → (t ≡ true → 3 ≤ length w) → (if t then two_units (put w t i) 1 else slice_index (put w t i) 1) ≡ i
read_put w true i two three =
    let x = slice_set w 1 (i % 65536) in
    let low : slice_index (slice_set x 2 (i / 65536)) 1 ≡ i % 65536 = get_or-set_other x 2 1 (i / 65536) 0 (omega arith) ∙ get_or-set_same w 1 (i % 65536) 0 (omega (arith, two)) in
    let high : slice_index (slice_set x 2 (i / 65536)) 2 ≡ i / 65536 = get_or-set_same x 2 (i / 65536) 0 (omega (arith, three refl, length-set w 1 (i % 65536))) in
    omega (arith, low, high)
read_put w false i two three = get_or-set_same w 1 i 0 (omega (arith, two))

-- setting it to zero gives the units from before
zero_put : (w : List ℕ) (t : Bool) (i : ℕ) → put (put w t i) t 0 ≡ put w t 0
zero_put [] true i = refl
zero_put (a ∷ []) true i = refl
zero_put (a ∷ c ∷ []) true i = refl
zero_put (a ∷ c ∷ d ∷ w) true i = refl
zero_put [] false i = refl
zero_put (a ∷ []) false i = refl
zero_put (a ∷ c ∷ w) false i = refl

-- a part of a number of 32 bits is a unit
units_put : (w : List ℕ) (t : Bool) (i : ℕ) → AreUnits w → i < 2 ^ 32 → (t ≡ false → i < 65536) → AreUnits (put w t i)
units_put w true i are wide short = All-set (λ (u : ℕ). u < 65536) (slice_set w 1 (i % 65536)) 2 (i / 65536) (omega (arith, wide)) (All-set (λ (u : ℕ). u < 65536) w 1 (i % 65536) (omega arith) are)
units_put w false i are wide short = All-set (λ (u : ℕ). u < 65536) w 1 i (short refl) are

-- ---- room for an index

-- an instruction with an index has two units
abbrev has_room : Format → Option Pool → Bool
has_room f None = true
has_room f (Some p) = nat_le 2 (units_in f)

-- this holds in the whole table
runs_have_room : list_all (λ (r : OpcodeRun). has_room r.format r.index) opcode_runs ≡ true
unfolding opcode_runs
runs_have_room = refl

-- this holds for each opcode
opcode_has_room : (n : ℕ) (op : Opcode) → opcode_of n ≡ Some op → has_room op.format op.index ≡ true
unfolding opcode_of
opcode_has_room n op e =
    let s = mapped_some (λ (r : OpcodeRun). record { format = r.format; index = r.index; mnemonic = slice_index_or r.mnemonics (n - r.first) [] }) (find (is_in_run n) opcode_runs) op e in
    subst (λ (o : Opcode). has_room o.format o.index ≡ true) s.2 (found_passes (is_in_run n) (λ (r : OpcodeRun). has_room r.format r.index) opcode_runs s.0 runs_have_room s.1)

-- the format of const-string/jumbo
jumbo_format : (op : Opcode) → opcode_of 0x1b ≡ Some op → op.format ≡ F31c
unfolding opcode_of opcode_runs
jumbo_format op e = cc

-- an index fits its piece
record HasRoom (n : ℕ) (w : List ℕ) : Type 0 where
  two : 2 ≤ n
  three : is_wide_index w ≡ true → 3 ≤ n

room_by : (f : Format) (i : Option Pool) (p : Pool) → i ≡ Some p → has_room f i ≡ true → 2 ≤ units_in f
room_by f None p e h = absurd cc
room_by f (Some q) p e h = leb-true 2 (units_in f) h

index_room : (at n : ℕ) (us : List ℕ) (p : Pool) → piece_size at us ≡ Some n → index_pool us ≡ Some p → HasRoom n us
index_room at n us p h e = elim (piece_is at us n h) [
  | inl q ↦ absurd (let z : None ≡ Some p = sym (if_true (is_payload_ident (slice_index us 0)) None (option_and_then (λ op. op.index) (opcode_of (low_byte (slice_index us 0)))) q.ident) ∙ e in cc)
  | inr q ↦
      let op = q.op in
      let index : op.index ≡ Some p =
      sym (if_false (is_payload_ident (slice_index us 0)) None (option_and_then (λ (o : Opcode). o.index) (opcode_of (low_byte (slice_index us 0)))) q.ident ∙ ap (option_and_then (λ (o : Opcode). o.index)) q.is) ∙ e in
      let room = room_by op.format op.index p index (opcode_has_room (low_byte (slice_index us 0)) op q.is) in
      record {
        two = omega (arith, room, q.units);
        three = λ wide.
            let byte : low_byte (slice_index us 0) ≡ 0x1b = eqb-true (low_byte (slice_index us 0)) 0x1b wide in
            let format = jumbo_format op (sym (ap opcode_of byte) ∙ q.is) in
            let units : units_in op.format ≡ 3 = ap units_in format in
            omega (arith, units, q.units);
      }
]

-- ---- one piece

module _ (b : List ℕ) (m : Mentions) where
  -- a piece with its index, related to the units without it
  fill : (w : List ℕ) (p : Piece) → DenotesPiece IsZero w p → Blank w (piece_units m p)
  fill w (Instruction xs None) h = record { size = ap length h.2; first = ap (λ (ys : List ℕ). slice_index ys 0) h.2; same = λ _. h.2 }
  fill w (Instruction xs (Some s)) h =
      let i = symbol_index m s in record {
        size = length_put xs (is_wide_index xs) i ∙ ap length h.2 ∙ length_put w (is_wide_index w) 0;
        first = first_put xs (is_wide_index xs) i ∙ ap (λ (ys : List ℕ). slice_index ys 0) h.2 ∙ first_kept w (is_wide_index w);
        same = λ e. absurd (let z : None ≡ Some (pool_of s) = sym e ∙ h.0 in cc);
      }
  fill w (Payload xs) h = record { size = ap length h.1; first = ap (λ (ys : List ℕ). slice_index ys 0) h.1; same = λ _. h.1 }

  -- it encodes the piece
  named : (at n : ℕ) (us : List ℕ) (p : Piece) → n ≤ length us → 0 < n → piece_size at us ≡ Some n → DenotesPiece IsZero (take n us) p → AreInRows b m (piece_symbols p) → IndexFits m p → DenotesPiece (SymbolRow b) (piece_units m p) p
  named at n us (Instruction xs None) le some size h are fits = zeroed IsZero (take n us) (Instruction xs None) h
  named at n us (Instruction xs (Some s)) le some size h are fits =
      let w = take n us in
      let i = symbol_index m s in
      let t = is_wide_index xs in
      let z = zeroed IsZero w (Instruction xs (Some s)) h in
      let row = first_in_row b m s [] are in
      let first : slice_index xs 0 ≡ slice_index us 0 = ap (λ (ys : List ℕ). slice_index ys 0) h.2 ∙ first_kept w (is_wide_index w) ∙ get_or-take n us 0 0 some in
      let room = index_room at n us (pool_of s) size (sym (ap pool_at first) ∙ z.0) in
      let wide : is_wide_index xs ≡ is_wide_index us = ap (λ (u : ℕ). low_byte u == 0x1b) first in
      let len : length xs ≡ n = omega (arith, ap length h.2, length_put w (is_wide_index w) 0, length-take n us, le) in
      let kept : slice_index (put xs t i) 0 ≡ slice_index xs 0 = first_put xs t i in
      let still : is_wide_index (put xs t i) ≡ t = ap (λ (u : ℕ). low_byte u == 0x1b) kept in
      let index : index_in (put xs t i) ≡ i =
      ap (λ (v : Bool). if v then two_units (put xs t i) 1 else slice_index (put xs t i) 1) still ∙ read_put xs t i (omega (arith, room.two, len)) (λ e. omega (arith, room.three (sym wide ∙ e), len)) in
      let back : xs ≡ with_index 0 (put xs t i) = z.2 ∙ sym (ap (λ (v : Bool). put (put xs t i) v 0) still ∙ zero_put xs t i) in
      (ap pool_at kept ∙ z.0, subst (λ (k : ℕ). SymbolRow b k s) (sym index) row.0, back)
  named at n us (Payload xs) le some size h are fits = zeroed IsZero (take n us) (Payload xs) h

-- ---- the whole

-- code with its indices
pub record FilledCode (b : List ℕ) (us vs : List ℕ) (cs : List Cut) (ps : List Piece) : Type 0 where
  pub size : length vs ≡ length us
  pub code : IsCode vs cs
  pub pieces : AllZip (λ c p. DenotesPiece (SymbolRow b) (cut_units vs c) p) cs ps
  pub starts : (z : ℤ) → is_instruction_start vs cs z ≡ is_instruction_start us cs z
  pub within : (c : Cut) → Contains cs c → c.unit < length vs

-- code with its indices is code
pub filled_code : (b : List ℕ) (m : Mentions) (cs : List Cut) (ps : List Piece) → IsCode (flat_map units_of ps) cs → AllZip (λ c p. DenotesPiece IsZero (cut_units (flat_map units_of ps) c) p) cs ps → AreInRows b m (flat_map piece_symbols ps)
    → ((p : Piece) → Contains ps p → IndexFits m p) → FilledCode b (flat_map units_of ps) (flat_map (piece_units m) ps) cs ps
filled_code b m cs ps code pieces are fits =
    let us = flat_map units_of ps in
    let vs = flat_map (piece_units m) ps in
    let f =
    rewritten IsZero (SymbolRow b) (λ p. AreInRows b m (piece_symbols p) × IndexFits m p) (piece_units m) (fill b m) (λ at n us p le some size h g. named b m at n us p le some size h g.0 g.1) 0 us cs ps code.cut
    (pieces_denoted IsZero us 0 us cs ps refl code.cut pieces) (λ p k. (λ s l. are s (Contains-flat_map piece_symbols ps p s k l), fits p k)) in
    let keeps = λ (c : Cut) (k : Contains cs c). kept_piece us vs c (f.kept c k) in
    record {
      size = f.size;
      code = record {
        some = omega (arith, f.size, code.some);
        cut = f.cut;
        targets = all_from (λ (c : Cut). IsTrue (has_right_targets vs cs c)) cs (λ c k. right_same us vs cs keeps c k (All-contains (λ (d : Cut). IsTrue (has_right_targets us cs d)) cs c code.targets k));
      };
      pieces = pieces_denoted_back (SymbolRow b) vs 0 vs cs ps refl f.cut f.encodes;
      starts = instruction_same us vs cs keeps;
      within = λ c k. let bounds = piece_bounds c.unit c.units (drop c.unit us) (keeps c k).piece in omega (arith, bounds.0, bounds.1, length-drop c.unit us, f.size);
    }

-- units with their indices are units
pub filled_units : (b : List ℕ) (m : Mentions) (ps : List Piece) → AreUnits (flat_map units_of ps) → AreInRows b m (flat_map piece_symbols ps) → ((p : Piece) → Contains ps p → IndexFits m p) → AreUnits (flat_map (piece_units m) ps)
filled_units b m ps are rows fits =
    all_from (λ (u : ℕ). u < 65536) (flat_map (piece_units m) ps) (λ u k.
    let w = Contains-flat_map_source (piece_units m) ps u k in
    let own : AreUnits (units_of w.0) = all_from (λ (v : ℕ). v < 65536) (units_of w.0) (λ v l. All-contains (λ (x : ℕ). x < 65536) (flat_map units_of ps) v are (Contains-flat_map units_of ps w.0 v w.1 l)) in
    All-contains (λ (v : ℕ). v < 65536) (piece_units m w.0) u (one w.0 own (λ s l. rows s (Contains-flat_map piece_symbols ps w.0 s w.1 l)) (fits w.0 w.1)) w.2)
  where
    one : (p : Piece) → AreUnits (units_of p) → AreInRows b m (piece_symbols p) → IndexFits m p → AreUnits (piece_units m p)
    one (Instruction xs (Some s)) units rows fits = let row = first_in_row b m s [] rows in units_put xs (is_wide_index xs) (symbol_index m s) units (omega (arith, row.1)) fits
    one _ units rows fits = units
