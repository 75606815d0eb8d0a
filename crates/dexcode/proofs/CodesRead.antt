-- Code items read: what is at the offset, and which condition fails.
use Rattle.dexcode.proofs.Common.{◌≡◌, ◌≢◌, ℕ, ◌+◌, ◌*◌, ◌%◌, Bool, false, List, [], length, map, get_or, Option, Some, None, refl, ap, sym, subst, ◌∙◌, inl, inr, arith, pos, All, All-nil, uint_at, ushort_at, Mentions, Cut, Piece, is_instruction_start, DebugAt, code_units, PiecesAt, RegistersAt, ItemFault, Refused, Memory, ArePools, AreRising, NumberedCode, ArePiecesAt, AreStartsAt, NumberedDebug, IsDebugAt, NumberedTry, debug_in, option_map, Debug, try_meant, TryItemsAt, TriesAt, IsTriesFault, IsCodeAt, IsCodeBeside, IsCodeFault, IsDebugOrNone, ArePartsAt, IsDebugOf, unwrap_or, Result, Ok, Err, IfOk, IfErr, sum_by-cons, Code, code_weight, debug_weight, NumberedPiece, IsDebugFault, HasCodeOf, HasPieces, HasProgramOf, HaveTriesOf, IsProgramFault, numbered_code_weight, NumberedItem, DenotesCode}
use Rattle.dexspec.specs.Code as whole
use Rattle.dexspec.proofs.wellformed.FormedRows.{length-ushorts_at}
use Rattle.dexcode.proofs.Images.{all_back_map}
use Rattle.dexcode.proofs.TryRows.{IsInRange, items_found, items_back, items_in_range}
use Rattle.dexinsn.specs.declared.shape.PiecesShape.{PiecesShape}
use Rattle.dexinsn.specs.Checking.{HasPiecesOf}
use Rattle.dexdebug.specs.Checking.{HasDebugAt}
use Rattle.dexcode.proofs.CodeSizes.{units_length}

-- ---- tries, by the number of units

module _ (starts : List Bool) (types : ℕ) (b : List ℕ) (o units count : ℕ) (units_is : units ≡ uint_at b (o + 12)) (count_is : count ≡ ushort_at b (o + 6)) (some : count ≢ 0) where
  pub even_none : units % 2 ≡ 0 → ((ts : List NumberedTry) → TryItemsAt starts types units b (o + 16 + 2 * units) count ts → ⊥) → (ts : List NumberedTry) → TriesAt starts types b o ts → ⊥
  even_none even none ts (inl h) = some (count_is ∙ h.0)
  even_none even none ts (inr (d, inl g)) =
      none ts (subst (λ (n : ℕ). TryItemsAt starts types n b (o + 16 + 2 * n) count ts) (sym units_is) (subst (λ (k : ℕ). TryItemsAt starts types (uint_at b (o + 12)) b (o + 16 + 2 * uint_at b (o + 12)) k ts) (sym count_is) g.1))
  even_none even none ts (inr (d, inr g)) = omega (arith, even, units_is, g.0)

  pub odd_none : (units % 2 ≡ 0 → ⊥) → ((ts : List NumberedTry) → TryItemsAt starts types units b (o + 16 + 2 * units + 2) count ts → ⊥) → (ts : List NumberedTry) → TriesAt starts types b o ts → ⊥
  odd_none odd none ts (inl h) = some (count_is ∙ h.0)
  odd_none odd none ts (inr (d, inl g)) = odd (ap (λ (n : ℕ). n % 2) units_is ∙ g.0)
  odd_none odd none ts (inr (d, inr g)) =
      let place : o + 18 + 2 * uint_at b (o + 12) ≡ o + 16 + 2 * units + 2 = omega (arith, units_is) in
      none ts (subst (λ (p : ℕ). TryItemsAt starts types units b p count ts) place (subst (λ (n : ℕ). TryItemsAt starts types n b (o + 18 + 2 * uint_at b (o + 12)) count ts) (sym units_is)
      (subst (λ (k : ℕ). TryItemsAt starts types (uint_at b (o + 12)) b (o + 18 + 2 * uint_at b (o + 12)) k ts) (sym count_is) g.2)))

-- ---- the whole

module _ (b : List ℕ) (off : ℕ) (m : Mentions) (pools : ArePools b m) (rising : AreRising m) (starts : List Bool) (starts_are : AreStartsAt b off starts) (cuts : List Cut) (ps : List Piece) (pieces : PiecesAt b off cuts ps) where
  abbrev us : List ℕ
  us = code_units b off

  report : (k : ℕ) → get_or starts k false ≡ is_instruction_start us cuts (pos k)
  report k = starts_are cuts ps k pieces

  units : length us ≡ uint_at b (off + 12)
  units = length-ushorts_at b (off + 16) (uint_at b (off + 12))

  pub tries_found : (ts : List NumberedTry) → TriesAt starts (length m.types) b off ts → whole.TriesAt b off cuts (map (try_meant m) ts)
  tries_found ts (inl h) = inl (h.0, ap (map (try_meant m)) h.1)
  tries_found ts (inr (d, inl g)) = inr (d, inl (g.0, items_found b m pools rising us cuts starts report (off + 16 + 2 * uint_at b (off + 12)) (ushort_at b (off + 6)) ts (subst (λ (n : ℕ). TryItemsAt starts (length m.types) n b (off + 16 + 2 * uint_at b (off + 12)) (ushort_at b (off + 6)) ts) (sym units) g.1)))
  tries_found ts (inr (d, inr g)) = inr (d, inr (g.0, g.1, items_found b m pools rising us cuts starts report (off + 18 + 2 * uint_at b (off + 12)) (ushort_at b (off + 6)) ts (subst (λ (n : ℕ). TryItemsAt starts (length m.types) n b (off + 18 + 2 * uint_at b (off + 12)) (ushort_at b (off + 6)) ts) (sym units) g.2)))

  items_range : (o count : ℕ) (ts : List NumberedTry) → TryItemsAt starts (length m.types) (uint_at b (off + 12)) b o count ts → All (IsInRange m) (map (λ t. t.handler) ts)
  items_range o count ts g =
      let h = subst (λ (n : ℕ). TryItemsAt starts (length m.types) n b o count ts) (sym units) g in
      items_in_range b m pools rising us cuts starts report (o + 8 * count) h.count_size h.handlers_size o (8 * count) h.handlers ts h.list h.items

  pub tries_range : (ts : List NumberedTry) → TriesAt starts (length m.types) b off ts → All (IsInRange m) (map (λ t. t.handler) ts)
  tries_range ts (inl h) = subst (λ vs. All (IsInRange m) (map (λ (t : NumberedTry). t.handler) vs)) (sym h.1) (All-nil (IsInRange m))
  tries_range ts (inr (d, inl g)) = items_range (off + 16 + 2 * uint_at b (off + 12)) (ushort_at b (off + 6)) ts g.1
  tries_range ts (inr (d, inr g)) = items_range (off + 18 + 2 * uint_at b (off + 12)) (ushort_at b (off + 6)) ts g.2

  pub tries_back : (xs : List whole.Try) → whole.TriesAt b off cuts xs → (ts : List NumberedTry) × TriesAt starts (length m.types) b off ts
  tries_back xs (inl h) = ([], inl (h.0, refl))
  tries_back xs (inr (d, inl g)) =
      let ts = items_back b m pools rising us cuts starts report (off + 16 + 2 * uint_at b (off + 12)) (ushort_at b (off + 6)) xs g.1 in
      (ts.0, inr (d, inl (g.0, subst (λ (n : ℕ). TryItemsAt starts (length m.types) n b (off + 16 + 2 * uint_at b (off + 12)) (ushort_at b (off + 6)) ts.0) units ts.1)))
  tries_back xs (inr (d, inr g)) =
      let ts = items_back b m pools rising us cuts starts report (off + 18 + 2 * uint_at b (off + 12)) (ushort_at b (off + 6)) xs g.2 in
      (ts.0, inr (d, inr (g.0, g.1, subst (λ (n : ℕ). TryItemsAt starts (length m.types) n b (off + 18 + 2 * uint_at b (off + 12)) (ushort_at b (off + 6)) ts.0) units ts.1)))

pub no_debug : (b : List ℕ) (off : ℕ) (m : Mentions) → uint_at b (off + 8) ≡ 0 → IsDebugOf b off m None
no_debug b off m zero = record { known = tt; at = inl (zero, refl) }

pub some_debug : (b : List ℕ) (off debug_off : ℕ) (m : Mentions) (d : NumberedDebug) → debug_off ≡ uint_at b (off + 8) → (debug_off ≡ 0 → ⊥) → IsDebugAt b debug_off m d → IsDebugOf b off m (Some d)
some_debug b off debug_off m d is some h = record {
  known = h.encodes.known;
  at = inr ((λ e. some (is ∙ e)), subst (λ (x : Debug). DebugAt b (uint_at b (off + 8)) x) (sym h.encodes.means) (subst (λ (o : ℕ). DebugAt b o h.program) is h.at));
}

pub pieces_there : {b : List ℕ} {off : ℕ} {m : Mentions} {ps : List NumberedPiece} → ArePiecesAt b off m ps → HasPieces b off
pieces_there pieces = record { cuts = pieces.cuts; pieces = pieces.symbolic; at = pieces.at }

pub code_found : (b : List ℕ) (off : ℕ) (m : Mentions) → ArePools b m → AreRising m → (starts : List Bool) → AreStartsAt b off starts → (body : NumberedCode) → RegistersAt b off body.registers body.ins body.outs → ArePiecesAt b off m body.pieces
    → (ts : List NumberedTry) → TriesAt starts (length m.types) b off ts → (d : Option NumberedDebug) → IsDebugOf b off m d → IsCodeAt b off m (record { body = body; tries = ts; debug = d })
code_found b off m pools rising starts starts_are body registers pieces ts tries d debug = record {
  symbolic = record { registers = body.registers; ins = body.ins; outs = body.outs; pieces = pieces.symbolic; tries = map (try_meant m) ts; debug = option_map (debug_in m) d };
  at = record {
    registers = registers;
    cuts = pieces.cuts;
    pieces = pieces.at;
    tries = tries_found b off m pools rising starts starts_are pieces.cuts pieces.symbolic pieces.at ts tries;
    debug = debug.at;
  };
  encodes = record {
    known = record {
      pieces_known = pieces.are_encoded.known;
      tries_known = all_back_map (IsInRange m) (λ (t : NumberedTry). t.handler) ts (tries_range b off m pools rising starts starts_are pieces.cuts pieces.symbolic pieces.at ts tries);
      debug_known = debug.known;
    };
    means = λ i. record { registers = body.registers; ins = body.ins; outs = body.outs; pieces = pieces.are_encoded.mean i; tries = map (try_meant m) ts; debug = option_map (debug_in m) d };
  };
}

-- parts with a debug program of the code_item are its code
module _ {b : List ℕ} {off : ℕ} {m : Mentions} {parts : NumberedCode × Option (List NumberedTry)} (are : ArePartsAt b off m parts) {tries : List NumberedTry} (tries_are : tries ≡ unwrap_or parts.1 []) where
  pub completed : {d : Option NumberedDebug} → IsDebugOf b off m d → IsCodeAt b off m (record { body = parts.0; tries = tries; debug = d })
  completed {d} debug = subst (λ ts. IsCodeAt b off m (record { body = parts.0; tries = ts; debug = d })) (sym tries_are) (are.completed d debug)

  -- and without one they are its code but for that
  pub code_beside : {d : Option NumberedDebug} {debug_off : ℕ} → debug_off ≡ uint_at b (off + 8) → IsCodeBeside b off m (record { body = parts.0; tries = tries; debug = d }) debug_off
  code_beside {debug_off = debug_off} is = record { debug_off_is = is; pieces = are.pieces; completed = λ d at. completed (debug_beside d at) }
    where
      debug_beside : (d : Option NumberedDebug) → IsDebugOrNone b debug_off m d → IsDebugOf b off m d
      debug_beside None zero = no_debug b off m (sym is ∙ zero)
      debug_beside (Some d) at = some_debug b off debug_off m d is at.0 at.1

pub tries_fault : (b : List ℕ) (off : ℕ) (m : Mentions) → ArePools b m → AreRising m → (starts : List Bool) → AreStartsAt b off starts → (body : NumberedCode) → ArePiecesAt b off m body.pieces
    → (fault : ItemFault) → IsTriesFault ((ts : List NumberedTry) → TriesAt starts (length m.types) b off ts → ⊥) fault → IsCodeFault b off fault
tries_fault b off m pools rising starts starts_are body pieces (Refused number) h =
    inr (inl (
      h.0,
      pieces_there pieces,
      λ cuts ps tries at there. let back = tries_back b off m pools rising starts starts_are cuts ps at tries there in h.1 back.0 back.1,
    ))
tries_fault b off m pools rising starts starts_are body pieces Memory h = tt

-- ---- Code items checked: what is at the offset and what it weighs, and which condition fails

-- a numbered code item weighs as much as the code that it denotes
abbrev pub WeightLaw : Type 0
WeightLaw = (m : Mentions) (c : NumberedItem) (x : Code) → AreRising m → DenotesCode m c x → numbered_code_weight c ≡ code_weight x

-- the code_item at an offset weighs what its parts weigh
pub code_weighed : WeightLaw → (b : List ℕ) (off : ℕ) (m : Mentions) → ArePools b m → AreRising m → (starts : List Bool) → AreStartsAt b off starts → (s : PiecesShape) → HasPiecesOf b off m s
    → (tries program : ℕ) → HaveTriesOf starts (length m.types) b off tries → HasProgramOf b off program → HasCodeOf b off (24 + 2 * s.units + tries + program)
code_weighed law b off m pools rising starts starts_are s pieces tries program ts d =
    let item : NumberedItem = record { body = record { registers = s.registers; ins = s.ins; outs = s.outs; pieces = pieces.pieces }; tries = ts.tries; debug = None } in
    let unindexed : Code = record { registers = s.registers; ins = s.ins; outs = s.outs; pieces = pieces.at.symbolic; tries = map (try_meant m) ts.tries; debug = None } in
    let tries = tries_range b off m pools rising starts starts_are pieces.at.cuts pieces.at.symbolic pieces.at.at ts.tries ts.at in
    let encodes : DenotesCode m item unindexed = record {
      known = record { pieces_known = pieces.at.are_encoded.known; tries_known = all_back_map (IsInRange m) (λ (t : NumberedTry). t.handler) ts.tries tries; debug_known = tt };
      means = λ i. record { registers = s.registers; ins = s.ins; outs = s.outs; pieces = pieces.at.are_encoded.mean i; tries = map (try_meant m) ts.tries; debug = None };
    } in
    record {
      code = record { registers = s.registers; ins = s.ins; outs = s.outs; pieces = pieces.at.symbolic; tries = map (try_meant m) ts.tries; debug = d.program };
      at = record {
        registers = pieces.registers;
        cuts = pieces.at.cuts;
        pieces = pieces.at.at;
        tries = tries_found b off m pools rising starts starts_are pieces.at.cuts pieces.at.symbolic pieces.at.at ts.tries ts.at;
        debug = d.at;
      };
      weighs = omega (arith, law m item unindexed rising encodes, units_length pieces.pieces, pieces.units, ts.weighs, d.weighs);
    }

-- where there are pieces and no debug program, there is no code
pub program_fault : {b : List ℕ} {off : ℕ} → HasPieces b off → (fault : ItemFault) → IsProgramFault b off fault → IsCodeFault b off fault
program_fault pieces (Refused number) h = inr (inr (h.0, pieces, h.1, h.2))
program_fault pieces Memory h = tt

-- the debug program at the offset is that of the code_item
pub program_found : (b : List ℕ) (off debug_off weight : ℕ) → debug_off ≡ uint_at b (off + 8) → (debug_off ≡ 0 → ⊥) → HasDebugAt b debug_off weight → HasProgramOf b off weight
program_found b off debug_off weight is some h = record {
  program = Some h.program;
  at = inr ((λ e. some (is ∙ e)), subst (λ (o : ℕ). DebugAt b o h.program) is h.at);
  weighs = omega (arith, sum_by-cons debug_weight h.program [], h.weighs);
  light = h.light;
}

-- if there is none at the offset, the code_item has none
pub no_program : (b : List ℕ) (off debug_off : ℕ) → debug_off ≡ uint_at b (off + 8) → (debug_off ≡ 0 → ⊥) → (fault : ItemFault) → IsDebugFault b debug_off fault → IsProgramFault b off fault
no_program b off debug_off is some (Refused number) h = (h.0, (λ e. some (is ∙ e)), λ d at. h.1 d (subst (λ (o : ℕ). DebugAt b o d) (sym is) at))
no_program b off debug_off is some Memory h = tt

-- the same of what a check returns
pub if_program_found : (b : List ℕ) (off debug_off : ℕ) → debug_off ≡ uint_at b (off + 8) → (debug_off ≡ 0 → ⊥) → (r : Result ℕ ItemFault) → IfOk r (HasDebugAt b debug_off) → IfOk r (HasProgramOf b off)
if_program_found b off debug_off is some (Ok weight) h = program_found b off debug_off weight is some h
if_program_found b off debug_off is some (Err fault) h = tt

pub if_no_program : (b : List ℕ) (off debug_off : ℕ) → debug_off ≡ uint_at b (off + 8) → (debug_off ≡ 0 → ⊥) → (r : Result ℕ ItemFault) → IfErr r (IsDebugFault b debug_off) → IfErr r (IsProgramFault b off)
if_no_program b off debug_off is some (Ok weight) h = tt
if_no_program b off debug_off is some (Err fault) h = no_program b off debug_off is some fault h

-- ---- numbers by offsets
