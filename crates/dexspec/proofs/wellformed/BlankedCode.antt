-- Pieces without their indices are code again: cut in the same way, with the same targets.
use Rattle.dexspec.proofs.Common.{◌≡◌, ℕ, zero, suc, ◌+◌, ◌-◌, ◌*◌, ◌<◌, ◌≤◌, Bool, true, false, ◌&&◌, ◌||◌, not, cond, List, [], ◌∷◌, ◌++◌, length, take, drop, get_or, slice_index, nat_abs, slice_index_or, Option, Some, None, refl, sym, ap, ◌∙◌, subst, arith, inl, inr, length-take, length-drop, length-append, take_at, drop_at, if◌then◌else◌, ◌==◌, ℤ, pos, ◌+ℤ◌, option_and_then, option_map, Contains, AllZip, flat_map, list_any, list_all, find, int_eq, signed_Decides, eqb-true, get_or-take, get_or-drop, drop-drop, IsTrue, All-contains}
use Rattle.dexspec.specs.{signed_in, Pool, Symbol, Format, F10t, F20t, F21t, F22t, F30t, F31t, Opcode, OpcodeRun, opcode_runs, opcode_of, units_in, is_in_run, Cut, AreCut, piece_size, packed_switch_ident, sparse_switch_ident, array_data_ident, is_payload_ident, payload_ident, payload_targets, ints_in, branch_offset, is_right_target, all_of_option, is_instruction_start, is_payload_start, has_right_targets, IsCode, Piece, units_of, DenotesPiece, low_byte, high_byte, cut_units}
use Rattle.dexspec.proofs.lists.Members.{and_first, and_second, and_both, Contains-nil, Contains-first, Contains-later, Contains-cons_cases, list_any-source, list_all-member, list_all-from_members}
use Rattle.dexspec.proofs.wellformed.FormedRows.{all_from}
use Rattle.dexspec.proofs.wellformed.Blanked.{IsZero, pool_at, blank, zeroed, if_true, if_false, piece_is, Kept, ints_same, units_by, piece_same, piece_bounds, Blank}
use Rattle.std.proofs.lemmas.Bool.{or_left, or_right}

-- ---- pieces in sequence

-- the units encode the pieces in sequence
abbrev pub AreDenoted : (ℕ → Symbol → Type 0) → List ℕ → List Cut → List Piece → Type 0
AreDenoted N us [] [] = Unit {0}
AreDenoted N us [] (p ∷ ps) = ⊥
AreDenoted N us (c ∷ cs) [] = ⊥
AreDenoted N us (c ∷ cs) (p ∷ ps) = DenotesPiece N (take c.units us) p × AreDenoted N (drop c.units us) cs ps

-- from the whole to the rest
pub pieces_denoted : (N : ℕ → Symbol → Type 0) (all : List ℕ) (at : ℕ) (us : List ℕ) (cs : List Cut) (ps : List Piece) → drop at all ≡ us → AreCut at us cs [] → AllZip (λ c p. DenotesPiece N (cut_units all c) p) cs ps → AreDenoted N us cs ps
pieces_denoted N all at us [] [] e h g = tt
pieces_denoted N all at us (c ∷ cs) (p ∷ ps) e h g = (
  subst (λ (ys : List ℕ). DenotesPiece N (take c.units ys) p) (ap (λ (k : ℕ). drop k all) h.0 ∙ e) g.0,
  pieces_denoted N all (at + c.units) (drop c.units us) cs ps (sym (drop-drop c.units at all) ∙ ap (drop c.units) e) h.2 g.1,
)
pieces_denoted _ all at us _ _ e h g = absurd g

-- from the rest to the whole
pub pieces_denoted_back : (N : ℕ → Symbol → Type 0) (all : List ℕ) (at : ℕ) (us : List ℕ) (cs : List Cut) (ps : List Piece) → drop at all ≡ us → AreCut at us cs [] → AreDenoted N us cs ps → AllZip (λ c p. DenotesPiece N (cut_units all c) p) cs ps
pieces_denoted_back N all at us [] [] e h g = tt
pieces_denoted_back N all at us (c ∷ cs) (p ∷ ps) e h g = (
  subst (λ (ys : List ℕ). DenotesPiece N (take c.units ys) p) (sym (ap (λ (k : ℕ). drop k all) h.0 ∙ e)) g.0,
  pieces_denoted_back N all (at + c.units) (drop c.units us) cs ps (sym (drop-drop c.units at all) ∙ ap (drop c.units) e) h.2 g.1,
)
pieces_denoted_back _ all at us _ _ e h g = absurd g

-- an element of the first part
pub append_left : (xs ys : List ℕ) (i d : ℕ) → i < length xs → get_or (xs ++ ys) i d ≡ get_or xs i d
append_left [] ys i d lt = absurd (omega arith)
append_left (x ∷ xs) ys zero d lt = refl
append_left (x ∷ xs) ys (suc i) d lt = append_left xs ys i d (omega arith)

-- the piece is kept, if these are the units from `at` on
pub record KeptCut (at : ℕ) (us vs : List ℕ) (c : Cut) : Type 0 where
  pub place : at ≤ c.unit
  pub kept : Kept (drop (c.unit - at) us) (drop (c.unit - at) vs) c.units
  pub piece : piece_size c.unit (drop (c.unit - at) us) ≡ Some c.units

-- the units after a change of indices
pub record Rewritten (N : ℕ → Symbol → Type 0) (at : ℕ) (us vs : List ℕ) (cs : List Cut) (ps : List Piece) : Type 0 where
  pub size : length vs ≡ length us
  pub cut : AreCut at vs cs []
  pub encodes : AreDenoted N vs cs ps
  pub kept : (c : Cut) → Contains cs c → KeptCut at us vs c

-- one piece is kept
kept_first : (x us rest : List ℕ) (n : ℕ) → n ≤ length us → 0 < n → Blank (take n us) x → Kept us (x ++ rest) n
kept_first x us rest n le some b =
    let size : length x ≡ n = omega (arith, b.size, length-take n us, le) in
    let front : slice_index (take n us) 0 ≡ slice_index us 0 = get_or-take n us 0 0 some in
    record {
      first = append_left x rest 0 0 (omega (arith, size, some)) ∙ b.first ∙ front;
      same = λ none j lt.
          let whole = b.same (ap pool_at front ∙ none) in
          append_left x rest j 0 (omega (arith, size, lt)) ∙ ap (λ (ys : List ℕ). slice_index ys j) whole ∙ get_or-take n us j 0 lt;
    }

-- pieces whose indices change are cut as they were
module _ (N M : ℕ → Symbol → Type 0) (Fits : Piece → Type 0) (f : Piece → List ℕ) (change : (w : List ℕ) (p : Piece) → DenotesPiece N w p → Blank w (f p)) (
    encode : (at n : ℕ) (us : List ℕ) (p : Piece) → n ≤ length us → 0 < n → piece_size at us ≡ Some n → DenotesPiece N (take n us) p → Fits p → DenotesPiece M (f p) p
    ) where
  pub rewritten : (at : ℕ) (us : List ℕ) (cs : List Cut) (ps : List Piece) → AreCut at us cs [] → AreDenoted N us cs ps → ((p : Piece) → Contains ps p → Fits p) → Rewritten M at us (flat_map f ps) cs ps
  rewritten at us [] [] h g fits = record { size = ap length (sym h); cut = refl; encodes = tt; kept = λ c m. absurd (Contains-nil c m) }
  rewritten at us [] (p ∷ ps) h g fits = absurd g
  rewritten at us (c ∷ cs) [] h g fits = absurd g
  rewritten at us (c ∷ cs) (p ∷ ps) h g fits =
      let r = rewritten (at + c.units) (drop c.units us) cs ps h.2 g.1 (λ q k. fits q (Contains-later p q ps k)) in
      let x = f p in
      let others = flat_map f ps in
      let vs = x ++ others in
      let bounds = piece_bounds at c.units us h.1 in
      let b = change (take c.units us) p g.0 in
      let len : length x ≡ c.units = omega (arith, b.size, length-take c.units us, bounds.1) in
      let size : length vs ≡ length us = omega (arith, length-append x others, len, r.size, length-drop c.units us, bounds.1) in
      let kept = kept_first x us others c.units bounds.1 bounds.0 b in
      let piece = piece_same at c.units us vs size kept h.1 in
      let taken : take c.units vs ≡ x = ap (λ (k : ℕ). take k vs) (sym len) ∙ take_at x others (length x) refl in
      let dropped : drop c.units vs ≡ others = ap (λ (k : ℕ). drop k vs) (sym len) ∙ drop_at x others (length x) refl in
      let encodes = encode at c.units us p bounds.1 bounds.0 h.1 g.0 (fits p (Contains-first p ps)) in
      let here : KeptCut at us vs c =
      let none : 0 ≡ c.unit - at = omega (arith, h.0) in
      record {
        place = omega (arith, h.0);
        kept = subst (λ (k : ℕ). Kept (drop k us) (drop k vs) c.units) none kept;
        piece = subst (λ (k : ℕ). piece_size c.unit (drop k us) ≡ Some c.units) none (subst (λ (k : ℕ). piece_size k us ≡ Some c.units) (sym h.0) h.1);
      } in
      record {
        size = size;
        cut = (h.0, piece, subst (λ (ys : List ℕ). AreCut (at + c.units) ys cs []) (sym dropped) r.cut);
        encodes = (subst (λ (ys : List ℕ). DenotesPiece M ys p) (sym taken) encodes, subst (λ (ys : List ℕ). AreDenoted M ys cs ps) (sym dropped) r.encodes);
        kept = λ d m. elim (Contains-cons_cases c d cs m) [
          | inl e ↦ subst (KeptCut at us vs) e here
          | inr l ↦
              let k = r.kept d l in
              let back = d.unit - (at + c.units) in
              let far : c.units + back ≡ d.unit - at = omega (arith, k.place) in
              let in_us : drop back (drop c.units us) ≡ drop (d.unit - at) us = drop-drop back c.units us ∙ ap (λ (n : ℕ). drop n us) far in
              let in_vs : drop back others ≡ drop (d.unit - at) vs = ap (drop back) (sym dropped) ∙ drop-drop back c.units vs ∙ ap (λ (n : ℕ). drop n vs) far in
              record {
                place = omega (arith, k.place);
                kept = subst (λ (ys : List ℕ). Kept ys (drop (d.unit - at) vs) d.units) in_us (subst (λ (ys : List ℕ). Kept (drop back (drop c.units us)) ys d.units) in_vs k.kept);
                piece = subst (λ (ys : List ℕ). piece_size d.unit ys ≡ Some d.units) in_us k.piece;
              }
        ];
      }

-- ---- the table of opcodes

-- an instruction that branches by more than its first unit has no index
abbrev goes_alone : Format → Option Pool → Bool
goes_alone F20t (Some p) = false
goes_alone F21t (Some p) = false
goes_alone F22t (Some p) = false
goes_alone F30t (Some p) = false
goes_alone F31t (Some p) = false
goes_alone f i = true

-- this holds in the whole table
runs_go_alone : list_all (λ (r : OpcodeRun). goes_alone r.format r.index) opcode_runs ≡ true
unfolding opcode_runs
runs_go_alone = refl

-- case split on whether the first is found
found_by : {X : Type 0} (p q : X → Bool) (x y : X) (ys : List X) (t : Bool) → (q y && list_all q ys) ≡ true → cond t (Some y) (find p ys) ≡ Some x → (list_all q ys ≡ true → find p ys ≡ Some x → q x ≡ true) → q x ≡ true
found_by p q x y ys true all e again = let same : y ≡ x = cc in ap q (sym same) ∙ and_first (q y) (list_all q ys) all
found_by p q x y ys false all e again = again (and_second (q y) (list_all q ys) all) e

-- an element that is found has each property of all
pub found_passes : {X : Type 0} (p q : X → Bool) (xs : List X) (x : X) → list_all q xs ≡ true → find p xs ≡ Some x → q x ≡ true
found_passes p q [] x all e = absurd cc
found_passes p q (y ∷ ys) x all e = found_by p q x y ys (p y) all e (found_passes p q ys x)

-- the value of a mapped option
pub mapped_some : {X Y : Type 0} (f : X → Y) (o : Option X) (y : Y) → option_map f o ≡ Some y → (x : X) × (o ≡ Some x) × (f x ≡ y)
mapped_some f None y e = absurd cc
mapped_some f (Some x) y e = (x, refl, cc)

-- this holds for each opcode
opcode_goes_alone : (n : ℕ) (op : Opcode) → opcode_of n ≡ Some op → goes_alone op.format op.index ≡ true
unfolding opcode_of
opcode_goes_alone n op e =
    let s = mapped_some (λ (r : OpcodeRun). record { format = r.format; index = r.index; mnemonic = slice_index_or r.mnemonics (n - r.first) [] }) (find (is_in_run n) opcode_runs) op e in
    subst (λ (o : Opcode). goes_alone o.format o.index ≡ true) s.2 (found_passes (is_in_run n) (λ (r : OpcodeRun). goes_alone r.format r.index) opcode_runs s.0 runs_go_alone s.1)

-- ---- targets

-- from an index on
read : (l : List ℕ) (k : ℕ) → slice_index (drop k l) 0 ≡ slice_index l k
read l k = let z : k + 0 ≡ k = omega arith in get_or-drop k l 0 0 ∙ ap (slice_index l) z

-- and from a later index on
read_later : (l : List ℕ) (k j n : ℕ) → k + j ≡ n → slice_index (drop k l) j ≡ slice_index l n
read_later l k j n e = get_or-drop k l j 0 ∙ ap (slice_index l) e

-- equal tests give equal results
any_same : (p q : Cut → Bool) (cs : List Cut) → ((c : Cut) → Contains cs c → p c ≡ q c) → list_any p cs ≡ list_any q cs
any_same p q [] h = refl
any_same p q (c ∷ cs) h = let first = h c (Contains-first c cs) in let rest = any_same p q cs (λ d m. h d (Contains-later c d cs m)) in λ i. first i || rest i

-- if the left side is false, the right side is true
or_other : (a b : Bool) → a ≡ false → (a || b) ≡ true → b ≡ true
or_other true b e f = absurd cc
or_other false b e f = f

-- a value that passes a test passes a weaker one
all_weaker : {X : Type 0} (p q : X → Bool) (o : Option X) → ((x : X) → p x ≡ true → q x ≡ true) → all_of_option p o ≡ true → all_of_option q o ≡ true
all_weaker p q None h e = refl
all_weaker p q (Some x) h e = h x e

-- each kind of payload has an ident
kind_ident : (t s : Bool) → is_payload_ident (if t then packed_switch_ident else (if s then sparse_switch_ident else array_data_ident)) ≡ true
kind_ident true s = refl
kind_ident false true = refl
kind_ident false false = refl

-- the targets of a payload by its kind
abbrev targets_by : Bool → Bool → List ℕ → ℕ → List ℤ
targets_by t s us at = if t then ints_in us (at + 4) (slice_index us (at + 1)) else (if s then ints_in us (at + 2 + 2 * slice_index us (at + 1)) (slice_index us (at + 1)) else [])

-- they depend on the units of the payload
targets_same_by : (us vs : List ℕ) (at n : ℕ) (t s : Bool) (b c : ℕ) → n ≡ units_by t s (slice_index us (at + 1)) b c → ((k : ℕ) → at ≤ k → k < at + n → slice_index vs k ≡ slice_index us k) → targets_by t s vs at ≡ targets_by t s us at
targets_same_by us vs at n true s b c e f =
    let one = f (at + 1) (omega arith) (omega arith) in
    ap (λ (k : ℕ). ints_in vs (at + 4) k) one ∙ ints_same us vs (at + 4) (slice_index us (at + 1)) (λ k le lt. f k (omega arith) (omega arith))
targets_same_by us vs at n false true b c e f =
    let one = f (at + 1) (omega arith) (omega arith) in
    ap (λ (k : ℕ). ints_in vs (at + 2 + 2 * k) k) one ∙ ints_same us vs (at + 2 + 2 * slice_index us (at + 1)) (slice_index us (at + 1)) (λ k le lt. f k (omega arith) (omega arith))
targets_same_by us vs at n false false b c e f = refl

-- the distance of a branch depends on its units
branch_by : (us vs : List ℕ) (at : ℕ) (f : Format) (i : Option Pool) → goes_alone f i ≡ true → slice_index vs at ≡ slice_index us at → (i ≡ None → (k : ℕ) → at ≤ k → k < at + units_in f → slice_index vs k ≡ slice_index us k) → branch_offset f vs at ≡ branch_offset f us at
branch_by us vs at F10t i alone first h = ap (λ (u : ℕ). Some (signed_in 1 (high_byte u))) first
branch_by us vs at F20t None alone first h = let one = h refl (at + 1) (omega arith) (omega arith) in ap (λ (u : ℕ). Some (signed_in 2 u)) one
branch_by us vs at F21t None alone first h = let one = h refl (at + 1) (omega arith) (omega arith) in ap (λ (u : ℕ). Some (signed_in 2 u)) one
branch_by us vs at F22t None alone first h = let one = h refl (at + 1) (omega arith) (omega arith) in ap (λ (u : ℕ). Some (signed_in 2 u)) one
branch_by us vs at F30t None alone first h =
    let one = h refl (at + 1) (omega arith) (omega arith) in
    let two = h refl (at + 1 + 1) (omega arith) (omega arith) in
    λ j. Some (signed_in 4 (one j + 65536 * two j))
branch_by us vs at F31t None alone first h =
    let one = h refl (at + 1) (omega arith) (omega arith) in
    let two = h refl (at + 1 + 1) (omega arith) (omega arith) in
    λ j. Some (signed_in 4 (one j + 65536 * two j))
branch_by us vs at F20t (Some p) alone first h = absurd cc
branch_by us vs at F21t (Some p) alone first h = absurd cc
branch_by us vs at F22t (Some p) alone first h = absurd cc
branch_by us vs at F30t (Some p) alone first h = absurd cc
branch_by us vs at F31t (Some p) alone first h = absurd cc
branch_by us vs at f i alone first h = refl

-- the piece is kept in the whole list
pub record KeptPiece (us vs : List ℕ) (c : Cut) : Type 0 where
  pub kept : Kept (drop c.unit us) (drop c.unit vs) c.units
  pub piece : piece_size c.unit (drop c.unit us) ≡ Some c.units

-- from the first unit on
pub kept_piece : (us vs : List ℕ) (c : Cut) → KeptCut 0 us vs c → KeptPiece us vs c
kept_piece us vs c k =
    let e : c.unit - 0 ≡ c.unit = omega arith in
    record { kept = subst (λ (n : ℕ). Kept (drop n us) (drop n vs) c.units) e k.kept; piece = subst (λ (n : ℕ). piece_size c.unit (drop n us) ≡ Some c.units) e k.piece }

module _ (us vs : List ℕ) (cs : List Cut) (keeps : (c : Cut) → Contains cs c → KeptPiece us vs c) where
  -- the first unit of a piece is kept
  unit_at : (c : Cut) → Contains cs c → slice_index vs c.unit ≡ slice_index us c.unit
  unit_at c m = sym (read vs c.unit) ∙ (keeps c m).kept.first ∙ read us c.unit

  -- without an index all its units are kept
  unit_within : (c : Cut) → Contains cs c → pool_at (slice_index us c.unit) ≡ None → (k : ℕ) → c.unit ≤ k → k < c.unit + c.units → slice_index vs k ≡ slice_index us k
  unit_within c m none k le lt =
      let j = k - c.unit in
      let e : c.unit + j ≡ k = omega arith in
      sym (read_later vs c.unit j k e) ∙ (keeps c m).kept.same (ap pool_at (read us c.unit) ∙ none) j (omega arith) ∙ read_later us c.unit j k e

  -- starts are the same
  pub instruction_same : (z : ℤ) → is_instruction_start vs cs z ≡ is_instruction_start us cs z
  instruction_same z =
      any_same (λ c. int_eq (pos c.unit) z && not (is_payload_ident (slice_index vs c.unit))) (λ c. int_eq (pos c.unit) z && not (is_payload_ident (slice_index us c.unit))) cs
      (λ c m. ap (λ (u : ℕ). int_eq (pos c.unit) z && not (is_payload_ident u)) (unit_at c m))

  -- starts of payloads are the same
  payload_start_same : (ident : ℕ) (z : ℤ) → is_payload_start ident vs cs z ≡ is_payload_start ident us cs z
  payload_start_same ident z =
      any_same (λ c. int_eq (pos c.unit) z && slice_index vs c.unit == ident) (λ c. int_eq (pos c.unit) z && slice_index us c.unit == ident) cs (λ c m. ap (λ (u : ℕ). int_eq (pos c.unit) z && u == ident) (unit_at c m))

  -- targets of a payload are the same
  payload_targets_same : (c : Cut) → Contains cs c → is_payload_ident (slice_index us c.unit) ≡ true → payload_targets vs c.unit ≡ payload_targets us c.unit
  payload_targets_same c m ident =
      let none : pool_at (slice_index us c.unit) ≡ None = if_true (is_payload_ident (slice_index us c.unit)) None (option_and_then (λ op. op.index) (opcode_of (low_byte (slice_index us c.unit)))) ident in
      let t = slice_index us c.unit == packed_switch_ident in
      let s = slice_index us c.unit == sparse_switch_ident in
      elim (piece_is c.unit (drop c.unit us) c.units (keeps c m).piece) [
        | inl p ↦
            let b = slice_index (drop c.unit us) 2 in
            let d = slice_index (drop c.unit us) 3 in
            let front = read us c.unit in
            let one = read_later us c.unit 1 (c.unit + 1) refl in
            let units : c.units ≡ units_by t s (slice_index us (c.unit + 1)) b d = sym p.units ∙ (λ i. units_by (front i == packed_switch_ident) (front i == sparse_switch_ident) (one i) b d) in
            ap (λ (u : ℕ). targets_by (u == packed_switch_ident) (u == sparse_switch_ident) vs c.unit) (unit_at c m) ∙ targets_same_by us vs c.unit c.units t s b d units (unit_within c m none)
        | inr p ↦ absurd (let f : false ≡ true = sym p.ident ∙ ap is_payload_ident (read us c.unit) ∙ ident in cc)
      ]

  -- valid targets stay valid
  same_target : (c : Cut) → Contains cs c → (f : Format) (offset : ℤ) → is_right_target us cs c.unit f offset ≡ true → is_right_target vs cs c.unit f offset ≡ true
  same_target c m F31t offset e =
      let z = pos c.unit +ℤ offset in
      let ident = payload_ident (low_byte (slice_index us c.unit)) in
      let start = and_first (is_payload_start ident us cs z) (list_all (λ target. is_instruction_start us cs (pos c.unit +ℤ target)) (payload_targets us (nat_abs z))) e in
      let goes = and_second (is_payload_start ident us cs z) (list_all (λ target. is_instruction_start us cs (pos c.unit +ℤ target)) (payload_targets us (nat_abs z))) e in
      let w = list_any-source (λ (d : Cut). int_eq (pos d.unit) z && slice_index us d.unit == ident) cs start in
      let at : pos w.0.unit ≡ z = (signed_Decides (pos w.0.unit) z).0 (and_first (int_eq (pos w.0.unit) z) (slice_index us w.0.unit == ident) w.2) in
      let is : slice_index us w.0.unit ≡ ident = eqb-true (slice_index us w.0.unit) ident (and_second (int_eq (pos w.0.unit) z) (slice_index us w.0.unit == ident) w.2) in
      let kind : is_payload_ident (slice_index us w.0.unit) ≡ true = ap is_payload_ident is ∙ kind_ident (low_byte (slice_index us c.unit) == 0x2b) (low_byte (slice_index us c.unit) == 0x2c) in
      let place : w.0.unit ≡ nat_abs z = ap nat_abs at in
      let targets : payload_targets vs (nat_abs z) ≡ payload_targets us (nat_abs z) = subst (λ (k : ℕ). payload_targets vs k ≡ payload_targets us k) place (payload_targets_same w.0 w.1 kind) in
      let own : payload_ident (low_byte (slice_index vs c.unit)) ≡ ident = ap (λ (u : ℕ). payload_ident (low_byte u)) (unit_at c m) in
      let starts : is_payload_start (payload_ident (low_byte (slice_index vs c.unit))) vs cs z ≡ true = ap (λ (k : ℕ). is_payload_start k vs cs z) own ∙ payload_start_same ident z ∙ start in
      let all_us : list_all (λ target. is_instruction_start vs cs (pos c.unit +ℤ target)) (payload_targets us (nat_abs z)) ≡ true =
      list_all-from_members (λ target. is_instruction_start vs cs (pos c.unit +ℤ target)) (payload_targets us (nat_abs z)) (λ target k.
      instruction_same (pos c.unit +ℤ target) ∙ list_all-member (λ goal. is_instruction_start us cs (pos c.unit +ℤ goal)) (payload_targets us (nat_abs z)) target goes k) in
      let all_vs : list_all (λ target. is_instruction_start vs cs (pos c.unit +ℤ target)) (payload_targets vs (nat_abs z)) ≡ true = ap (list_all (λ target. is_instruction_start vs cs (pos c.unit +ℤ target))) targets ∙ all_us in
      and_both (is_payload_start (payload_ident (low_byte (slice_index vs c.unit))) vs cs z) (list_all (λ target. is_instruction_start vs cs (pos c.unit +ℤ target)) (payload_targets vs (nat_abs z))) starts all_vs
  same_target c m f offset e = instruction_same (pos c.unit +ℤ offset) ∙ e

  -- the targets of a piece in units
  abbrev Right : List ℕ → Cut → Bool
  Right xs c = all_of_option (λ op. all_of_option (is_right_target xs cs c.unit op.format) (branch_offset op.format xs c.unit)) (opcode_of (low_byte (slice_index xs c.unit)))

  -- case split on whether it is a payload
  right_by : (c : Cut) → Contains cs c → (t : Bool) → is_payload_ident (slice_index us c.unit) ≡ t → (is_payload_ident (slice_index us c.unit) || Right us c) ≡ true → (is_payload_ident (slice_index vs c.unit) || Right vs c) ≡ true
  right_by c m true e h = or_left (is_payload_ident (slice_index vs c.unit)) (Right vs c) (ap is_payload_ident (unit_at c m) ∙ e)
  right_by c m false e h = elim (piece_is c.unit (drop c.unit us) c.units (keeps c m).piece) [
    | inl p ↦ absurd (let f : true ≡ false = sym p.ident ∙ ap is_payload_ident (read us c.unit) ∙ e in cc)
    | inr p ↦
        let op = p.op in
        let is : opcode_of (low_byte (slice_index us c.unit)) ≡ Some op = ap (λ (u : ℕ). opcode_of (low_byte u)) (sym (read us c.unit)) ∙ p.is in
        let is_too : opcode_of (low_byte (slice_index vs c.unit)) ≡ Some op = ap (λ (u : ℕ). opcode_of (low_byte u)) (unit_at c m) ∙ is in
        let pool : pool_at (slice_index us c.unit) ≡ op.index = if_false (is_payload_ident (slice_index us c.unit)) None (option_and_then (λ (o : Opcode). o.index) (opcode_of (low_byte (slice_index us c.unit)))) e ∙ ap (option_and_then (λ (o : Opcode). o.index)) is in
        let own : all_of_option (is_right_target us cs c.unit op.format) (branch_offset op.format us c.unit) ≡ true =
        sym (ap (all_of_option (λ (o : Opcode). all_of_option (is_right_target us cs c.unit o.format) (branch_offset o.format us c.unit))) is) ∙ or_other (is_payload_ident (slice_index us c.unit)) (Right us c) e h in
        let branch = branch_by us vs c.unit op.format op.index (opcode_goes_alone (low_byte (slice_index us c.unit)) op is) (unit_at c m) (λ none k le lt. unit_within c m (pool ∙ none) k le (omega (arith, lt, p.units))) in
        let still : all_of_option (is_right_target vs cs c.unit op.format) (branch_offset op.format vs c.unit) ≡ true =
        ap (all_of_option (is_right_target vs cs c.unit op.format)) branch ∙ all_weaker (is_right_target us cs c.unit op.format) (is_right_target vs cs c.unit op.format) (branch_offset op.format us c.unit) (same_target c m op.format) own in
        or_right (is_payload_ident (slice_index vs c.unit)) (Right vs c) (ap (all_of_option (λ (o : Opcode). all_of_option (is_right_target vs cs c.unit o.format) (branch_offset o.format vs c.unit))) is_too ∙ still)
  ]

  -- valid targets stay valid
  pub right_same : (c : Cut) → Contains cs c → has_right_targets us cs c ≡ true → has_right_targets vs cs c ≡ true
  unfolding has_right_targets
  right_same c m h = right_by c m (is_payload_ident (slice_index us c.unit)) refl h

-- ---- the whole

-- code without its indices
pub record BlankedCode (us : List ℕ) (cs : List Cut) (ps : List Piece) : Type 0 where
  pub size : length (flat_map units_of ps) ≡ length us
  pub code : IsCode (flat_map units_of ps) cs
  pub pieces : AllZip (λ c p. DenotesPiece IsZero (cut_units (flat_map units_of ps) c) p) cs ps
  pub starts : (z : ℤ) → is_instruction_start (flat_map units_of ps) cs z ≡ is_instruction_start us cs z

-- code without its indices is code
pub blanked_code : (N : ℕ → Symbol → Type 0) (us : List ℕ) (cs : List Cut) (ps : List Piece) → IsCode us cs → AllZip (λ c p. DenotesPiece N (cut_units us c) p) cs ps → BlankedCode us cs ps
blanked_code N us cs ps code pieces =
    let vs = flat_map units_of ps in
    let b = rewritten N IsZero (λ p. Unit {0}) units_of (blank N) (λ at n us p le some size h fits. zeroed N (take n us) p h) 0 us cs ps code.cut (pieces_denoted N us 0 us cs ps refl code.cut pieces) (λ p k. tt) in
    let keeps = λ (c : Cut) (m : Contains cs c). kept_piece us vs c (b.kept c m) in
    record {
      size = b.size;
      code = record {
        some = omega (arith, b.size, code.some);
        cut = b.cut;
        targets = all_from (λ (c : Cut). IsTrue (has_right_targets vs cs c)) cs (λ c m. right_same us vs cs keeps c m (All-contains (λ (d : Cut). IsTrue (has_right_targets us cs d)) cs c code.targets m));
      };
      pieces = pieces_denoted_back IsZero vs 0 vs cs ps refl b.cut b.encodes;
      starts = instruction_same us vs cs keeps;
    }
