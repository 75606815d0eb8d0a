-- An instruction with an index has room for it.
use Rattle.dexinsn.proofs.Common.{found_passes, mapped_some, if_false, if_true, ◌≡◌, ℕ, ◌+◌, ◌-◌, ◌<◌, ◌≤◌, nat_le, Bool, true, false, ◌||◌, ◌==◌, cond, List, length, drop, slice_index, Option, Some, None, inl, inr, refl, ap, sym, ◌∙◌, subst, arith, length-drop, find, list_all, option_map, option_and_then, leb-true, eqb-true, same_Some, Pool, Opcode, OpcodeRun, Format, units_in, opcode_of, opcode_runs, is_in_run, piece_size, index_pool, is_wide_index, is_payload_ident, packed_switch_ident, sparse_switch_ident, array_data_ident, low_byte, InstructionPiece, piece_is, ◌*◌, ◌/◌, ◌%◌, [], ◌∷◌, add-zero, IsSome, get_or-drop, F10x, piece_bounds, payload_size, element_count, element_width, instruction_size}

-- what has an index has two units at least
abbrev is_long : Format → Option Pool → Bool
is_long f None = true
is_long f (Some pool) = nat_le 2 (units_in f)

runs_are_long : list_all (λ (r : OpcodeRun). is_long r.format r.index) opcode_runs ≡ true
unfolding opcode_runs
runs_are_long = refl

opcode_is_long : (n : ℕ) (op : Opcode) → opcode_of n ≡ Some op → is_long op.format op.index ≡ true
unfolding opcode_of
opcode_is_long n op e =
    let s = mapped_some _ (find (is_in_run n) opcode_runs) op e in
    subst (λ (o : Opcode). is_long o.format o.index ≡ true) s.2 (found_passes (is_in_run n) (λ (r : OpcodeRun). is_long r.format r.index) opcode_runs s.0 runs_are_long s.1)

-- const-string/jumbo has three
jumbo_units : option_map (λ (o : Opcode). units_in o.format) (opcode_of 0x1b) ≡ Some 3
unfolding opcode_of opcode_runs
jumbo_units = refl

long_units : (f : Format) (i : Option Pool) (pool : Pool) → i ≡ Some pool → is_long f i ≡ true → 2 ≤ units_in f
long_units f None pool e h = absurd cc
long_units f (Some p) pool e h = leb-true 2 (units_in f) h

-- the room of an index
pub record HasRoom (us : List ℕ) (n : ℕ) : Type 0 where
  pub within : n ≤ length us
  pub two : 2 ≤ n
  pub three : is_wide_index us ≡ true → 3 ≤ n

room_of : (us : List ℕ) (n : ℕ) (pool : Pool) → InstructionPiece us n → index_pool us ≡ Some pool → HasRoom us n
room_of us n pool p named =
    let index : option_and_then (λ (op : Opcode). op.index) (opcode_of (low_byte (slice_index us 0))) ≡ Some pool = sym (if_false (is_payload_ident (slice_index us 0)) None (option_and_then (λ (op : Opcode). op.index) (opcode_of (low_byte (slice_index us 0)))) p.ident) ∙ named in
    record {
      within = p.within;
      two = omega (arith, long_units p.op.format p.op.index pool (sym (ap (option_and_then (λ (op : Opcode). op.index)) p.is) ∙ index) (opcode_is_long (low_byte (slice_index us 0)) p.op p.is), p.units);
      three = λ wide.
          omega (arith, same_Some (units_in p.op.format) 3 (sym (ap (option_map (λ (o : Opcode). units_in o.format)) p.is) ∙ ap (λ (k : ℕ). option_map (λ (o : Opcode). units_in o.format) (opcode_of k)) (eqb-true (low_byte (slice_index us 0)) 0x1b wide) ∙ jumbo_units), p.units);
    }

-- a piece with an index has room for it
pub has_room : (at : ℕ) (us : List ℕ) (n : ℕ) (pool : Pool) → piece_size at us ≡ Some n → index_pool us ≡ Some pool → HasRoom us n
has_room at us n pool size named = elim (piece_is at us n size) [
  | inl p ↦ absurd (let none : None ≡ Some pool = sym (if_true (is_payload_ident (slice_index us 0)) None (option_and_then (λ (op : Opcode). op.index) (opcode_of (low_byte (slice_index us 0)))) p.ident) ∙ named in cc)
  | inr p ↦ room_of us n pool p named
]

-- the same of a piece that is among units
pub room_after : (us : List ℕ) (at n : ℕ) (pool : Pool) → piece_size at (drop at us) ≡ Some n → index_pool (drop at us) ≡ Some pool → at + 1 < length us
room_after us at n pool size named = let r : HasRoom (drop at us) n = has_room at (drop at us) n pool size named in omega (arith, r.within, r.two, length-drop at us)

pub wide_room_after : (us : List ℕ) (at n : ℕ) (pool : Pool) → piece_size at (drop at us) ≡ Some n → index_pool (drop at us) ≡ Some pool → is_wide_index (drop at us) ≡ true → at + 2 < length us
wide_room_after us at n pool size named wide = let r : HasRoom (drop at us) n = has_room at (drop at us) n pool size named in omega (arith, r.within, r.three wide, length-drop at us)

-- a payload begins with the opcode of an instruction that has no index
payload_first : (a b c : Bool) (u : ℕ) → (u == packed_switch_ident) ≡ a → (u == sparse_switch_ident) ≡ b → (u == array_data_ident) ≡ c → (a || (b || c)) ≡ true → low_byte u ≡ 0
payload_first true b c u e f g h = ap low_byte (eqb-true u packed_switch_ident e)
payload_first false true c u e f g h = ap low_byte (eqb-true u sparse_switch_ident f)
payload_first false false true u e f g h = ap low_byte (eqb-true u array_data_ident g)
payload_first false false false u e f g h = absurd cc

abbrev index_of_op : ℕ → Option Pool
index_of_op op = option_and_then (λ (o : Opcode). o.index) (opcode_of op)

nop_alone : index_of_op 0 ≡ None
unfolding opcode_of opcode_runs
nop_alone = refl

alone_by : (t : Bool) (u : ℕ) → is_payload_ident u ≡ t → cond t None (index_of_op (low_byte u)) ≡ index_of_op (low_byte u)
alone_by false u e = refl
alone_by true u e = sym (ap index_of_op (payload_first (u == packed_switch_ident) (u == sparse_switch_ident) (u == array_data_ident) u refl refl refl e) ∙ nop_alone)

-- so the opcode alone determines the pool of the index
pub pool_of_first : (us : List ℕ) → index_pool us ≡ option_and_then (λ (o : Opcode). o.index) (opcode_of (low_byte (slice_index us 0)))
pool_of_first us = alone_by (is_payload_ident (slice_index us 0)) (slice_index us 0) refl

-- ---- The number of units of a piece: at least one, and no more than there are

-- the piece's size n is at least one, and within the units
abbrev pub Fits : List ℕ → ℕ → Type 0
Fits us n = (0 < n) × (n ≤ length us)

pub units_in-some : (f : Format) → 0 < units_in f
units_in-some F10x = omega arith
units_in-some _ = omega arith

pub piece_size-fits : (at : ℕ) (us : List ℕ) (n : ℕ) → piece_size at us ≡ Some n → Fits us n
piece_size-fits at us n is = piece_bounds at n us is

-- the first piece, by its first unit
pub first_is : (at : ℕ) (us : List ℕ) → 0 < length us → piece_size at us ≡ cond (is_payload_ident (slice_index us 0)) (cond (at % 2 == 0) (payload_size us) None) (instruction_size us)
unfolding piece_size
first_is at [] some = absurd (omega arith)
first_is at (u ∷ us) some = refl

-- ---- a piece within the units

pub size_is : (o : Option ℕ) → IsSome o → (n : ℕ) × (o ≡ Some n)
size_is (Some n) some = (n, refl)
size_is None some = cc

pub piece_within : (us : List ℕ) (at n : ℕ) → piece_size at (drop at us) ≡ Some n → at < length us
piece_within us at n is = let fits = piece_bounds at n (drop at us) is in omega (arith, fits.0, fits.1, length-drop at us)

first_at : (us : List ℕ) (at : ℕ) → slice_index (drop at us) 0 ≡ slice_index us at
first_at us at = get_or-drop at us 0 0 ∙ ap (slice_index us) (add-zero at)

abbrev units_for : ℕ → List ℕ → ℕ
units_for u us = cond (u == packed_switch_ident) (4 + 2 * slice_index us 1) (cond (u == sparse_switch_ident) (2 + 4 * slice_index us 1) (4 + (element_count us * element_width us + 1) / 2))

-- a payload that begins with this unit lies within the units
payload_within : (us : List ℕ) (at ident : ℕ) → IsSome (piece_size at (drop at us)) → slice_index us at ≡ ident → is_payload_ident ident ≡ true → units_for ident (drop at us) ≤ length us - at
payload_within us at ident some first payload =
    let found = size_is (piece_size at (drop at us)) some in
    let here : slice_index (drop at us) 0 ≡ ident = first_at us at ∙ first in
    elim (piece_is at (drop at us) found.0 found.1) [
      | inl p ↦ omega (arith, ap (λ (u : ℕ). units_for u (drop at us)) here, p.units, p.within, length-drop at us)
      | inr p ↦ absurd (let bad : true ≡ false = sym (ap is_payload_ident here ∙ payload) ∙ p.ident in cc)
    ]

-- the targets of a switch lie within the units
pub packed_fits : (us : List ℕ) (at : ℕ) → IsSome (piece_size at (drop at us)) → slice_index us at ≡ packed_switch_ident → at + 4 + 2 * slice_index us (at + 1) ≤ length us
packed_fits us at some ident = omega (arith, payload_within us at packed_switch_ident some ident refl, get_or-drop at us 1 0)

pub sparse_fits : (us : List ℕ) (at : ℕ) → IsSome (piece_size at (drop at us)) → slice_index us at ≡ sparse_switch_ident → at + 2 + 4 * slice_index us (at + 1) ≤ length us
sparse_fits us at some ident = omega (arith, payload_within us at sparse_switch_ident some ident refl, get_or-drop at us 1 0)

-- an instruction lies within the units
pub instruction_fits : (us : List ℕ) (at n : ℕ) (f : Format) → piece_size at (drop at us) ≡ Some n → is_payload_ident (slice_index us at) ≡ false → option_map (λ (o : Opcode). o.format) (opcode_of (low_byte (slice_index us at))) ≡ Some f → at + units_in f ≤ length us
instruction_fits us at n f is plain format = elim (piece_is at (drop at us) n is) [
  | inl p ↦ absurd (let bad : true ≡ false = sym p.ident ∙ ap is_payload_ident (first_at us at) ∙ plain in cc)
  | inr p ↦
      omega (arith, ap units_in (same_Some p.op.format f (sym (ap (option_map (λ (o : Opcode). o.format)) p.is) ∙ ap (λ (u : ℕ). option_map (λ (o : Opcode). o.format) (opcode_of (low_byte u))) (first_at us at) ∙ format)), p.units, p.within, length-drop at us, piece_within us at n is)
]
