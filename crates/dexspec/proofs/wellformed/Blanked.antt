-- Code with zero for its indices is cut in the same way, and is the same except for these indices.
use Rattle.dexspec.proofs.Common.{◌≡◌, ◌⊎◌, ℕ, zero, suc, ◌+◌, ◌*◌, ◌/◌, ◌%◌, ◌<◌, ◌≤◌, Bool, true, false, ◌&&◌, List, [], ◌∷◌, length, get_or, slice_index, Option, Some, None, refl, sym, ap, ◌∙◌, subst, arith, inl, inr, if◌then◌else◌, ◌==◌, slice_set, nat_le, option_and_then, list_any, int_cmp, get_or-eq_default, length-set, cases_lt, leb-true, le-leb, get_or-set_same, get_or-set_other, set-get_or}
use Rattle.dexspec.specs.{rises, signed_in, Pool, Symbol, pool_of, Format, F10x, Opcode, opcode_of, units_in, piece_size, payload_size, instruction_size, payload_units, is_payload_in_order, packed_switch_ident, sparse_switch_ident, is_payload_ident, is_first_unit, ints_in, Piece, Instruction, Payload, units_of, DenotesPiece, index_pool, index_in, is_wide_index, with_index, two_units, low_byte}
use Rattle.dexspec.proofs.lists.Members.{and_first, and_second, and_both}
use Rattle.dexspec.proofs.wellformed.ShortStrings.{first_kept}

-- ---- one piece

-- an index is zero
abbrev pub IsZero : ℕ → Symbol → Type 0
IsZero i s = i ≡ 0

-- the pool of the index of a piece with this first unit
abbrev pub pool_at : ℕ → Option Pool
pool_at u = if is_payload_ident u then None else option_and_then (λ op. op.index) (opcode_of (low_byte u))

-- the units without an index, related to those with it
pub record Blank (w x : List ℕ) : Type 0 where
  pub size : length x ≡ length w
  pub first : slice_index x 0 ≡ slice_index w 0
  pub same : pool_at (slice_index w 0) ≡ None → x ≡ w

-- units with the index zero, wide or not
abbrev put_zero : List ℕ → Bool → List ℕ
put_zero w t = if t then slice_set (slice_set w 1 (0 % 65536)) 2 (0 / 65536) else slice_set w 1 0

-- as many units as before
length_put : (w : List ℕ) (t : Bool) → length (put_zero w t) ≡ length w
length_put w true = length-set (slice_set w 1 0) 2 0 ∙ length-set w 1 0
length_put w false = length-set w 1 0

-- units that encode a piece have this relation
pub blank : (N : ℕ → Symbol → Type 0) (w : List ℕ) (p : Piece) → DenotesPiece N w p → Blank w (units_of p)
blank N w (Instruction xs None) h = record { size = ap length h.2; first = ap (λ (ys : List ℕ). slice_index ys 0) h.2; same = λ _. h.2 }
blank N w (Instruction xs (Some s)) h = record {
  size = ap length h.2 ∙ length_put w (is_wide_index w);
  first = ap (λ (ys : List ℕ). slice_index ys 0) h.2 ∙ first_kept w (is_wide_index w);
  same = λ e. absurd (let z : None ≡ Some (pool_of s) = sym e ∙ h.0 in cc);
}
blank N w (Payload xs) h = record { size = ap length h.1; first = ap (λ (ys : List ℕ). slice_index ys 0) h.1; same = λ _. h.1 }

-- a unit that was set to zero is zero
set_zero : (l : List ℕ) (i : ℕ) → get_or (slice_set l i 0) i 0 ≡ 0
set_zero l i = elim (cases_lt i (length l)) [
  | inl lt ↦ get_or-set_same l i 0 0 lt
  | inr ge ↦ get_or-eq_default (slice_set l i 0) 0 (omega (arith, ge, length-set l i 0))
]

-- setting it to zero again changes nothing
zero_again : (l : List ℕ) (i : ℕ) → get_or l i 0 ≡ 0 → slice_set l i 0 ≡ l
zero_again l i e = ap (λ (v : ℕ). slice_set l i v) (sym e) ∙ set-get_or l i 0

-- the index that was set
put_index : (w : List ℕ) (t : Bool) → (if t then two_units (put_zero w t) 1 else slice_index (put_zero w t) 1) ≡ 0
put_index w true =
    let one : get_or (slice_set (slice_set w 1 0) 2 0) 1 0 ≡ 0 = get_or-set_other (slice_set w 1 0) 2 1 0 0 (omega arith) ∙ set_zero w 1 in
    let two : get_or (slice_set (slice_set w 1 0) 2 0) 2 0 ≡ 0 = set_zero (slice_set w 1 0) 2 in
    omega (arith, one, two)
put_index w false = set_zero w 1

-- setting it twice is setting it once
put_again : (w : List ℕ) (t : Bool) → put_zero (put_zero w t) t ≡ put_zero w t
put_again w true =
    let y = slice_set (slice_set w 1 0) 2 0 in
    let one : get_or y 1 0 ≡ 0 = get_or-set_other (slice_set w 1 0) 2 1 0 0 (omega arith) ∙ set_zero w 1 in
    ap (λ (l : List ℕ). slice_set l 2 0) (zero_again y 1 one) ∙ zero_again y 2 (set_zero (slice_set w 1 0) 2)
put_again w false = zero_again (slice_set w 1 0) 1 (set_zero w 1)

-- without its index a piece encodes itself, with zero for the index
pub zeroed : (N : ℕ → Symbol → Type 0) (w : List ℕ) (p : Piece) → DenotesPiece N w p → DenotesPiece IsZero (units_of p) p
zeroed N w (Instruction xs None) h = (subst (λ (ys : List ℕ). is_payload_ident (slice_index ys 0) ≡ false) (sym h.2) h.0, subst (λ (ys : List ℕ). index_pool ys ≡ None) (sym h.2) h.1, refl)
zeroed N w (Instruction xs (Some s)) h =
    let t = is_wide_index w in
    let first : slice_index xs 0 ≡ slice_index w 0 = ap (λ (ys : List ℕ). slice_index ys 0) h.2 ∙ first_kept w t in
    let wide : is_wide_index xs ≡ t = ap (λ (u : ℕ). low_byte u == 0x1b) first in
    let index : index_in xs ≡ 0 = ap (λ (v : Bool). if v then two_units xs 1 else slice_index xs 1) wide ∙ ap (λ (ys : List ℕ). if t then two_units ys 1 else slice_index ys 1) h.2 ∙ put_index w t in
    let again : xs ≡ with_index 0 xs = sym (ap (λ (v : Bool). put_zero xs v) wide ∙ ap (λ (ys : List ℕ). put_zero ys t) h.2 ∙ put_again w t ∙ sym h.2) in
    (ap pool_at first ∙ h.0, index, again)
zeroed N w (Payload xs) h = (subst (λ (ys : List ℕ). is_payload_ident (slice_index ys 0) ≡ true) (sym h.1) h.0, refl)

-- ---- the size of a piece

-- the value of a test that passes
pub if_true : {X : Type 0} (t : Bool) (a b : X) → t ≡ true → (if t then a else b) ≡ a
if_true true a b e = refl
if_true false a b e = absurd cc

-- the value of a test that fails
pub if_false : {X : Type 0} (t : Bool) (a b : X) → t ≡ false → (if t then a else b) ≡ b
if_false true a b e = absurd cc
if_false false a b e = refl

-- the result of a guarded option
some_if : {X : Type 0} (t : Bool) (o : Option X) (x : X) → (if t then o else None) ≡ Some x → (t ≡ true) × (o ≡ Some x)
some_if true o x e = (refl, e)
some_if false o x e = absurd cc

-- the result of a chained option
and_then_some : {X Y : Type 0} (f : X → Option Y) (o : Option X) (y : Y) → option_and_then f o ≡ Some y → (x : X) × (o ≡ Some x) × (f x ≡ Some y)
and_then_some f None y e = absurd cc
and_then_some f (Some x) y e = (x, refl, e)

-- a payload of n units begins here
pub record PayloadPiece (at : ℕ) (us : List ℕ) (n : ℕ) : Type 0 where
  pub ident : is_payload_ident (slice_index us 0) ≡ true
  pub even : (at % 2 == 0) ≡ true
  pub units : payload_units us ≡ n
  pub within : n ≤ length us
  pub in_order : is_payload_in_order us ≡ true

-- an instruction of n units begins here
pub record InstructionPiece (us : List ℕ) (n : ℕ) : Type 0 where
  pub ident : is_payload_ident (slice_index us 0) ≡ false
  pub op : Opcode
  pub is : opcode_of (low_byte (slice_index us 0)) ≡ Some op
  pub units : units_in op.format ≡ n
  pub within : n ≤ length us
  pub first : is_first_unit op.format (slice_index us 0) ≡ true

-- equal options have equal values
same_number : (m n : ℕ) → Some m ≡ Some n → m ≡ n
same_number m n e = cc

-- case split on whether a payload begins here
piece_by : (at u : ℕ) (us : List ℕ) (n : ℕ) (t : Bool) → is_payload_ident u ≡ t → (if t then (if at % 2 == 0 then payload_size (u ∷ us) else None) else instruction_size (u ∷ us)) ≡ Some n → PayloadPiece at (u ∷ us) n ⊎ InstructionPiece (u ∷ us) n
piece_by at u us n true e h =
    let even = some_if (at % 2 == 0) (payload_size (u ∷ us)) n h in
    let tests = some_if (nat_le (payload_units (u ∷ us)) (length (u ∷ us)) && is_payload_in_order (u ∷ us)) (Some (payload_units (u ∷ us))) n even.1 in
    let units : payload_units (u ∷ us) ≡ n = same_number (payload_units (u ∷ us)) n tests.1 in
    let within : payload_units (u ∷ us) ≤ length (u ∷ us) = leb-true (payload_units (u ∷ us)) (length (u ∷ us)) (and_first (nat_le (payload_units (u ∷ us)) (length (u ∷ us))) (is_payload_in_order (u ∷ us)) tests.0) in
    inl (record {
      ident = e;
      even = even.0;
      units = units;
      within = subst (λ (k : ℕ). k ≤ length (u ∷ us)) units within;
      in_order = and_second (nat_le (payload_units (u ∷ us)) (length (u ∷ us))) (is_payload_in_order (u ∷ us)) tests.0;
    })
piece_by at u us n false e h =
    let s = and_then_some (λ (op : Opcode). if nat_le (units_in op.format) (length (u ∷ us)) && is_first_unit op.format u then Some (units_in op.format) else None) (opcode_of (low_byte u)) n h in
    let tests = some_if (nat_le (units_in s.0.format) (length (u ∷ us)) && is_first_unit s.0.format u) (Some (units_in s.0.format)) n s.2 in
    let units : units_in s.0.format ≡ n = same_number (units_in s.0.format) n tests.1 in
    let within : units_in s.0.format ≤ length (u ∷ us) = leb-true (units_in s.0.format) (length (u ∷ us)) (and_first (nat_le (units_in s.0.format) (length (u ∷ us))) (is_first_unit s.0.format u) tests.0) in
    inr (record {
      ident = e;
      op = s.0;
      is = s.1;
      units = units;
      within = subst (λ (k : ℕ). k ≤ length (u ∷ us)) units within;
      first = and_second (nat_le (units_in s.0.format) (length (u ∷ us))) (is_first_unit s.0.format u) tests.0;
    })

-- a piece is a payload or an instruction
pub piece_is : (at : ℕ) (us : List ℕ) (n : ℕ) → piece_size at us ≡ Some n → PayloadPiece at us n ⊎ InstructionPiece us n
unfolding piece_size
piece_is at [] n h = absurd cc
piece_is at (u ∷ us) n h = piece_by at u us n (is_payload_ident u) refl h

-- and conversely
piece_from : (at : ℕ) (us : List ℕ) (n : ℕ) → 0 < length us → PayloadPiece at us n ⊎ InstructionPiece us n → piece_size at us ≡ Some n
unfolding piece_size
piece_from at [] n some h = absurd (omega arith)
piece_from at (u ∷ us) n some (inl p) =
    let size = payload_size (u ∷ us) in
    let units = payload_units (u ∷ us) in
    let fits : nat_le units (length (u ∷ us)) ≡ true = le-leb units (length (u ∷ us)) (omega (arith, p.units, p.within)) in
    if_true (is_payload_ident u) (if at % 2 == 0 then size else None) (instruction_size (u ∷ us)) p.ident
    ∙ if_true (at % 2 == 0) size None p.even
    ∙ if_true (nat_le units (length (u ∷ us)) && is_payload_in_order (u ∷ us)) (Some units) None (and_both (nat_le units (length (u ∷ us))) (is_payload_in_order (u ∷ us)) fits p.in_order)
    ∙ ap Some p.units
piece_from at (u ∷ us) n some (inr p) =
    let f = λ (op : Opcode). if nat_le (units_in op.format) (length (u ∷ us)) && is_first_unit op.format u then Some (units_in op.format) else None in
    let fits : nat_le (units_in p.op.format) (length (u ∷ us)) ≡ true = le-leb (units_in p.op.format) (length (u ∷ us)) (omega (arith, p.units, p.within)) in
    if_false (is_payload_ident u) (if at % 2 == 0 then payload_size (u ∷ us) else None) (instruction_size (u ∷ us)) p.ident
    ∙ ap (option_and_then f) p.is
    ∙ if_true (nat_le (units_in p.op.format) (length (u ∷ us)) && is_first_unit p.op.format u) (Some (units_in p.op.format)) None (and_both (nat_le (units_in p.op.format) (length (u ∷ us))) (is_first_unit p.op.format u) fits p.first)
    ∙ ap Some p.units

-- every format has a unit
some_units : (f : Format) → 0 < units_in f
some_units F10x = omega arith
some_units _ = omega arith

-- ---- what is kept

-- the first n units are kept: the first of them, and all of them if there is no index
pub record Kept (us vs : List ℕ) (n : ℕ) : Type 0 where
  pub first : slice_index vs 0 ≡ slice_index us 0
  pub same : pool_at (slice_index us 0) ≡ None → (j : ℕ) → j < n → slice_index vs j ≡ slice_index us j

-- numbers of kept units
pub ints_same : (us vs : List ℕ) (i n : ℕ) → ((k : ℕ) → i ≤ k → k < i + 2 * n → slice_index vs k ≡ slice_index us k) → ints_in vs i n ≡ ints_in us i n
ints_same us vs i zero h = refl
ints_same us vs i (suc n) h =
    let low = h i (omega arith) (omega arith) in
    let high = h (i + 1) (omega arith) (omega arith) in
    let rest = ints_same us vs (i + 2) n (λ k le lt. h k (omega arith) (omega arith)) in
    λ j. signed_in 4 (low j + 65536 * high j) ∷ rest j

-- the units of a payload by its kind and its units 1 to 3
abbrev pub units_by : Bool → Bool → ℕ → ℕ → ℕ → ℕ
units_by t s a b c = if t then 4 + 2 * a else (if s then 2 + 4 * a else 4 + ((b + 65536 * c) * a + 1) / 2)

-- whether a payload of the kind is in order
abbrev order_by : Bool → Bool → List ℕ → Bool
order_by t s us = if t then true else (if s then rises int_cmp (ints_in us 2 (slice_index us 1)) else list_any (λ width. slice_index us 1 == width) (1 ∷ 2 ∷ 4 ∷ 8 ∷ []))

-- at least two units
least_units : (t s : Bool) (a b c : ℕ) → 2 ≤ units_by t s a b c
least_units true s a b c = omega arith
least_units false true a b c = omega arith
least_units false false a b c = omega arith

-- both depend on the units of the payload
payload_same : (us vs : List ℕ) (n : ℕ) (t s : Bool) → n ≡ units_by t s (slice_index us 1) (slice_index us 2) (slice_index us 3) → ((j : ℕ) → j < n → slice_index vs j ≡ slice_index us j)
    → (units_by t s (slice_index vs 1) (slice_index vs 2) (slice_index vs 3) ≡ n) × (order_by t s vs ≡ order_by t s us)
payload_same us vs n true s e f = (omega (arith, e, f 1 (omega arith)), refl)
payload_same us vs n false true e f =
    let one = f 1 (omega arith) in
    let ints = ap (λ (k : ℕ). ints_in vs 2 k) one ∙ ints_same us vs 2 (slice_index us 1) (λ k le lt. f k (omega arith)) in
    (omega (arith, e, one), ap (rises int_cmp) ints)
payload_same us vs n false false e f =
    let one = f 1 (omega arith) in
    let two = f 2 (omega arith) in
    let three = f 3 (omega arith) in
    ((λ i. 4 + ((two i + 65536 * three i) * one i + 1) / 2) ∙ sym e, ap (λ (a : ℕ). list_any (λ width. a == width) (1 ∷ 2 ∷ 4 ∷ 8 ∷ [])) one)

-- pieces whose units are kept have the same size
pub piece_same : (at n : ℕ) (us vs : List ℕ) → length vs ≡ length us → Kept us vs n → piece_size at us ≡ Some n → piece_size at vs ≡ Some n
piece_same at n us vs len kept h = elim (piece_is at us n h) [
  | inl p ↦
      let none : pool_at (slice_index us 0) ≡ None = if_true (is_payload_ident (slice_index us 0)) None (option_and_then (λ op. op.index) (opcode_of (low_byte (slice_index us 0)))) p.ident in
      let t = slice_index us 0 == packed_switch_ident in
      let s = slice_index us 0 == sparse_switch_ident in
      let both = payload_same us vs n t s (sym p.units) (kept.same none) in
      let units : payload_units vs ≡ n = ap (λ (u : ℕ). units_by (u == packed_switch_ident) (u == sparse_switch_ident) (slice_index vs 1) (slice_index vs 2) (slice_index vs 3)) kept.first ∙ both.0 in
      let order : is_payload_in_order vs ≡ true = ap (λ (u : ℕ). order_by (u == packed_switch_ident) (u == sparse_switch_ident) vs) kept.first ∙ both.1 ∙ p.in_order in
      let least = least_units t s (slice_index us 1) (slice_index us 2) (slice_index us 3) in
      piece_from at vs n (omega (arith, least, p.units, p.within, len)) (inl (record { ident = ap is_payload_ident kept.first ∙ p.ident; even = p.even; units = units; within = omega (arith, p.within, len); in_order = order }))
  | inr p ↦
      piece_from at vs n (omega (arith, some_units p.op.format, p.units, p.within, len)) (inr (record {
        ident = ap is_payload_ident kept.first ∙ p.ident;
        op = p.op;
        is = ap (λ (u : ℕ). opcode_of (low_byte u)) kept.first ∙ p.is;
        units = p.units;
        within = omega (arith, p.within, len);
        first = ap (is_first_unit p.op.format) kept.first ∙ p.first;
      }))
]

-- a piece has a unit, and is within the units
pub piece_bounds : (at n : ℕ) (us : List ℕ) → piece_size at us ≡ Some n → (0 < n) × (n ≤ length us)
piece_bounds at n us h = elim (piece_is at us n h) [
  | inl p ↦ (omega (arith, p.units, least_units (slice_index us 0 == packed_switch_ident) (slice_index us 0 == sparse_switch_ident) (slice_index us 1) (slice_index us 2) (slice_index us 3)), p.within)
  | inr p ↦ (omega (arith, p.units, some_units p.op.format), p.within)
]
