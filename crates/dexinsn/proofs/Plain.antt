-- Instructions with no index or one of 16 bits, found by their first unit and the row of their opcode.
use Rattle.dexinsn.proofs.Common.{cond-false, ◌≡◌, ℕ, ◌+◌, ◌-◌, ◌/◌, ◌%◌, ◌^◌, ◌<◌, ◌≤◌, ◌==◌, ◌&&◌, ◌||◌, nat_le, Bool, true, false, cond, List, [], length, drop, slice_index, Option, Some, None, refl, ap, sym, ◌∙◌, subst, arith, add-zero, length-drop, All, MatchOption, option_map, option_map_or, option_and_then, le-leb, eqb-true, get_or-drop, All-nil, All-cons, Mentions, Pool, Format, Opcode, opcode_of, opcode_runs, units_in, F10x, F20t, F30t, F32x, F35c, index_in, index_pool, instruction_size, is_first_unit, is_payload_ident, is_wide_index, low_byte, payload_size, piece_size, two_units, count_of, SymbolKind, IndexCount, IsStep, count_of_index, limit_of, kind_of_pool, IsPlainRow, IsRowOf, greatest_at, greatest_first, kind_of_index, with_index_at, FitsAt, Row}
use Rattle.dexinsn.proofs.IndexRoom.{pool_of_first, first_is, units_in-some}

-- ---- the first unit

zero_byte : (u : ℕ) → u ≤ 0x00ff → (u / 256 == 0) ≡ true
zero_byte u le = let e : u / 256 ≡ 0 = omega (arith, le) in ap (λ (n : ℕ). n == 0) e

counted : (u : ℕ) → u ≤ 0x5fff → nat_le (u / 4096) 5 ≡ true
counted u le = le-leb (u / 4096) 5 (omega (arith, le))

begins : (f : Format) (u : ℕ) → u ≤ greatest_first f → is_first_unit f u ≡ true
begins F10x u le = zero_byte u le
begins F20t u le = zero_byte u le
begins F30t u le = zero_byte u le
begins F32x u le = zero_byte u le
begins F35c u le = counted u le
begins _ u le = refl

nop_greatest : greatest_at 0 ≡ 0x00ff
unfolding opcode_of opcode_runs
nop_greatest = refl

nop_is : (o : Opcode) × (opcode_of 0 ≡ Some o)
unfolding opcode_of opcode_runs
nop_is = (_, refl)

jumbo_greatest : greatest_at 0x1b ≡ 0
unfolding opcode_of opcode_runs
jumbo_greatest = refl

-- the opcode is used
opcode_there : (u : ℕ) (o : Option Opcode) → opcode_of (low_byte u) ≡ o → u ≤ greatest_at (low_byte u) → (p : Opcode) × (opcode_of (low_byte u) ≡ Some p)
opcode_there u (Some p) e le = (p, e)
opcode_there u None e le =
    let zero : u ≡ 0 = omega (arith, le, ap (λ (o : Option Opcode). option_map_or (λ (p : Opcode). greatest_first p.format) o 0) e) in (nop_is.0, ap (λ (n : ℕ). opcode_of (low_byte n)) zero ∙ nop_is.1)

-- the first unit is not that of a payload
not_ident : (k u : ℕ) (b : Bool) → low_byte k ≡ 0 → 0x00ff < k → u ≤ greatest_at (low_byte u) → (u == k) ≡ b → b ≡ false
not_ident k u true low big le e = let same : u ≡ k = eqb-true u k e in absurd (omega (arith, same, le, ap greatest_at (ap low_byte same ∙ low) ∙ nop_greatest, big))
not_ident k u false low big le e = refl

or_three : (a b c : Bool) → a ≡ false → b ≡ false → c ≡ false → (a || (b || c)) ≡ false
or_three a b c x y z = rw (x, y, z) refl

no_payload : (u : ℕ) → u ≤ greatest_at (low_byte u) → is_payload_ident u ≡ false
no_payload u le = or_three (u == 0x0100) (u == 0x0200) (u == 0x0300) (not_ident 0x0100 u (u == 0x0100) refl (omega arith) le refl) (not_ident 0x0200 u (u == 0x0200) refl (omega arith) le refl) (not_ident 0x0300 u (u == 0x0300) refl (omega arith) le refl)

-- and its index, if it has one, has 16 bits
not_jumbo : (u : ℕ) (b : Bool) → u ≤ greatest_at (low_byte u) → (low_byte u == 0x1b) ≡ b → b ≡ false
not_jumbo u true le e = let same : u % 256 ≡ 0x1b = eqb-true (low_byte u) 0x1b e in absurd (omega (arith, same, le, ap greatest_at same ∙ jumbo_greatest))
not_jumbo u false le e = refl

-- ---- the size

sized : (a b : Bool) (n : ℕ) → a ≡ true → b ≡ true → cond (a && b) (Some n) None ≡ Some n
sized a b n x y = rw (x, y) refl

plain_size : (us : List ℕ) (at : ℕ) (o : Opcode) → at + units_in o.format < length us → opcode_of (low_byte (slice_index us at)) ≡ Some o → is_payload_ident (slice_index us at) ≡ false → is_first_unit o.format (slice_index us at) ≡ true → piece_size at (drop at us) ≡ Some (units_in o.format)
plain_size us at o within is plain first =
    let here : slice_index (drop at us) 0 ≡ slice_index us at = get_or-drop at us 0 0 ∙ ap (slice_index us) (add-zero at) in
    let l : length (drop at us) ≡ length us - at = length-drop at us in
    let instruction : instruction_size (drop at us) ≡ Some (units_in o.format) =
    ap (option_and_then (λ (op : Opcode). cond (nat_le (units_in op.format) (length (drop at us)) && is_first_unit op.format (slice_index (drop at us) 0)) (Some (units_in op.format)) None)) (ap (λ (u : ℕ). opcode_of (low_byte u)) here ∙ is)
    ∙ sized (nat_le (units_in o.format) (length (drop at us))) (is_first_unit o.format (slice_index (drop at us) 0)) (units_in o.format) (le-leb (units_in o.format) (length (drop at us)) (omega (arith, within, l))) (ap (is_first_unit o.format) here ∙ first) in
    first_is at (drop at us) (omega (arith, l, within))
    ∙ cond-false (is_payload_ident (slice_index (drop at us) 0)) (cond (at % 2 == 0) (payload_size (drop at us)) None) (instruction_size (drop at us)) (ap is_payload_ident here ∙ plain) ∙ instruction

-- ---- the index

module _ (us : List ℕ) (m : Mentions) (at : ℕ) where
  none_counted : index_pool (drop at us) ≡ None → IndexCount us m at 0
  none_counted e = record {
    in_range = λ n. subst (λ (o : Option Pool). MatchOption o (Unit {0}) (λ pool. index_in (drop at us) < count_of (kind_of_pool pool) m)) (sym e) tt;
    counted = λ n. ap (λ (o : Option Pool). length (with_index_at o us (record { unit = at; units = n }) [])) e;
    few = omega arith;
    fit = λ n. subst (λ (o : Option Pool). All (FitsAt us) (with_index_at o us (record { unit = at; units = n }) [])) (sym e) (All-nil (FitsAt us));
  }

  one_counted : (pool : Pool) → index_pool (drop at us) ≡ Some pool → is_wide_index (drop at us) ≡ false → slice_index us (at + 1) < count_of (kind_of_pool pool) m → slice_index us (at + 1) < 2 ^ 16 → IndexCount us m at 1
  one_counted pool e narrow below small =
      let index : index_in (drop at us) ≡ slice_index us (at + 1) = cond-false (is_wide_index (drop at us)) (two_units (drop at us) 1) (slice_index (drop at us) 1) narrow ∙ get_or-drop at us 1 0 in
      record {
        in_range = λ n. subst (λ (o : Option Pool). MatchOption o (Unit {0}) (λ pool. index_in (drop at us) < count_of (kind_of_pool pool) m)) (sym e) (omega (arith, index, below));
        counted = λ n. ap (λ (o : Option Pool). length (with_index_at o us (record { unit = at; units = n }) [])) e;
        few = omega arith;
        fit = λ n. subst (λ (o : Option Pool). All (FitsAt us) (with_index_at o us (record { unit = at; units = n }) [])) (sym e)
            (All-cons (FitsAt us) (record { unit = at; number = index_in (drop at us) }) [] (omega (arith, index, cond-false (is_wide_index (drop at us)) (2 ^ 32) (2 ^ 16) narrow, small)) (All-nil (FitsAt us)));
      }

  counted_by : (o : Option Pool) → index_pool (drop at us) ≡ o → is_wide_index (drop at us) ≡ false → slice_index us (at + 1) < limit_of m (option_map kind_of_pool o) → slice_index us (at + 1) < 2 ^ 16 → IndexCount us m at (count_of_index (option_map kind_of_pool o))
  counted_by None e narrow below small = none_counted e
  counted_by (Some pool) e narrow below small = one_counted pool e narrow below small

-- ---- the whole

-- there is one unit at least
pub some_units : (u : ℕ) (row : Row) → IsRowOf (low_byte u) row → u ≤ row.greatest → 0 < row.units
some_units u row row_is least =
    let there = opcode_there u (opcode_of (low_byte u)) refl (omega (arith, least, row_is.greatest)) in
    omega (arith, row_is.units ∙ ap (λ (x : Option Opcode). option_map_or (λ (p : Opcode). units_in p.format) x 0) there.1, units_in-some there.0.format)

-- the number of units is that of the row
pub row_size : (us : List ℕ) (at : ℕ) (row : Row) → IsPlainRow us at row → piece_size at (drop at us) ≡ Some row.units
row_size us at row plain =
    let u = slice_index us at in
    let least_at : u ≤ greatest_at (low_byte u) = omega (arith, plain.least, plain.row_is.greatest) in
    let there = opcode_there u (opcode_of (low_byte u)) refl least_at in
    let units : row.units ≡ units_in there.0.format = plain.row_is.units ∙ ap (λ (x : Option Opcode). option_map_or (λ (p : Opcode). units_in p.format) x 0) there.1 in
    plain_size us at there.0 (omega (arith, plain.within, units)) there.1 (no_payload u least_at) (begins there.0.format u (omega (arith, plain.least, plain.row_is.greatest ∙ ap (λ (x : Option Opcode). option_map_or (λ (p : Opcode). greatest_first p.format) x 0) there.1))) ∙ ap Some (sym units)

pub plain_step : (us : List ℕ) (m : Mentions) (at : ℕ) (row : Row) → IsPlainRow us at row → slice_index us (at + 1) < limit_of m (kind_of_index row.index) → slice_index us (at + 1) < 2 ^ 16
    → IsStep us m at (record { units = row.units; indices = count_of_index (kind_of_index row.index); is_instruction = true; is_noted = row.branches })
plain_step us m at row plain below small =
    let u = slice_index us at in
    let least_at : u ≤ greatest_at (low_byte u) = omega (arith, plain.least, plain.row_is.greatest) in
    let ident : is_payload_ident u ≡ false = no_payload u least_at in
    let here : slice_index (drop at us) 0 ≡ u = get_or-drop at us 0 0 ∙ ap (slice_index us) (add-zero at) in
    let pool : index_pool (drop at us) ≡ option_and_then (λ (p : Opcode). p.index) (opcode_of (low_byte u)) = pool_of_first (drop at us) ∙ ap (λ (v : ℕ). option_and_then (λ (p : Opcode). p.index) (opcode_of (low_byte v))) here in
    let index : kind_of_index row.index ≡ option_map kind_of_pool (index_pool (drop at us)) = plain.row_is.index ∙ ap (option_map kind_of_pool) (sym pool) in
    let counted = counted_by us m at (index_pool (drop at us)) refl (ap (λ (v : ℕ). low_byte v == 0x1b) here ∙ not_jumbo u (low_byte u == 0x1b) least_at refl) (subst (λ (i : Option SymbolKind). slice_index us (at + 1) < limit_of m i) index below) small in
    record {
      size = row_size us at row plain;
      some = some_units u row plain.row_is plain.least;
      index = subst (λ (n : ℕ). IndexCount us m at n) (ap count_of_index (sym index)) counted;
      start_is = rw ident refl;
      noted_is = plain.row_is.branches ∙ rw ident refl;
    }
