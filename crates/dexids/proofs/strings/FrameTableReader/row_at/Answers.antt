use Rattle.dexids.proofs.Common.{length, take, drop, ap, ◌≡◌, ℕ, List, sym, ◌∙◌, subst, arith, uint_at, StringIds, row_at, StringDataAt}
use Rattle.std.specs.Prelude.{IfOk, IfSome, IfNone, MatchOption, ◌<◌, ◌≤◌}
use Rattle.std.proofs.Common.{Option, Some, None, Result, Ok, Err}
use Rattle.dexspec.specs.Header.{table_size, data_off}
use Rattle.dexspec.specs.Rows.{StringRow, HasString}
use Rattle.dexids.proofs.Bytes.{uint_at_row, no_text_after}
use Rattle.dexids.proofs.strings.FrameTableReader.row_at.Goals as goal

at_is : (b row : List ℕ) (i at : ℕ) → at ≡ uint_at row 0 → row ≡ take 4 (drop (row_at b StringIds i) b) → at ≡ uint_at b (row_at b StringIds i)
at_is b row i at e is = e ∙ uint_at_row b row (row_at b StringIds i) 4 0 _ is (omega arith) (omega arith)

pub returns-then-at-data_off-clause-row : goal.returns-then-at-data_off-clause-row
returns-then-at-data_off-clause-row c = λ holds. omega (arith, holds.is.in_data, at_is c.args.self.now c.row.result.now c.args.i _ c.u32_at-at.ensures c.row.ensures.bytes, c.data_off.ensures.off, c.if-at-data_off.true)

pub returns-then-bytes-at-clause-row : goal.returns-then-bytes-at-clause-row
returns-then-bytes-at-clause-row c = λ holds.
    no_text_after c.args.self.now _ holds.is.encodes.0 holds.text (omega (arith, c.if-bytes-at.true, at_is c.args.self.now c.row.result.now c.args.i _ c.u32_at-at.ensures c.row.ensures.bytes, ap (λ (b : List ℕ). length b) c.bytes.ensures.bytes)) holds.is.encodes.1

-- the row is that of the text that was read, and there is none where none was
row_is : {E : Type 0} (b : List ℕ) (i at : ℕ) (r : Result (Option (List ℕ)) E) → i < table_size b StringIds → data_off b ≤ at → at ≡ uint_at b (row_at b StringIds i)
    → IfOk r (λ found. IfSome found (λ s. (n : ℕ) × StringDataAt b at s n)) → IfOk r (λ found. IfNone found ((s : List ℕ) (n : ℕ) → ¬ StringDataAt b at s n))
    → IfOk r (λ found. MatchOption found (HasString b i → ⊥) (StringRow b i))
row_is b i at (Ok (Some s)) row within is some none = record { row = row; in_data = omega (arith, within, is); encodes = (some.0, subst (λ o. StringDataAt b o s some.0) is some.1) }
row_is b i at (Ok None) row within is some none = λ holds. none holds.text holds.is.encodes.0 (subst (λ o. StringDataAt b o holds.text holds.is.encodes.0) (sym is) holds.is.encodes.1)
row_is b i at (Err e) row within is some none = tt

pub returns-clause-row : goal.returns-clause-row
returns-clause-row c = row_is c.args.self.now c.args.i c.u32_at-at.result c.read.result c.requires.row (omega (arith, c.if-at-data_off.false, c.data_off.ensures.off)) (at_is c.args.self.now c.row.result.now c.args.i _ c.u32_at-at.ensures c.row.ensures.bytes) (rw c.requires.memory at c.read.ensures.found) (rw c.requires.memory at c.read.ensures.none)
