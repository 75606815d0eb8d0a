use Rattle.dexdebug.proofs.Common.{ℕ, ◌+◌, length, sym, subst, arith, Uleb128At}
use Rattle.dexdebug.proofs.DebugRead.{some_parts}
use Rattle.dexdebug.proofs.DebugRuns.{no_names, no_operations}
use Rattle.dexdebug.proofs.debug_reading.DebugReader.check_numbered.Goals as goal

pub returns-in_err-names : goal.returns-in_err-names
returns-in_err-names c = rw c.from_residual-in_err-names.ensures (λ d h.
    let r = some_parts (c.in_ok-line_start.line_start, c.in_ok-line_start.start_len) (d.line_start, h.start_size) (c.in_ok-line_start.ensures.only d.line_start h.start_size h.at_start) in
    let e = c.in_err-names.ensures.only (length d.parameter_names) h.count_size (subst (λ (k : ℕ). Uleb128At c.args.self.now.bytes.now (c.args.at + k) (length d.parameter_names) h.count_size) (sym r.1) h.at_count) in
    absurd cc)

pub returns-in_err-operations_at : goal.returns-in_err-operations_at
returns-in_err-operations_at c = rw c.from_residual-in_err-operations_at.ensures (no_names c.args.self.now.counts c.args.self.now.bytes.now c.args.at (c.in_ok-line_start.line_start, c.in_ok-line_start.start_len) (c.in_ok-names.names, c.in_ok-names.count_len) (record { starts = c.in_ok-line_start.ensures.only; counts = c.in_ok-names.ensures.only }) c.in_err-operations_at.ensures)

pub returns-in_err-tally : goal.returns-in_err-tally
returns-in_err-tally c = rw c.from_residual-in_err-tally.ensures (no_operations c.args.self.now.counts c.args.self.now.bytes.now c.args.at c.in_ok-operations_at.operations_at (c.in_ok-line_start.line_start, c.in_ok-line_start.start_len) (c.in_ok-names.names, c.in_ok-names.count_len) (record { starts = c.in_ok-line_start.ensures.only; counts = c.in_ok-names.ensures.only }) c.in_ok-operations_at.ensures c.in_err-tally.ensures)

pub overflow_add-result-2 : goal.overflow_add-result-2
overflow_add-result-2 c = let t = c.in_ok-tally.ensures in omega (arith, t.light, t.count, t.few)
