use Rattle.dexcode.proofs.Common.{◌≡◌, ◌%◌, arith, common_steps, err_from_is_err_and}
use Rattle.dexcode.proofs.CodesRead.{even_none, odd_none}
use Rattle.dexcode.proofs.HandlersRead.{fault_so}
use Rattle.dexcode.proofs.tries_reader.TriesReader.read_tries.Goals as goal

pub returns-in_err-read_try_table-clause-fault : goal.returns-in_err-read_try_table-clause-fault
returns-in_err-read_try_table-clause-fault c =
    let p = err_from_is_err_and c.from_residual.result c.from_residual.ensures.1 in
    let some : c.u16_at-count.result ≡ 0 → ⊥ = λ e. grind (arith, common_steps) in
    let even : c.u32_at-units.result % 2 ≡ 0 = grind (arith, common_steps) in
    rw (p.1, p.2) (fault_so (even_none c.args.self.now.starts.now c.args.self.now.types c.args.self.now.bytes.now c.args.off c.u32_at-units.result c.u16_at-count.result c.u32_at-units.ensures c.u16_at-count.ensures some even) c.in_err-read_try_table.field-0.0 c.in_err-read_try_table.ensures.fault)

pub returns-in_err-read_try_table-2-clause-fault : goal.returns-in_err-read_try_table-2-clause-fault
returns-in_err-read_try_table-2-clause-fault c =
    let p = err_from_is_err_and c.from_residual-in_err-read_try_table-2.result c.from_residual-in_err-read_try_table-2.ensures.1 in
    let some : c.u16_at-count.result ≡ 0 → ⊥ = λ e. grind (arith, common_steps) in
    let none = odd_none c.args.self.now.starts.now c.args.self.now.types c.args.self.now.bytes.now c.args.off c.u32_at-units.result c.u16_at-count.result c.u32_at-units.ensures c.u16_at-count.ensures some (λ e. grind (arith, common_steps)) in
    rw (p.1, p.2) (fault_so none c.in_err-read_try_table-2.field-0.0 c.in_err-read_try_table-2.ensures.fault)
