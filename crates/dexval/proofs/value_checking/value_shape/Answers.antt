use Rattle.dexval.proofs.Common.{ℕ, List, sym, subst, arith, most_depth, ArePools, HasValue, NoValueAt}
use Rattle.dexval.proofs.FileRead.{file_pools, no_value}
use Rattle.dexval.proofs.FileChecked.{value_checked}
use Rattle.dexval.proofs.value_checking.value_shape.Goals as goal

pub returns : goal.returns
returns c = λ pools.
    let h = c.in_ok-value.ensures.checked (file_pools c.bytes-bytes.result.now c.args.pools.now c.numbering.result.now c.numbering.ensures c.is_numbering.ensures (subst (λ (b : List ℕ). ArePools b c.args.pools.now) (sym c.bytes-bytes.ensures.bytes) pools)) in
    value_checked c.args.frame.now c.args.off c.args.pools.now c.in_ok-value.value.size c.in_ok-value.value.weight (omega arith) (subst (λ (b : List ℕ). HasValue b c.args.off c.args.pools.now most_depth c.in_ok-value.value.size c.in_ok-value.value.weight) c.bytes-bytes.ensures.bytes h)

pub returns-in_err-value : goal.returns-in_err-value
returns-in_err-value c = rw c.from_residual.ensures (λ pools.
    let none = c.in_err-value.ensures.checked (file_pools c.bytes-bytes.result.now c.args.pools.now c.numbering.result.now c.numbering.ensures c.is_numbering.ensures (subst (λ (b : List ℕ). ArePools b c.args.pools.now) (sym c.bytes-bytes.ensures.bytes) pools)) in
    no_value c.args.frame.now c.args.off (subst (λ (b : List ℕ). NoValueAt b c.args.off most_depth) c.bytes-bytes.ensures.bytes none))
