use Rattle.dexval.proofs.Common.{◌+◌, ℕ, List, refl, sym, subst, arith, most_depth, ArePools, HasArray, NoArrayAt}
use Rattle.dexval.proofs.FileRead.{file_pools, no_statics}
use Rattle.dexval.proofs.FileChecked.{statics_checked}
use Rattle.dexval.proofs.value_checking.statics_shape.Goals as goal

pub returns-in_err-count : goal.returns-in_err-count
returns-in_err-count c = rw c.from_residual.ensures (λ pools.
    let none = c.in_err-count.ensures.checked (file_pools c.bytes-bytes.result.now c.args.pools.now c.numbering.result.now c.numbering.ensures c.is_numbering.ensures (subst (λ (b : List ℕ). ArePools b c.args.pools.now) (sym c.bytes-bytes.ensures.bytes) pools)) in
    no_statics c.args.frame.now c.args.off (subst (λ (b : List ℕ). NoArrayAt b c.args.off most_depth) c.bytes-bytes.ensures.bytes none))

pub returns-then-count-eq0 : goal.returns-then-count-eq0
returns-then-count-eq0 c = λ pools.
    let h = c.in_ok-count.ensures.checked (file_pools c.bytes-bytes.result.now c.args.pools.now c.numbering.result.now c.numbering.ensures c.is_numbering.ensures (subst (λ (b : List ℕ). ArePools b c.args.pools.now) (sym c.bytes-bytes.ensures.bytes) pools)) in
    statics_checked c.args.frame.now c.args.off c.args.pools.now c.in_ok-count.count c.in_ok-count.values.size c.in_ok-count.values.weight 0 (omega arith) (λ none. refl) (λ some. absurd (some c.if-count-eq0.true))
    (subst (λ (b : List ℕ). HasArray b c.args.off c.args.pools.now most_depth c.in_ok-count.count c.in_ok-count.values.size c.in_ok-count.values.weight) c.bytes-bytes.ensures.bytes h)

pub returns-else-count-eq0 : goal.returns-else-count-eq0
returns-else-count-eq0 c = λ pools.
    let h = c.in_ok-count.ensures.checked (file_pools c.bytes-bytes.result.now c.args.pools.now c.numbering.result.now c.numbering.ensures c.is_numbering.ensures (subst (λ (b : List ℕ). ArePools b c.args.pools.now) (sym c.bytes-bytes.ensures.bytes) pools)) in
    statics_checked c.args.frame.now c.args.off c.args.pools.now c.in_ok-count.count c.in_ok-count.values.size c.in_ok-count.values.weight (6 + c.in_ok-count.values.weight) (omega arith) (λ none. absurd (c.if-count-eq0.false none)) (λ some. refl)
    (subst (λ (b : List ℕ). HasArray b c.args.off c.args.pools.now most_depth c.in_ok-count.count c.in_ok-count.values.size c.in_ok-count.values.weight) c.bytes-bytes.ensures.bytes h)
