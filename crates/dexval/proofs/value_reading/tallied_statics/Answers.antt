use Rattle.dexval.proofs.Common.{List, ℕ, sym, subst, arith, most_depth, ArePools, NoArrayAt, AreReadAt, values_of}
use Rattle.std.proofs.lemmas.Result.{IfErr-weaker, IfOk-weaker}
use Rattle.dexval.proofs.FileRead.{file_pools, no_statics}
use Rattle.dexval.proofs.Refusals.{refuses_so}
use Rattle.dexval.proofs.value_reading.tallied_statics.Goals as goal

pub returns-clause-values : goal.returns-clause-values
returns-clause-values c = λ p.
    let pools = file_pools c.bytes-bytes.result.now c.args.pools.now c.numbering.result.now c.numbering.ensures c.is_numbering.ensures (subst (λ (b : List ℕ). ArePools b c.args.pools.now) (sym c.bytes-bytes.ensures.bytes) p) in
    IfOk-weaker c.array_at.result _ _
    (λ read is.
    let h = subst (λ (b : List ℕ). AreReadAt b c.args.off c.args.pools.now most_depth (values_of read.0.items) read.1.size) c.bytes-bytes.ensures.bytes is in
    record { known = h.known; at = (read.1.size, record { in_data = omega arith; array = h.encodes; shallow = h.shallow }) })
    (c.array_at.ensures.read pools)

pub returns-clause-refused : goal.returns-clause-refused
returns-clause-refused c = λ p.
    let pools = file_pools c.bytes-bytes.result.now c.args.pools.now c.numbering.result.now c.numbering.ensures c.is_numbering.ensures (subst (λ (b : List ℕ). ArePools b c.args.pools.now) (sym c.bytes-bytes.ensures.bytes) p) in
    IfErr-weaker c.array_at.result _ _
    (refuses_so 21 (λ none. no_statics c.args.frame.now c.args.off (subst (λ (b : List ℕ). NoArrayAt b c.args.off most_depth) c.bytes-bytes.ensures.bytes none)))
    (c.array_at.ensures.refused pools)
