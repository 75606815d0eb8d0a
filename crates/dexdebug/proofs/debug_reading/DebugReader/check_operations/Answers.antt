use Rattle.dexdebug.proofs.Common.{get_or, arith}
use Rattle.dexdebug.proofs.DebugRuns.{byte_encoded, one_more_checked, no_operation, no_end}
use Rattle.dexdebug.proofs.debug_reading.DebugReader.check_operations.Goals as goal

pub returns-in_err-operation : goal.returns-in_err-operation
returns-in_err-operation c = rw c.from_residual.ensures (no_operation c.args.self.now.counts c.args.self.now.bytes.now c.args.from c.loop-at.at (get_or c.args.self.now.bytes.now c.loop-at.at 0) c.loop-at.invariant.operations c.loop-at.invariant.so_far (byte_encoded c.args.self.now.bytes.now c.loop-at.at c.loop-at-test.true) (omega arith) c.in_err-operation.ensures.only)

pub loop-at-preserved : goal.loop-at-preserved
loop-at-preserved c =
    one_more_checked c.args.self.now.counts c.args.self.now.bytes.now c.args.from c.loop-at.at (get_or c.args.self.now.bytes.now c.loop-at.at 0) c.loop-at.operations c.loop-at.indices c.loop-at.weight c.in_ok-operation.operation c.in_ok-operation.len c.operands.result c.index_count-indices.result c.loop-at.invariant c.in_ok-operation.ensures.within
    (byte_encoded c.args.self.now.bytes.now c.loop-at.at c.loop-at-test.true) (omega arith) (omega arith) c.in_ok-operation.ensures.found c.in_ok-operation.ensures.only c.operands.ensures.count c.operands.ensures.few c.index_count-indices.ensures.count c.index_count-indices.ensures.few

pub returns : goal.returns
returns c = no_end c.args.self.now.counts c.args.self.now.bytes.now c.args.from c.loop-at.at c.loop-at.invariant.operations c.loop-at.invariant.so_far (omega arith)
