use Rattle.dexrows.proofs.Common.{◌-◌, arith}
use Rattle.dexrows.proofs.MergeSteps.{sorted_more, not_sorted}
use Rattle.dexrows.proofs.sort_order.is_sorted.Goals as goal

pub returns-then-not-is_lt : goal.returns-then-not-is_lt
returns-then-not-is_lt g c = (λ e. absurd cc, λ sorted. absurd (not_sorted g.R.Row.key_of c.args.rows.now (c.loop-i.i - 1) c.loop-i.i c.index-rows-i.result c.index-rows-i-in-loop-i.result c.compare-order.result (omega arith) (omega arith) c.index-rows-i.is c.index-rows-i-in-loop-i.is c.compare-order.ensures c.if-not-is_lt.ensures sorted))

pub loop-i-preserved : goal.loop-i-preserved
loop-i-preserved g c = sorted_more g.R.Row.key_of c.args.rows.now (c.loop-i.i - 1) c.loop-i.i c.index-rows-i.result c.index-rows-i-in-loop-i.result c.compare-order.result (omega arith) (omega arith) c.index-rows-i.is c.index-rows-i-in-loop-i.is c.compare-order.ensures c.if-not-is_lt.ensures c.loop-i.invariant
