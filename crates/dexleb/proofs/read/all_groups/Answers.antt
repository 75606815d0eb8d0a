use Rattle.std.proofs.Common.{◌≤◌, inl, inr, arith}
use Rattle.std.proofs.lemmas.List.Elements.{All-more}
use Rattle.dexleb.proofs.First.{sum_more, sum_more_fits, first_here, no_first}
use Rattle.dexleb.proofs.read.all_groups.Goals as goal

pub overflow_add-sum : goal.overflow_add-sum
overflow_add-sum c = omega (arith, sum_more_fits c.args.bytes.now c.loop-i.i c.loop-i.sum c.from.result (omega arith) (omega arith) c.from.ensures c.loop-i.invariant.sum)

pub returns-then-byte-lt128-clause-first : goal.returns-then-byte-lt128-clause-first
returns-then-byte-lt128-clause-first c =
    first_here c.args.bytes.now c.loop-i.i c.loop-i.sum c.from.result (omega arith) (omega arith) c.from.ensures c.loop-i.invariant.sum c.loop-i.invariant.high c.if-byte-lt128.true

pub loop-i-preserved : goal.loop-i-preserved
loop-i-preserved c = record {
  sum = sum_more c.args.bytes.now c.loop-i.i c.loop-i.sum c.from.result (omega arith) (omega arith) c.from.ensures c.loop-i.invariant.sum;
  high = All-more (λ byte. 128 ≤ byte) c.args.bytes.now c.loop-i.i 0 (omega arith) c.loop-i.invariant.high (omega arith);
}

pub returns-then-bytes-lt-MAX_LEN-clause-none : goal.returns-then-bytes-lt-MAX_LEN-clause-none
returns-then-bytes-lt-MAX_LEN-clause-none c = no_first c.args.bytes.now c.loop-i.i (inr (omega arith)) c.loop-i.invariant.high

pub returns-else-bytes-lt-MAX_LEN-clause-none : goal.returns-else-bytes-lt-MAX_LEN-clause-none
returns-else-bytes-lt-MAX_LEN-clause-none c = no_first c.args.bytes.now c.loop-i.i (inl (omega arith)) c.loop-i.invariant.high
