use Rattle.dexcanon.proofs.Common.{◌++◌, map, arith, class_digest}
use Rattle.std.specs.Prelude.{reverse}
use Rattle.dexcanon.proofs.Digested.{one_digest, digests_more}
use Rattle.dexcanon.proofs.digest.+put_digests.Goals as goal

pub returns-then-count-eq1 : goal.returns-then-count-eq1
returns-then-count-eq1 t c =
    one_digest c.args.part c.in_ok-program.program c.in_ok-signature.field-0 c.args.digests.now.items c.push.new.self.items (omega (arith, c.len-count.ensures, c.if-count-eq1.true)) c.in_ok-program.ensures c.in_ok-signature.ensures c.in_ok-push.ensures.items

pub loop-alloc-preserved : goal.loop-alloc-preserved
loop-alloc-preserved t c =
    digests_more (c.args.digests.now.items ++ reverse (map class_digest c.args.part)) c.loop-alloc.digests.items c.put_digests.new.digests.items c.loop-alloc.parts c.split_off.new.self c.in_ok-last.last c.saturating_sub.result
    c.loop-alloc.invariant c.in_ok-last.ensures.left c.in_ok-last.ensures.part c.in_ok-put_digests.ensures
