use Rattle.std.proofs.Common.{arith}
use Rattle.dexkit_c.proofs.Reading.{read_more, all_read, unread}
use Rattle.dexkit_c.proofs.merging.read_each.Goals as goal

pub loop-i-init : goal.loop-i-init
loop-i-init c = rw c.new-programs.ensures.items tt

pub returns-in-Err-clause-fault : goal.returns-in-Err-clause-fault
returns-in-Err-clause-fault c = rw c.fault_of.ensures (unread (λ file. file.bytes.now) c.args.files.now c.loop-i.i _ c.loop-i.programs.items c.in-Err.why c.loop-i-test.true c.loop-i.invariant c.in-Err.ensures.refused)

pub loop-i-preserved : goal.loop-i-preserved
loop-i-preserved c = rw c.in_ok-push.ensures.items (read_more (λ file. file.bytes.now) c.args.files.now c.loop-i.i _ c.loop-i.programs.items c.in-Ok.program c.loop-i-test.true c.loop-i.invariant c.in-Ok.ensures.accepted)

pub returns-clause-read : goal.returns-clause-read
returns-clause-read c = all_read (λ file. file.bytes.now) c.args.files.now c.loop-i.i c.loop-i.programs.items (omega (arith, c.loop-i-test.false, c.loop-i.auto.i-end)) c.loop-i.invariant
