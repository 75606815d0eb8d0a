use Rattle.dexinsn.proofs.Common.{drop, arith, length-drop, begins_instruction, is_noted}
use Rattle.dexinsn.proofs.IndexRoom.{piece_size-fits}
use Rattle.dexinsn.proofs.Passed.{bits_put, no_step, one_passed}
use Rattle.dexinsn.proofs.piece_step.pass.Goals as goal

pub put_bit-requires : goal.put_bit-requires
put_bit-requires c = omega (arith, c.loop-at.invariant.starts_are.room)

pub put_bit-requires-in-loop-at : goal.put_bit-requires-in-loop-at
put_bit-requires-in-loop-at c = omega (arith, c.loop-at.invariant.noted_are.room)

pub returns-in_err-step-clause-none : goal.returns-in_err-step-clause-none
returns-in_err-step-clause-none c = rw c.from_residual.ensures (no_step c.args.units.now c.args.pools.now c.loop-at.starts.items c.loop-at.noted.items c.loop-at.at c.loop-at.indices c.loop-at.invariant (omega arith) c.in_err-step.ensures)

pub loop-at-preserved : goal.loop-at-preserved
loop-at-preserved c =
    let at = c.loop-at.at in
    let is = c.in_ok-step.ensures in
    one_passed c.args.units.now c.args.pools.now c.loop-at.starts.items c.loop-at.noted.items c.put_bit.new.words.items c.put_bit-in-loop-at.new.words.items at c.loop-at.indices c.in_ok-step.step.units c.in_ok-step.step.indices c.loop-at.invariant (omega arith) is.size is.some is.index
    (λ cs n. bits_put begins_instruction c.args.units.now cs (record { unit = at; units = n }) c.loop-at.starts.items c.put_bit.new.words.items c.in_ok-step.step.is_instruction is.start_is (omega arith) c.put_bit.ensures.len c.put_bit.ensures.set c.put_bit.ensures.others)
    (λ cs n. bits_put is_noted c.args.units.now cs (record { unit = at; units = n }) c.loop-at.noted.items c.put_bit-in-loop-at.new.words.items c.in_ok-step.step.is_noted is.noted_is (omega arith) c.put_bit-in-loop-at.ensures.len c.put_bit-in-loop-at.ensures.set c.put_bit-in-loop-at.ensures.others)

pub overflow_add-at : goal.overflow_add-at
overflow_add-at c = let us = c.args.units.now in let at = c.loop-at.at in omega (arith, (piece_size-fits at (drop at us) c.in_ok-step.step.units c.in_ok-step.ensures.size).1, length-drop at us, c.requires.few)
