use Rattle.dexdebug.proofs.Common.{true, false, refl, sym, ◌∙◌, ◌+◌, ◌∷◌, [], length, map, ap, subst, arith, length-append, All-head, All-tail, All, pos, ints, to_z-of_z, IsFormedOperation, unindexed_operation}
use Rattle.dexdebug.specs.Positions as recorded
use Rattle.dexdebug.proofs.DebugPositions.{position_more}
use Rattle.dexdebug.proofs.debug_positions.positions_from.Goals as goal

pub address_step-address-requires : goal.address_step-address-requires
address_step-address-requires c = (All-head IsFormedOperation c.in-Some.operation c.next.new.self (subst (All IsFormedOperation) c.in-Some.ensures.steps c.loop-operation.invariant.formed)).is_special

pub line_step-line-requires : goal.line_step-line-requires
line_step-line-requires c = (All-head IsFormedOperation c.in-Some.operation c.next.new.self (subst (All IsFormedOperation) c.in-Some.ensures.steps c.loop-operation.invariant.formed)).is_special

pub loop-operation-preserved : goal.loop-operation-preserved
loop-operation-preserved c =
    let had = c.loop-operation.invariant in
    let more = length-append c.loop-operation.yielded (c.in-Some.operation ∷ []) in
    record {
      count = omega (arith, had.count, more, ap length c.in-Some.ensures.steps);
      formed = All-tail IsFormedOperation c.in-Some.operation c.next.new.self (subst (All IsFormedOperation) c.in-Some.ensures.steps had.formed);
      address = omega (arith, had.address, more, c.address_step-address.ensures.small);
      low = omega (arith, ints, had.low, more, c.line_step-line.ensures.low);
      high = omega (arith, ints, had.high, more, c.line_step-line.ensures.high);
      rest = position_more c.loop-operation.operation-iterator c.in-Some.operation c.next.new.self c.loop-operation.found.items c.loop-operation.found.items
          (recorded.positions_from 0 (pos c.args.line_start) (map unindexed_operation c.args.operations)) c.loop-operation.address (c.loop-operation.address + c.address_step-address.result) _ _ false
          c.in-Some.ensures.steps had.rest (ap (λ k. c.loop-operation.address + k) c.address_step-address.ensures.step) (grind (arith, ints, to_z-of_z)) (sym c.if-is_special.false ∙ c.is_special.ensures) refl;
    }

pub loop-operation-preserved-in-Continue-1 : goal.loop-operation-preserved-in-Continue-1
loop-operation-preserved-in-Continue-1 c =
    let had = c.loop-operation.invariant in
    let more = length-append c.loop-operation.yielded (c.in-Some.operation ∷ []) in
    record {
      count = omega (arith, had.count, more, ap length c.in-Some.ensures.steps);
      formed = All-tail IsFormedOperation c.in-Some.operation c.next.new.self (subst (All IsFormedOperation) c.in-Some.ensures.steps had.formed);
      address = omega (arith, had.address, more, c.address_step-address.ensures.small);
      low = omega (arith, ints, had.low, more, c.line_step-line.ensures.low);
      high = omega (arith, ints, had.high, more, c.line_step-line.ensures.high);
      rest = position_more c.loop-operation.operation-iterator c.in-Some.operation c.next.new.self c.loop-operation.found.items c.push.new.self.items
          (recorded.positions_from 0 (pos c.args.line_start) (map unindexed_operation c.args.operations)) c.loop-operation.address (c.loop-operation.address + c.address_step-address.result) _ _ true
          c.in-Some.ensures.steps had.rest (ap (λ k. c.loop-operation.address + k) c.address_step-address.ensures.step) (grind (arith, ints, to_z-of_z)) (sym c.if-is_special.true ∙ c.is_special.ensures) c.in_ok-push.ensures.items;
    }
