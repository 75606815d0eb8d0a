use Rattle.dexdebug.proofs.Common.{ap, subst, All, flat_map, All-head, All-tail, completes_all, completes_more, IsFormedOperation, numbered_operation_bytes}
use Rattle.dexdebug.proofs.debug_put.encode_operations.Goals as goal

pub encode-requires : goal.encode-requires
encode-requires g c = All-head IsFormedOperation c.in-Some.operation c.next.new.self (subst (All IsFormedOperation) c.in-Some.ensures.steps c.loop-operation.invariant.formed)

pub loop-operation-preserved : goal.loop-operation-preserved
loop-operation-preserved g c =
    record {
      formed = All-tail IsFormedOperation c.in-Some.operation c.next.new.self (subst (All IsFormedOperation) c.in-Some.ensures.steps c.loop-operation.invariant.formed);
      completes = completes_more g.O.Output.gives g.met.O.Output.both (numbered_operation_bytes c.in-Some.operation) (flat_map numbered_operation_bytes c.next.new.self) (flat_map numbered_operation_bytes c.loop-operation.operation-iterator) (flat_map numbered_operation_bytes c.args.operations)
          c.args.out.now c.loop-operation.out c.encode.new.out (ap (flat_map numbered_operation_bytes) c.in-Some.ensures.steps) c.loop-operation.invariant.completes c.encode.ensures;
    }

pub returns : goal.returns
returns g c =
    completes_all g.O.Output.gives g.met.O.Output.nothing (flat_map numbered_operation_bytes c.loop-operation.operation-iterator) (flat_map numbered_operation_bytes c.args.operations) c.args.out.now c.loop-operation.out
    (ap (flat_map numbered_operation_bytes) c.in-None.ensures.steps.0) c.loop-operation.invariant.completes
