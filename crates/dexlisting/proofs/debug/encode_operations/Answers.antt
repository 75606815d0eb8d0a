use Rattle.std.proofs.Common.{◌≡◌, ◌+◌, ◌∷◌, [], length, map, ap, subst, arith, length-append, pos, ◌+ℤ◌}
use Rattle.std.specs.Prelude.{All}
use Rattle.std.proofs.lemmas.Int.{ints, to_z-of_z}
use Rattle.std.proofs.lemmas.List.Elements.{All-head, All-tail}
use Rattle.dexio.proofs.Encoded.{completes_more}
use Rattle.dexdebug.specs.Meaning.{operation_in, IsKnownOperation}
use Rattle.dexlisting.specs.FullListing.{operation_line, operation_lines}
use Rattle.dexlisting.proofs.DebugLines.{operation_next}
use Rattle.dexlisting.proofs.debug.encode_operations.Goals as goal

pub loop-operation-preserved : goal.loop-operation-preserved
loop-operation-preserved g c =
    let m = c.args.numbering.now in
    let had = c.loop-operation.invariant in
    let more = length-append c.loop-operation.yielded (c.in-Some.operation ∷ []) in
    record {
      count = omega (arith, had.count, more, ap length c.in-Some.ensures.steps);
      known = All-tail (IsKnownOperation m) c.in-Some.operation c.next.new.self (subst (All (IsKnownOperation m)) c.in-Some.ensures.steps had.known);
      address = omega (arith, had.address, more, c.address_step-address.ensures.small);
      low = omega (arith, ints, had.low, more, c.line_step-line.ensures.low);
      high = omega (arith, ints, had.high, more, c.line_step-line.ensures.high);
      completes = completes_more g.O.Output.gives g.met.O.Output.both _ _ _ _ _ _ _
          (operation_next m c.loop-operation.operation-iterator c.in-Some.operation c.next.new.self c.loop-operation.address (c.loop-operation.address + c.address_step-address.result) _ _ c.in-Some.ensures.steps
          (ap (λ k. c.loop-operation.address + k) (c.address_step-address.ensures.step m)) (grind (arith, ints, to_z-of_z))) had.completes c.encode_operation_line.ensures;
    }
