use Rattle.dexdebug.proofs.Common.{◌+◌, ◌++◌, [], ◌∷◌, refl, length, length-append, ap, sym, ◌∙◌, arith, append-nil, nil_from_length, flat_map, indices_of}
use Rattle.dexdebug.proofs.DebugRuns.{all_operations_built, are_tallied, more_symbols, no_operations_built, opcode_some, next_operation, room_for_next}
use Rattle.dexdebug.proofs.debug_reading.DebugReader.keep_symbols.Goals as goal

pub returns-then-shape-eq0-clause-kept : goal.returns-then-shape-eq0-clause-kept
returns-then-shape-eq0-clause-kept c =
    let t = c.requires.tallied in
    record {
      operations = t.operations;
      are = are_tallied c.args.self.now.counts c.args.self.now.bytes.now c.args.shape.operations_at c.args.shape.tally t;
      kept = sym (append-nil c.args.indices.now.items) ∙ ap (λ is. c.args.indices.now.items ++ is) (sym (nil_from_length (flat_map indices_of t.operations) (omega (arith, t.indices))));
    }

pub loop-init : goal.loop-init
loop-init c = record {
  symbols = record { operations = []; built = no_operations_built c.args.self.now.counts c.args.self.now.bytes.now c.args.shape.operations_at c.args.shape.tally [] c.requires.tallied refl; kept = sym (append-nil c.args.indices.now.items) };
  capacity = refl;
}

pub operation_at-requires-clause-some : goal.operation_at-requires-clause-some
operation_at-requires-clause-some c = let had = c.loop.invariant.symbols in opcode_some c.args.self.now.counts c.args.self.now.bytes.now c.args.shape.operations_at c.args.shape.tally c.loop.counter c.loop.at had.operations had.built c.loop-test.true

pub unwrap-operation-requires : goal.unwrap-operation-requires
unwrap-operation-requires c =
    (next_operation c.args.self.now.counts c.args.self.now.bytes.now c.args.shape.operations_at c.args.shape.tally c.loop.counter c.loop.at c.loop.invariant.symbols.operations c.operation_at.result c.loop.invariant.symbols.built c.loop-test.true c.operation_at.ensures.only).some

pub keep_indices-requires-clause-room : goal.keep_indices-requires-clause-room
keep_indices-requires-clause-room c =
    let had = c.loop.invariant.symbols in
    let next = next_operation c.args.self.now.counts c.args.self.now.bytes.now c.args.shape.operations_at c.args.shape.tally c.loop.counter c.loop.at had.operations c.operation_at.result had.built c.loop-test.true c.operation_at.ensures.only in
    let built = next.built c.unwrap-operation.result (had.operations ++ c.unwrap-operation.result.0 ∷ []) c.unwrap-operation.ensures refl in
    let fits = room_for_next c.args.self.now.counts c.args.self.now.bytes.now c.args.shape.operations_at c.args.shape.tally (c.loop.counter + 1) (c.loop.at + (1 + c.unwrap-operation.result.1)) had.operations c.unwrap-operation.result.0 built in
    omega (arith, fits, c.loop.indices.ok.0, c.args.indices.now.ok.0, ap length had.kept, length-append c.args.indices.now.items (flat_map indices_of had.operations), c.requires.room, c.loop.invariant.capacity)

pub loop-preserved : goal.loop-preserved
loop-preserved c =
    let had = c.loop.invariant.symbols in
    let next = next_operation c.args.self.now.counts c.args.self.now.bytes.now c.args.shape.operations_at c.args.shape.tally c.loop.counter c.loop.at had.operations c.operation_at.result had.built c.loop-test.true c.operation_at.ensures.only in
    record {
      symbols = more_symbols c.args.self.now.counts c.args.self.now.bytes.now c.args.shape.operations_at c.args.shape.tally c.loop.counter c.loop.at c.args.indices.now.items c.loop.indices.items c.keep_indices.new.indices.items c.unwrap-operation.result had (λ more e. next.built c.unwrap-operation.result more c.unwrap-operation.ensures e) c.keep_indices.ensures.kept;
      capacity = c.keep_indices.ensures.capacity ∙ c.loop.invariant.capacity;
    }

pub returns-clause-kept : goal.returns-clause-kept
returns-clause-kept c =
    let had = c.loop.invariant.symbols in record {
      operations = had.operations;
      are = all_operations_built c.args.self.now.counts c.args.self.now.bytes.now c.args.shape.operations_at c.args.shape.tally c.loop.counter c.loop.at had.operations had.built (omega (arith, c.loop-test.false));
      kept = had.kept;
    }

pub returns-clause-full : goal.returns-clause-full
returns-clause-full c =
    let had = c.loop.invariant.symbols in
    let all = all_operations_built c.args.self.now.counts c.args.self.now.bytes.now c.args.shape.operations_at c.args.shape.tally c.loop.counter c.loop.at had.operations had.built (omega (arith, c.loop-test.false)) in
    omega (arith, all.indices, c.loop.indices.ok.0, c.args.indices.now.ok.0, ap length had.kept, length-append c.args.indices.now.items (flat_map indices_of had.operations), c.requires.room, c.loop.invariant.capacity)
