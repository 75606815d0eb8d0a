use Rattle.dexdebug.proofs.Common.{[], append-nil, refl, sym, arith, rules}
use Rattle.dexdebug.proofs.DebugRuns.{all_names_built, more_names, index_formed, next_name, no_names_built}
use Rattle.dexdebug.proofs.debug_reading.DebugReader.keep_names.Goals as goal

pub loop-init : goal.loop-init
loop-init c = record {
  names = record { names = []; within = c.requires.within; built = no_names_built c.args.self.now.counts.texts c.args.self.now.bytes.now c.args.shape.names_at c.args.shape.names [] c.requires.are_encoded refl; kept = sym (append-nil c.args.indices.now.items) };
  room = omega (arith, c.requires.room);
}

pub unwrap-name-requires : goal.unwrap-name-requires
unwrap-name-requires c =
    let had = c.loop.invariant.names in (next_name c.args.self.now.counts.texts c.args.self.now.bytes.now c.args.shape.names_at c.args.shape.names c.loop.counter c.loop.at had.names c.index_at.result had.built c.loop-test.true c.index_at.ensures.only).some

pub new-requires : goal.new-requires
new-requires c = index_formed c.args.self.now.counts.texts c.args.self.now.bytes.now c.loop.at c.unwrap-name.result.0 c.unwrap-name.result.1 (rw c.unwrap-name.ensures at c.index_at.ensures.found)

pub push_reserved-requires : goal.push_reserved-requires
push_reserved-requires c = omega (arith, c.loop.invariant.room, c.loop-test.true)

pub loop-preserved : goal.loop-preserved
loop-preserved c =
    let had = c.loop.invariant.names in
    let next = next_name c.args.self.now.counts.texts c.args.self.now.bytes.now c.args.shape.names_at c.args.shape.names c.loop.counter c.loop.at had.names c.index_at.result had.built c.loop-test.true c.index_at.ensures.only in
    record {
      names = more_names c.args.self.now.counts.texts c.args.self.now.bytes.now c.args.shape.names_at c.args.shape.names c.loop.counter c.loop.at c.args.indices.now.items c.loop.indices.items c.push_reserved.new.self.items c.unwrap-name.result had (λ more e. next.built c.unwrap-name.result more c.unwrap-name.ensures e)
          (rw c.unwrap-name.ensures at c.index_at.ensures.within) (search rules);
      room = omega (arith, c.loop.invariant.room, c.push_reserved.ensures.len, c.push_reserved.ensures.capacity);
    }

pub returns-clause-kept : goal.returns-clause-kept
returns-clause-kept c =
    let had = c.loop.invariant.names in record {
      names = had.names;
      are = all_names_built c.args.self.now.counts.texts c.args.self.now.bytes.now c.args.shape.names_at c.args.shape.names c.loop.counter c.loop.at had.names had.built (omega (arith, c.loop-test.false));
      kept = had.kept;
    }

pub returns-clause-room : goal.returns-clause-room
returns-clause-room c = omega (arith, c.loop.invariant.room, c.loop-test.false)
