use Rattle.dexinsn.proofs.Common.{◌≡◌, drop, Some, IsSome, sym, ap, subst, ◌∙◌, arith, rules, is_some, index_pool, piece_size}
use Rattle.dexinsn.proofs.BuiltIndices.{all_built, index_built, next_begins, next_piece, next_size, next_within, no_pool, none_built, plain_built, some_pool, some_units}
use Rattle.dexinsn.proofs.IndexRoom.{room_after, wide_room_after}
use Rattle.dexinsn.proofs.reading.build_indices.Goals as goal
use Rattle.dexinsn.proofs.reading.build_indices.Goals.{then-is_some, else-is_some}

pub loop-size-init : goal.loop-size-init
loop-size-init c = record { room = search rules; built = none_built c.args.units.now c.args.count c.in_ok-indices.indices.items (search rules) c.requires.have }

pub size_at-requires : goal.size_at-requires
size_at-requires c = next_begins c.args.units.now c.args.count c.loop-size.at c.loop-size.indices.items (next_piece c.args.units.now c.args.count c.loop-size.at c.loop-size.indices.items c.loop-size.invariant.built (omega arith))

pub unwrap-size-requires : goal.unwrap-size-requires
unwrap-size-requires c =
    subst IsSome (sym c.size_at.ensures) (next_size c.args.units.now c.args.count c.loop-size.at c.loop-size.indices.items (next_piece c.args.units.now c.args.count c.loop-size.at c.loop-size.indices.items c.loop-size.invariant.built (omega arith)))

pub kind_at-requires : goal.kind_at-requires
kind_at-requires c = next_begins c.args.units.now c.args.count c.loop-size.at c.loop-size.indices.items (next_piece c.args.units.now c.args.count c.loop-size.at c.loop-size.indices.items c.loop-size.invariant.built (omega arith))

pub index_at-number-requires-clause-some : goal.index_at-number-requires-clause-some
index_at-number-requires-clause-some c =
    let next = next_piece c.args.units.now c.args.count c.loop-size.at c.loop-size.indices.items c.loop-size.invariant.built (omega arith) in
    let pool = some_pool (index_pool (drop c.loop-size.at c.args.units.now)) (ap is_some (sym c.kind_at.ensures) ∙ (sym c.is_some.ensures ∙ c.if-is_some.true)) in
    room_after c.args.units.now c.loop-size.at next.piece.units pool.0 next.size pool.1

pub index_at-number-requires-clause-wide : goal.index_at-number-requires-clause-wide
index_at-number-requires-clause-wide c =
    let next = next_piece c.args.units.now c.args.count c.loop-size.at c.loop-size.indices.items c.loop-size.invariant.built (omega arith) in
    let pool = some_pool (index_pool (drop c.loop-size.at c.args.units.now)) (ap is_some (sym c.kind_at.ensures) ∙ (sym c.is_some.ensures ∙ c.if-is_some.true)) in
    wide_room_after c.args.units.now c.loop-size.at next.piece.units pool.0 next.size pool.1

pub overflow_cast-unit : goal.overflow_cast-unit
overflow_cast-unit c =
    omega (arith, next_begins c.args.units.now c.args.count c.loop-size.at c.loop-size.indices.items (next_piece c.args.units.now c.args.count c.loop-size.at c.loop-size.indices.items c.loop-size.invariant.built (omega arith)), c.requires.few)

pub loop-size-preserved : goal.loop-size-preserved
loop-size-preserved c =
    let next = next_piece c.args.units.now c.args.count c.loop-size.at c.loop-size.indices.items c.loop-size.invariant.built (omega arith) in
    let size : piece_size c.loop-size.at (drop c.loop-size.at c.args.units.now) ≡ Some c.unwrap-size.result = sym c.size_at.ensures ∙ c.unwrap-size.ensures in
    elim c.if-is_some.branch [
      | then-is_some w ↦
          let pool = some_pool (index_pool (drop c.loop-size.at c.args.units.now)) (ap is_some (sym c.kind_at.ensures) ∙ (sym c.is_some.ensures ∙ w.if-is_some.true)) in
          record {
            room = rw w.indices-is (omega (arith, w.push.ensures.capacity));
            built = rw w.indices-is (index_built c.args.units.now c.args.count c.loop-size.at c.unwrap-size.result w.index_at-number.result c.loop-size.indices.items w.push.new.self.items pool.0 next size pool.1 w.index_at-number.ensures.is (search rules));
          }
      | else-is_some w ↦
          record {
            room = rw w.indices-is c.loop-size.invariant.room;
            built = rw w.indices-is (plain_built c.args.units.now c.args.count c.loop-size.at c.unwrap-size.result c.loop-size.indices.items next size (no_pool (index_pool (drop c.loop-size.at c.args.units.now)) (ap is_some (sym c.kind_at.ensures) ∙ (sym c.is_some.ensures ∙ w.if-is_some.false))));
          }
    ]

pub loop-size-smaller : goal.loop-size-smaller
loop-size-smaller c =
    let us = c.args.units.now in
    let size : piece_size c.loop-size.at (drop c.loop-size.at us) ≡ Some c.unwrap-size.result = sym c.size_at.ensures ∙ c.unwrap-size.ensures in
    omega (arith, next_within us c.args.count c.loop-size.at c.unwrap-size.result c.loop-size.indices.items (next_piece us c.args.count c.loop-size.at c.loop-size.indices.items c.loop-size.invariant.built (omega arith)) size, some_units us c.loop-size.at c.unwrap-size.result size)

pub returns : goal.returns
returns c = all_built c.args.units.now c.args.count c.loop-size.at c.loop-size.indices.items c.loop-size.invariant.built (omega arith)

pub overflow_add-at : goal.overflow_add-at
overflow_add-at c =
    let us = c.args.units.now in
    omega (arith, next_within us c.args.count c.loop-size.at c.unwrap-size.result c.loop-size.indices.items (next_piece us c.args.count c.loop-size.at c.loop-size.indices.items c.loop-size.invariant.built (omega arith)) (sym c.size_at.ensures ∙ c.unwrap-size.ensures), c.requires.few)
