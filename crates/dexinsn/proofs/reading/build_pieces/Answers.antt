use Rattle.dexinsn.proofs.Common.{ℕ, List, length, ◌^◌, ◌<◌, drop, ap, sym, subst, ◌∙◌, AreTheIndices, HaveIndices}
use Rattle.dexinsn.specs.{units_in}
use Rattle.dexinsn.proofs.BuiltIndices.{built_read, checked_have, shape_checked, shape_units}
use Rattle.dexinsn.proofs.StoredRead.{few_units, read_pieces, read_stored}
use Rattle.dexinsn.proofs.reading.build_pieces.Goals as goal

pub build_indices-requires-clause-few : goal.build_indices-requires-clause-few
build_indices-requires-clause-few c =
    let at = shape_units c.args.frame.now c.args.off c.args.pools.now c.args.shape c.split_at.result.1.now c.split_at-2.result.0.now c.requires (c.split_at.ensures.back ∙ ap (drop 16) c.rest.ensures) c.split_at-2.ensures.front in
    subst (λ (us : List ℕ). length us < 2 ^ 32) (sym c.of_bytes.ensures) (few_units c.args.frame.now c.args.off c.split_at-2.result.0.now at)

pub build_indices-requires-clause-have : goal.build_indices-requires-clause-have
build_indices-requires-clause-have c =
    let at = shape_units c.args.frame.now c.args.off c.args.pools.now c.args.shape c.split_at.result.1.now c.split_at-2.result.0.now c.requires (c.split_at.ensures.back ∙ ap (drop 16) c.rest.ensures) c.split_at-2.ensures.front in
    subst (λ us. HaveIndices us c.args.shape.indices) (sym c.of_bytes.ensures)
    (checked_have (units_in c.split_at-2.result.0.now) c.args.pools.now c.args.shape.indices (shape_checked c.args.frame.now c.args.off c.args.pools.now c.args.shape c.split_at-2.result.0.now c.requires at))

pub invariant_of-result : goal.invariant_of-result
invariant_of-result c =
    let bytes = c.split_at-2.result.0.now in
    let at = shape_units c.args.frame.now c.args.off c.args.pools.now c.args.shape c.split_at.result.1.now bytes c.requires (c.split_at.ensures.back ∙ ap (drop 16) c.rest.ensures) c.split_at-2.ensures.front in
    let read = built_read (units_in bytes) c.args.pools.now c.args.shape.indices c.in_ok-indices.indices.items (shape_checked c.args.frame.now c.args.off c.args.pools.now c.args.shape bytes c.requires at) (subst (λ us. AreTheIndices us c.in_ok-indices.indices.items) c.of_bytes.ensures c.in_ok-indices.ensures) in
    read_stored (units_in bytes) c.args.pools.now c.in_ok-indices.indices.items (few_units c.args.frame.now c.args.off bytes at) read

pub returns-clause-registers : goal.returns-clause-registers
returns-clause-registers c = c.requires.registers

pub returns-clause-pieces : goal.returns-clause-pieces
returns-clause-pieces c = λ pools.
    let bytes = c.split_at-2.result.0.now in
    let at = shape_units c.args.frame.now c.args.off c.args.pools.now c.args.shape c.split_at.result.1.now bytes c.requires (c.split_at.ensures.back ∙ ap (drop 16) c.rest.ensures) c.split_at-2.ensures.front in
    let read = built_read (units_in bytes) c.args.pools.now c.args.shape.indices c.in_ok-indices.indices.items (shape_checked c.args.frame.now c.args.off c.args.pools.now c.args.shape bytes c.requires at) (subst (λ us. AreTheIndices us c.in_ok-indices.indices.items) c.of_bytes.ensures c.in_ok-indices.ensures) in
    read_pieces c.args.frame.now c.args.off c.args.pools.now bytes c.in_ok-indices.indices.items pools at read
