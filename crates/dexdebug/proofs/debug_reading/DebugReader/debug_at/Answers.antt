use Rattle.dexdebug.proofs.Common.{◌≡◌, [], sym, subst, arith, rules, debug_weight, IsFormedDebug, NumberedDebugAt, unindexed}
use Rattle.dexdebug.proofs.DebugMeanings.{weight_is}
use Rattle.dexdebug.proofs.DebugRuns.{built_at, built_formed}
use Rattle.dexdebug.proofs.StoredOperations.{read_is, read_is_stored}
use Rattle.dexdebug.proofs.debug_reading.DebugReader.debug_at.Goals as goal

pub overflow_add-shape : goal.overflow_add-shape
overflow_add-shape c = let t = c.requires.shape.operations in omega (arith, c.requires.shape.few, t.bounded, t.few, t.count)

pub invariant_of-result : goal.invariant_of-result
invariant_of-result c =
    let n = c.keep_names.ensures.kept in
    let h = c.keep_symbols.ensures.kept in
    let none : c.in_ok-indices.indices.items ≡ [] = search rules in
    let is = read_is c.args.self.now.counts c.args.self.now.bytes.now c.args.shape.names_at c.args.shape.names c.args.shape.operations_at c.args.shape.tally c.in_ok-indices.indices.items c.keep_names.new.indices.items c.keep_symbols.new.indices.items none n h c.args.shape.line_start in (
      subst IsFormedDebug (sym is) (built_formed c.args.self.now.counts c.args.self.now.bytes.now c.args.at c.args.shape n.names h.operations c.requires.shape n.are h.are),
      read_is_stored c.args.self.now.counts c.args.self.now.bytes.now c.args.shape.names_at c.args.shape.names c.args.shape.operations_at c.args.shape.tally c.in_ok-indices.indices.items c.keep_names.new.indices.items c.keep_symbols.new.indices.items none n h,
      subst (λ d. c.args.shape.weight ≡ debug_weight (unindexed d)) (sym is) (omega (arith, weight_is (record { line_start = c.args.shape.line_start; parameter_names = n.names; operations = h.operations }), n.are.names_at.many, h.are.weight, c.requires.shape.weight)),
    )

pub returns : goal.returns
returns c =
    let h = c.keep_symbols.ensures.kept in
    let none : c.in_ok-indices.indices.items ≡ [] = search rules in
    let is = read_is c.args.self.now.counts c.args.self.now.bytes.now c.args.shape.names_at c.args.shape.names c.args.shape.operations_at c.args.shape.tally c.in_ok-indices.indices.items c.keep_names.new.indices.items c.keep_symbols.new.indices.items none c.keep_names.ensures.kept h c.args.shape.line_start in
    subst (NumberedDebugAt c.args.self.now.counts c.args.self.now.bytes.now c.args.at) (sym is) (built_at c.args.self.now.counts c.args.self.now.bytes.now c.args.at c.args.shape c.keep_names.ensures.kept.names h.operations c.requires.shape c.keep_names.ensures.kept.are h.are)
