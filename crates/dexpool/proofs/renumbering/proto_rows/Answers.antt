use Rattle.dexpool.proofs.Common.{map, ap, ◌∙◌, subst, length, ◌≤◌, take_all, numbers_of}
use Rattle.dexpool.proofs.renumbering.proto_rows.Goals as goal

pub returns : goal.returns
returns c = c.loop-entry.invariant ∙ ap (map (numbers_of c.args.protos.now.parameters.items)) (take_all c.loop-entry.entry-index c.args.protos.now.rows.items (subst (λ xs. length xs ≤ c.loop-entry.entry-index) c.deref-entry-items.ensures.value c.loop-entry-test.false))
