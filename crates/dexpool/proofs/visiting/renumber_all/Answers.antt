use Rattle.dexpool.proofs.Common.{sym, ◌∙◌, ap, subst, arith}
use Rattle.dexpool.proofs.Changed.{unchanged, changed_more}
use Rattle.dexpool.proofs.visiting.renumber_all.Goals as goal

pub renumber-requires : goal.renumber-requires
renumber-requires g c =
    subst (g.T.Renumber.places c.args.remap.now) (sym c.index_mut.ensures.value)
    (unchanged (g.T.Renumber.remapped c.args.remap.now) (g.T.Renumber.places c.args.remap.now) c.args.items.now.items c.loop-i.items.items c.loop-i.i c.index_mut.result.now c.loop-i.invariant (omega arith) c.requires)

pub loop-i-preserved : goal.loop-i-preserved
loop-i-preserved g c =
    changed_more (g.T.Renumber.remapped c.args.remap.now) c.args.items.now.items c.loop-i.items.items c.loop-i.i c.index_mut.result.now c.renumber.new.self c.loop-i.invariant (omega arith)
    (c.renumber.ensures ∙ ap (g.T.Renumber.remapped c.args.remap.now) c.index_mut.ensures.value)
