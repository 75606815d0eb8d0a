use Rattle.dexpool.proofs.Common.{set, ap, ◌∙◌, arith, map_over_more, lower_of}
use Rattle.dexpool.proofs.renumbering.renumbered_rows.Goals as goal

pub loop-i-preserved : goal.loop-i-preserved
loop-i-preserved g c =
    ap (set c.loop-i.rows.items c.loop-i.i) {y = g.R.Row.mapped (lower_of c.args.lower) c.index.result.now} c.renumbered.ensures
    ∙ map_over_more (g.R.Row.mapped (lower_of c.args.lower)) c.args.rows.items c.loop-i.rows.items c.loop-i.i c.index.result.now (omega (arith, c.loop-i-test.true, c.len-i-end.ensures, c.args.rows.ok.0)) c.loop-i.invariant c.index.ensures
