use Rattle.dexinsn.proofs.Common.{◌+◌, ◌-◌, ◌*◌, sym, ◌∙◌, arith, ints}
use Rattle.dexinsn.proofs.Keys.{do_rise-less, do_rise-not}
use Rattle.dexinsn.proofs.payload.keys_rise.Goals as goal

pub returns-then-int_at : goal.returns-then-int_at
returns-then-int_at c =
    sym (c.loop-i.invariant
    ∙ do_rise-not c.args.units.now (2 * c.loop-i.i) (c.args.size + 1 - c.loop-i.i) (c.args.size - c.loop-i.i) _ _ (omega arith) (omega arith) c.int_at.ensures c.int_at-in-loop-i.ensures (grind (arith, ints)))

pub loop-i-preserved : goal.loop-i-preserved
loop-i-preserved c =
    c.loop-i.invariant
    ∙ do_rise-less c.args.units.now (2 * c.loop-i.i) (2 * (c.loop-i.i + 1)) (c.args.size + 1 - c.loop-i.i) (c.args.size + 1 - (c.loop-i.i + 1)) _ _ (omega arith) (omega arith) (omega arith) c.int_at.ensures c.int_at-in-loop-i.ensures (grind (arith, ints))
