use Rattle.dexclass.proofs.Common.{ap, arith, ◌∙◌}
use Rattle.dexclass.specs.internal.Stripped.{stripped_class}
use Rattle.dexclass.proofs.Renumbered.{remapped_more}
use Rattle.dexclass.proofs.stripping.strip_all.Goals as goal

pub loop-i-preserved : goal.loop-i-preserved
loop-i-preserved c =
    remapped_more stripped_class c.loop-i.classes.items c.args.classes.now.items c.loop-i.i c.index_mut.result.now (omega (arith, c.loop-i-test.true, c.loop-i.invariant.len)) c.loop-i.invariant c.strip_class.new.class
    (c.strip_class.ensures ∙ ap stripped_class c.index_mut.ensures.value)
