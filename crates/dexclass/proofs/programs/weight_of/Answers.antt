use Rattle.dexclass.proofs.Common.{◌+◌, ◌-◌, ◌^◌, ◌∙◌, List, min, sum_by, ap, sym, take_all, mentions_weight, body_weight}
use Rattle.dexclass.specs.{NumberedClass, definition_of}
use Rattle.dexclass.proofs.ProgramsOf.{weight_parts}
use Rattle.dexclass.proofs.programs.weight_of.Goals as goal

pub returns : goal.returns
returns c =
    c.loop-class.invariant ∙ ap (λ (l : List NumberedClass). min (2 ^ 64 - 1) (1024 + mentions_weight c.args.numbering.now + sum_by (λ (x : NumberedClass). body_weight (definition_of c.args.numbering.now x).1) l)) (take_all c.loop-class.class-index c.args.classes.now c.loop-class-test.false)
    ∙ ap (min (2 ^ 64 - 1)) (sym (weight_parts c.args.numbering.now c.args.classes.now c.requires.mentions))
