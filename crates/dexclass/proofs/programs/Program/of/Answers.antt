use Rattle.dexclass.proofs.Common.{◌≡◌, ◌-◌, ◌^◌, List, map, min, subst, arith, weight}
use Rattle.dexclass.specs.{NumberedClass, definition_of}
use Rattle.dexclass.proofs.ProgramsOf.{weight_bound}
use Rattle.dexclass.proofs.programs.Program.of.Goals as goal

pub weighing-requires-clause-total : goal.weighing-requires-clause-total
weighing-requires-clause-total c =
    let m = c.args.numbering in
    let weighed : c.weight_of-weight.result ≡ min (2 ^ 64 - 1) (weight (map (definition_of m) c.args.classes.items)) = subst (λ (l : List NumberedClass). c.weight_of-weight.result ≡ min (2 ^ 64 - 1) (weight (map (definition_of m) l))) c.deref.ensures.value c.weight_of-weight.ensures in
    omega (arith, weighed, weight_bound m c.args.classes.items c.requires c.is_numbering.ensures)
