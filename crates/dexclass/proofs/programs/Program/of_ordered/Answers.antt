use Rattle.dexclass.proofs.Common.{◌≡◌, ◌-◌, ◌^◌, List, map, min, sym, subst, arith, weight}
use Rattle.dexclass.specs.{NumberedClass, definition_of}
use Rattle.dexclass.proofs.ProgramsOf.{weight_bound, collection_is, program_is}
use Rattle.dexclass.proofs.programs.Program.of_ordered.Goals as goal

pub invariant_of-result : goal.invariant_of-result
invariant_of-result c =
    let m = c.args.numbering in
    let cs = c.args.classes.items in
    let h = c.requires.mergeable in
    let weighed : c.weight_of-weight.result ≡ min (2 ^ 64 - 1) (weight (map (definition_of m) cs)) = subst (λ (l : List NumberedClass). c.weight_of-weight.result ≡ min (2 ^ 64 - 1) (weight (map (definition_of m) l))) c.deref.ensures.value c.weight_of-weight.ensures in
    program_is m cs h c.is_numbering.ensures cs (λ x member. member) (sym c.requires.order) c.weight_of-weight.result (omega (arith, weighed, weight_bound m cs h c.is_numbering.ensures))

pub returns : goal.returns
returns c =
    collection_is c.args.numbering c.args.classes.items c.requires.mergeable c.is_numbering.ensures c.args.classes.items (λ x member. member) (sym c.requires.order)
