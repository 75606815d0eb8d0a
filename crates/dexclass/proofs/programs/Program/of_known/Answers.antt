use Rattle.dexclass.proofs.Common.{◌≡◌, ◌<◌, ◌-◌, ◌^◌, ◌∙◌, List, Option, None, ℕ, length, map, min, sym, ap, subst, arith, All, slice_index_or, weight, AreDepthsOf}
use Rattle.dexclass.specs.{NumberedClass, definition_of}
use Rattle.dexclass.proofs.Ordered.{known_are, known_within}
use Rattle.dexclass.proofs.ProgramsOf.{named, weight_bound}
use Rattle.dexclass.proofs.programs.Program.of_known.Goals as goal

pub known_depths-requires : goal.known_depths-requires
known_depths-requires c =
    subst (All (λ (x : NumberedClass). x.name < length c.args.depths.now)) (sym c.deref-2.ensures.value) (known_within c.args.numbering c.args.classes.items (named c.args.numbering c.args.classes.items c.requires.mergeable c.is_numbering.ensures) c.args.depths.now c.requires.depths)

pub arranged-requires-clause-depths : goal.arranged-requires-clause-depths
arranged-requires-clause-depths c =
    let cs = c.args.classes.items in
    let at : NumberedClass → Option ℕ = λ x. slice_index_or c.args.depths.now x.name None in
    subst (AreDepthsOf (map (definition_of c.args.numbering) cs)) (sym (c.deref-3.ensures.value ∙ c.in_ok-known.ensures ∙ ap (map at) c.deref-2.ensures.value)) (known_are c.args.numbering cs (named c.args.numbering cs c.requires.mergeable c.is_numbering.ensures) c.args.depths.now c.requires.depths)

pub arranged-requires-clause-total : goal.arranged-requires-clause-total
arranged-requires-clause-total c =
    let m = c.args.numbering in
    let weighed : c.weight_of-total.result ≡ min (2 ^ 64 - 1) (weight (map (definition_of m) c.args.classes.items)) = subst (λ (l : List NumberedClass). c.weight_of-total.result ≡ min (2 ^ 64 - 1) (weight (map (definition_of m) l))) c.deref.ensures.value c.weight_of-total.ensures in
    omega (arith, weighed, weight_bound m c.args.classes.items c.requires.mergeable c.is_numbering.ensures)
