use Rattle.dexclass.proofs.Common.{arith, ℕ, ◌<◌, ◌∙◌, All, List, map, sym, subst, AreDepthsOf, IsAcyclic}
use Rattle.dexorder.specs.EqualLists.{AreFirstEqual}
use Rattle.dexclass.specs.{NumberedClass, definition_of, AreNamed}
use Rattle.dexclass.proofs.Ordered.{depths_are, names_within}
use Rattle.dexclass.proofs.ProgramsOf.{named, one_collection_is, one_program_is}
use Rattle.dexclass.proofs.programs.Program.weighing.Goals as goal

pub depths_with_firsts-requires-clause-names : goal.depths_with_firsts-requires-clause-names
depths_with_firsts-requires-clause-names c =
    let m = c.args.numbering in
    let cs = c.args.classes.items in
    let within = names_within m cs (named m cs c.requires.mergeable c.is_numbering.ensures) in
    subst (λ (l : List NumberedClass). All (λ (x : NumberedClass). x.name < c.count-types.result) l) (sym c.deref-2.ensures.value) (subst (λ (n : ℕ). All (λ (x : NumberedClass). x.name < n) cs) (sym c.count-types.ensures) within)

pub depths_with_firsts-requires-clause-firsts : goal.depths_with_firsts-requires-clause-firsts
depths_with_firsts-requires-clause-firsts c =
    subst (AreFirstEqual (λ (x : NumberedClass). x.interfaces) c.deref-2.result.now) (sym c.deref-3.ensures.value)
    (subst (λ (l : List NumberedClass). AreFirstEqual (λ (x : NumberedClass). x.interfaces) l c.in_ok-firsts.firsts.items) (c.deref.ensures.value ∙ sym c.deref-2.ensures.value) c.in_ok-firsts.ensures)

pub arranged-requires-clause-depths : goal.arranged-requires-clause-depths
arranged-requires-clause-depths c =
    let m = c.args.numbering in
    let own = subst (AreNamed m) (sym c.deref-2.ensures.value) (named m c.args.classes.items c.requires.mergeable c.is_numbering.ensures) in
    let acyclic = subst (λ (l : List NumberedClass). IsAcyclic (map (definition_of m) l)) (sym c.deref-2.ensures.value) c.requires.mergeable.good.acyclic in
    let found : AreDepthsOf (map (definition_of m) c.args.classes.items) c.in_ok-depths.depths.items =
    subst (λ (l : List NumberedClass). AreDepthsOf (map (definition_of m) l) c.in_ok-depths.depths.items) c.deref-2.ensures.value
    (depths_are m c.deref-2.result.now own c.in_ok-depths.ensures.classes c.in_ok-depths.ensures.are c.in_ok-depths.depths.items c.in_ok-depths.ensures.found acyclic) in
    subst (AreDepthsOf (map (definition_of m) c.args.classes.items)) (sym c.deref-4.ensures.value) found

pub invariant_of-result : goal.invariant_of-result
invariant_of-result c = one_program_is c.args.numbering c.args.classes.items c.requires.mergeable c.is_numbering.ensures (omega (arith, c.if-len-lt2.true, c.len.ensures)) c.args.total c.requires.total

pub returns-then-len-lt2 : goal.returns-then-len-lt2
returns-then-len-lt2 c = one_collection_is c.args.numbering c.args.classes.items c.requires.mergeable c.is_numbering.ensures (omega (arith, c.if-len-lt2.true, c.len.ensures))
