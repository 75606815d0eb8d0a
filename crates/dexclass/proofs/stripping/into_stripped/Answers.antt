use Rattle.dexclass.proofs.Common.{map, sym, subst, All, definitions, in_class_order, Mentions, mentions, greatest_caps, strip, stripped_members, AreRising, type_at}
use Rattle.dexclass.specs.{definition_of, IsKnownClass}
use Rattle.dexclass.specs.internal.Trimming.{AreTrimmed}
use Rattle.dexclass.proofs.StrippedPrograms.{class_stripped, class_known, all_known, all_stripped, stripped_mergeable, stripped_in_order, stripped_collection}
use Rattle.dexclass.proofs.stripping.into_stripped.Goals as goal
use Rattle.dexclass.proofs.stripping.into_stripped.Goals.{In_ok-trimmed}

pub into_trimmed-requires : goal.into_trimmed-requires
into_trimmed-requires c =
    let law = c.members_stripped_law.ensures in
    let m = mentions (definitions c.args.program) in
    subst (λ (n : Mentions). All (IsKnownClass n) c.strip_all.new.classes.items) (sym c.into_parts-numbering.ensures.numbering)
    (all_known m c.into_parts-numbering.result.1.items (λ x h. class_known m x h (law.known m x.members h.members_known) (law.ordered x.members h.members_ordered) (law.own m (type_at m x.name) x.members h.members_own)
    (c.members_weight_law.ensures m (stripped_members x.members) (subst AreRising c.into_parts-numbering.ensures.numbering c.is_numbering.ensures.rising) (law.known m x.members h.members_known)))
    c.into_parts-numbering.ensures.classes.known c.strip_all.new.classes.items c.strip_all.ensures)

-- the classes as they are trimmed
trimmed : (c : In_ok-trimmed) → AreTrimmed (strip (in_class_order (definitions c.args.program))) c.in_ok-trimmed.trimmed c.into_trimmed.new.classes.items
trimmed c =
    subst (λ D. AreTrimmed D c.in_ok-trimmed.trimmed c.into_trimmed.new.classes.items)
    (all_stripped c.args.program c.into_parts-numbering.result.1.items c.into_parts-numbering.ensures.classes (λ n x. class_stripped n x (c.members_stripped_law.ensures.same n x.members)) c.strip_all.new.classes.items c.strip_all.ensures)
    (subst (λ n. AreTrimmed (map (definition_of n) c.strip_all.new.classes.items) c.in_ok-trimmed.trimmed c.into_trimmed.new.classes.items) c.into_parts-numbering.ensures.numbering c.in_ok-trimmed.ensures)

pub of_ordered-requires-clause-mergeable : goal.of_ordered-requires-clause-mergeable
of_ordered-requires-clause-mergeable c =
    let E = in_class_order (definitions c.args.program) in
    stripped_mergeable c.args.program c.in_ok-trimmed.trimmed c.into_trimmed.new.classes.items (trimmed (goal.at.of_ordered-requires-clause-mergeable c).In_ok-trimmed) c.is_good.ensures.good c.is_good.ensures.formed (c.strip_good.ensures.good greatest_caps E) (c.strip_good.ensures.well_formed E)

pub of_ordered-requires-clause-order : goal.of_ordered-requires-clause-order
of_ordered-requires-clause-order c =
    stripped_in_order c.args.program c.in_ok-trimmed.trimmed c.into_trimmed.new.classes.items (trimmed (goal.at.of_ordered-requires-clause-order c).In_ok-trimmed) c.is_good.ensures.good.acyclic (c.strip_depth.ensures (in_class_order (definitions c.args.program))).order

pub returns : goal.returns
returns c =
    stripped_collection c.args.program c.in_ok-trimmed.trimmed c.into_trimmed.new.classes.items (trimmed (goal.at.returns c).In_ok-trimmed) (c.strip_collection_law.ensures.listed (in_class_order (definitions c.args.program)) c.args.program) c.of_ordered.result c.of_ordered.ensures
