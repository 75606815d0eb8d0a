use Rattle.std.proofs.Common.{not}
use Rattle.dexpool.specs.Cut.{kept}
use Rattle.dexclass.proofs.Common.{map, sym, ap, subst, ◌∙◌}
use Rattle.dexclass.specs.{definition_of}
use Rattle.dexclass.specs.internal.Parts.{AreGoodClasses}
use Rattle.dexclass.proofs.PartsOf.{all_good, kept_good, trimmed_good, kept_denote}
use Rattle.dexclass.proofs.parts.Part.partition.Goals as goal
use Rattle.dexclass.proofs.parts.Part.partition.Goals.{In_ok-chosen}

-- the classes whose flags are set are good, and so are the others
chosen_good : (c : In_ok-chosen) → AreGoodClasses c.self.inside.numbering c.in_ok-chosen.field-0.chosen.items
chosen_good c =
    let m = c.self.inside.numbering in
    let cs = c.self.inside.classes.items in
    subst (AreGoodClasses m) (sym c.in_ok-chosen.ensures.chosen) (kept_good m cs (all_good m cs c.self.invariant c.is_numbering.ensures) c.args.flags.now)

others_good : (c : In_ok-chosen) → AreGoodClasses c.self.inside.numbering c.in_ok-chosen.field-0.others.items
others_good c =
    let m = c.self.inside.numbering in
    let cs = c.self.inside.classes.items in
    subst (AreGoodClasses m) (sym c.in_ok-chosen.ensures.others) (kept_good m cs (all_good m cs c.self.invariant c.is_numbering.ensures) (map not c.args.flags.now))

pub trim-requires : goal.trim-requires
trim-requires c = (chosen_good (goal.at.trim-requires c).In_ok-chosen).known

pub into_trimmed-requires : goal.into_trimmed-requires
into_trimmed-requires c = (others_good (goal.at.into_trimmed-requires c).In_ok-chosen).known

pub invariant_of-chosen_part : goal.invariant_of-chosen_part
invariant_of-chosen_part c =
    trimmed_good c.self.inside.numbering c.in_ok-chosen.field-0.chosen.items (chosen_good (goal.at.invariant_of-chosen_part c).In_ok-chosen) c.in_ok-chosen_numbering.chosen_numbering c.trim.new.classes.items c.in_ok-chosen_numbering.ensures

pub invariant_of-other_part : goal.invariant_of-other_part
invariant_of-other_part c =
    trimmed_good c.self.inside.numbering c.in_ok-chosen.field-0.others.items (others_good (goal.at.invariant_of-other_part c).In_ok-chosen) c.in_ok-other_numbering.other_numbering c.into_trimmed.new.classes.items c.in_ok-other_numbering.ensures

pub returns-clause-chosen : goal.returns-clause-chosen
returns-clause-chosen c =
    c.in_ok-chosen_numbering.ensures.same ∙ ap (map (definition_of c.self.inside.numbering)) c.in_ok-chosen.ensures.chosen
    ∙ kept_denote c.self.inside.numbering c.self.inside.classes.items c.args.flags.now ∙ ap (kept c.args.flags.now) c.self.view_is

pub returns-clause-others : goal.returns-clause-others
returns-clause-others c =
    c.in_ok-other_numbering.ensures.same ∙ ap (map (definition_of c.self.inside.numbering)) c.in_ok-chosen.ensures.others
    ∙ kept_denote c.self.inside.numbering c.self.inside.classes.items (map not c.args.flags.now) ∙ ap (kept (map not c.args.flags.now)) c.self.view_is
