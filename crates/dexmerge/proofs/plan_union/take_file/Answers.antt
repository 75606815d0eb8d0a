use Rattle.dexmerge.proofs.Common.{ap, ◌∙◌, definitions}
use Rattle.dexclass.proofs.EmptyPrograms.{no_definitions}
use Rattle.dexmerge.proofs.PlannedLaws.{file_left}
use Rattle.dexmerge.proofs.plan_union.take_file.Goals as goal

pub returns-clause-left : goal.returns-clause-left
returns-clause-left c = file_left c.args.files.now.items c.args.number c.replace.new.dest (ap definitions (c.replace.ensures.after ∙ c.empty.ensures) ∙ no_definitions)
