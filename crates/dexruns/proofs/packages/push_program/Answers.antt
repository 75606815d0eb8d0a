use Rattle.dexruns.proofs.PackageRows.{program_more}
use Rattle.dexruns.proofs.packages.push_program.Goals as goal

pub returns : goal.returns
returns c = program_more c.args.programs.now.items c.push.new.self.items c.in_ok-into_program.field-0 c.args.part c.in_ok-push.ensures.items c.in_ok-into_program.ensures
