use Rattle.std.proofs.Common.{rules, ◌≡◌, true}
use Rattle.clap.specs.Matches.{found_of}
use Rattle.clap.specs.Walk.{rows_of}
use Rattle.dexargs.specs.Asked.{ends_names}
use Rattle.dexargs.proofs.MatchLemmas.{command_met}
use Rattle.dexargs.proofs.words.job_of.Goals as goal

pub returns-clause-job : goal.returns-clause-job
returns-clause-job c =
    let met = command_met c.args.matches.now c.subcommand.result c.subcommand.ensures.name c.subcommand.ensures.rows c.in-Some.command c.in-Some.found c.in-Some.is in
    let ends : ends_names c.args.ending c.in-Some.command.now (rows_of (found_of c.in-Some.found.now)) ≡ true = search rules in
    rw (met, ends) c.job_of_command.ensures.job
