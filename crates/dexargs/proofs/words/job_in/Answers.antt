use Rattle.std.proofs.Common.{map, ap, ◌∙◌}
use Rattle.clap.proofs.TakesLemmas.{passed_up}
use Rattle.clap.specs.Simple.{app_of}
use Rattle.clap.specs.Faults.{is_simple_and_free}
use Rattle.dexargs.proofs.ProgramIsSimple.{program_is_free}
use Rattle.dexargs.proofs.Refusals.{clap_refuses, job_asked, none_asked}
use Rattle.dexargs.proofs.words.job_in.Goals as goal

pub returns-in_err-matches-clause-refused : goal.returns-in_err-matches-clause-refused
returns-in_err-matches-clause-refused c =
    let free = ap is_simple_and_free c.requires ∙ program_is_free in
    passed_up c.from_residual.result c.in_err-matches.field-0.0 _ c.from_residual.ensures.1
    (clap_refuses _ c.args.ending (map (λ word. word.now) c.args.words.now) c.in_err-matches.field-0.0 c.requires (c.in_err-matches.ensures.kinds free))

pub returns-in-Ok-clause-asked : goal.returns-in-Ok-clause-asked
returns-in-Ok-clause-asked c =
    let free = ap is_simple_and_free c.requires ∙ program_is_free in
    job_asked (app_of c.args.command.now) c.args.ending (map (λ word. word.now) c.args.words.now) c.in_ok-matches.matches c.in-Ok.job c.requires
    c.in_ok-matches.ensures.ok.2 (c.in_ok-matches.ensures.kinds free) c.in-Ok.ensures.job

pub returns-clause-refused : goal.returns-clause-refused
returns-clause-refused c =
    let free = ap is_simple_and_free c.requires ∙ program_is_free in
    let error = c.in_ok-usage_error-in-Err.ensures in
    none_asked (app_of c.args.command.now) c.args.ending (map (λ word. word.now) c.args.words.now) c.in_ok-matches.matches c.in_ok-usage_error-in-Err.field-0 c.requires
    c.in_ok-matches.ensures.ok.2 (c.in_ok-matches.ensures.kinds free) (c.in-Err.ensures.job error.0) error.1
