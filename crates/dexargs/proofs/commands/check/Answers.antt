use Rattle.std.proofs.Common.{◌∙◌, ap, codes}
use Rattle.std.proofs.lemmas.Result.{IfOk-weaker}
use Rattle.clap.specs.Simple.{app_of_fields, new_app}
use Rattle.clap.specs.declared.builder.command.Command.{Command}
use Rattle.clap.specs.declared.builder.command.Command.TheOpen.{Command-F}
use Rattle.dexargs.specs.CommandLine.{IsMade}
use Rattle.dexargs.proofs.Made.{added}
use Rattle.dexargs.proofs.commands.check.Goals as goal

pub returns : goal.returns
returns c =
    let described : IsMade (new_app (codes "check")) c.after_long_help.result = (ap app_of_fields c.after_long_help.ensures ∙ c.described.ensures.0, ap (λ (f : Command-F Command). f.has_globals) c.after_long_help.ensures ∙ c.described.ensures.1) in
    let keep_going = added described c.flag.ensures c.in_ok-command.ensures in
    IfOk-weaker c.over_files.result _ _ (λ command adds. adds _ keep_going) c.over_files.ensures
