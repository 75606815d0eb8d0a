-- What commands are read as, step by step.
use Rattle.std.proofs.Common.{◌≡◌, ◌∙◌, ◌++◌, ◌||◌, ℕ, Bool, Bor, true, false, map, List, [], ◌∷◌, ap, ap₂, subst}
use Rattle.std.proofs.lemmas.List.{append_assoc, map_push}
use Rattle.clap.specs.Adds.{AddsCommandAliases}
use Rattle.clap.specs.Built.{AddsArg, AddsSubcommand}
use Rattle.clap.specs.Walk.{Rule}
use Rattle.clap.specs.Simple.{App, Shape, app_of, app_of_fields, on_top, with_rule, with_subcommand}
use Rattle.clap.specs.declared.builder.arg.Arg.{Arg}
use Rattle.clap.specs.declared.builder.command.Command.{Command}
use Rattle.clap.specs.declared.builder.command.Command.TheOpen.{Command-F}
use Rattle.clap.specs.declared.builder.command.Command.TheViews.{out-Command as fields_of}
use Rattle.dexargs.specs.CommandLine.{Adds, IsArgument, IsMade, lone, with_rules}

-- a command with one more argument
pub added : {old new : Command} {arg : Arg} {app : App} {rule : Rule} → IsMade app old → IsArgument rule arg → AddsArg old arg new
    → IsMade (with_rule app rule) new
added {old = old} {new = new} {arg = arg} {app = app} {rule = rule} made argument adds = (
  adds.shape argument.1 ∙ ap₂ with_rule made.0 argument.0,
  adds.globals ∙ ap₂ (λ a b. a || b) made.1 argument.1,
)

-- more arguments after those that were added
with_more : (app : App) (rules more : List Rule) → with_rules (with_rules app rules) more ≡ with_rules app (rules ++ more)
with_more app rules more = ap (λ (l : List Rule). record app { top = record app.top { rules = l } }) (append_assoc app.top.rules rules more)

-- one argument
pub adds_first : (old new : Command) (arg : Arg) (rule : Rule) → IsArgument rule arg → AddsArg old arg new → Adds (rule ∷ []) old new
adds_first old new arg rule argument adds app made = added made argument adds

-- one more
pub adds_next : (old mid new : Command) (arg : Arg) (rules : List Rule) (rule : Rule) → Adds rules old mid → IsArgument rule arg → AddsArg mid arg new
    → Adds (rules ++ rule ∷ []) old new
adds_next old mid new arg rules rule before argument adds app made =
    subst (λ (a : App). IsMade a new) (with_more app rules (rule ∷ [])) (added (before app made) argument adds)

-- those of a call
pub adds_all : (old mid new : Command) (rules more : List Rule) → Adds rules old mid → Adds more mid new → Adds (rules ++ more) old new
adds_all old mid new rules more before after app made =
    subst (λ (a : App). IsMade a new) (with_more app rules more) (after (with_rules app rules) (before app made))

-- a command with one more name
pub aliased : (old new : Command) (app : App) (name : Bor (List ℕ)) → IsMade app old → AddsCommandAliases old new ((name, true) ∷ [])
    → IsMade (on_top (λ s. record s { aliases = s.aliases ++ name.now ∷ [] }) app) new
aliased old new app name made adds = (
  ap app_of_fields adds.0
      ∙ ap (λ (l : List (Bor (List ℕ) × Bool)). record (app_of old) { top = record (app_of old).top { aliases = map (λ a. a.0.now) l } }) adds.1
      ∙ ap (λ (l : List (List ℕ)). record (app_of old) { top = record (app_of old).top { aliases = l } }) (map_push (λ (a : Bor (List ℕ) × Bool). a.0.now) (fields_of old).aliases.items (name, true))
      ∙ ap (on_top (λ s. record s { aliases = s.aliases ++ name.now ∷ [] })) made.0,
  ap (λ (f : Command-F Command). f.has_globals) adds.0 ∙ made.1,
)

-- a program with one more command
pub joined : {old sub new : Command} {app : App} {shape : Shape} → IsMade app old → IsMade (lone shape) sub → AddsSubcommand old sub new
    → IsMade (with_subcommand app shape) new
joined {old = old} {sub = sub} {new = new} made command adds = (
  adds.shape command.1 ∙ ap₂ with_subcommand made.0 (ap (λ (a : App). a.top) command.0),
  adds.globals ∙ ap₂ (λ a b. a || b) made.1 command.1,
)
