-- The errors of words that ask for no job.
use Rattle.std.proofs.Common.{◌≡◌, ◌⊎◌, ◌∙◌, List, [], ◌∷◌, Option, Some, None, ap, sym, subst, inl, inr, refl}
use Rattle.clap.specs.Values.{kind_of}
use Rattle.clap.specs.Walk.{Text}
use Rattle.clap.specs.Simple.{App, HasMatchesOf, is_simple, subcommand_of, subcommand_rows_of}
use Rattle.clap.specs.Kinds.{HasKind, IsAmong, Kinds, or_else}
use Rattle.clap.specs.Faults.{fault_of}
use Rattle.clap.specs.declared.error.Error.{Error}
use Rattle.clap.specs.declared.error.kind.ErrorKind.{ErrorKind}
use Rattle.clap.specs.declared.error.kind.ErrorKind.TheVariants.{ValueValidation}
use Rattle.clap.specs.declared.parser.matches.ArgMatches.{ArgMatches}
use Rattle.dexargs.specs.declared.lists.Ending.{Ending}
use Rattle.dexargs.specs.declared.words.Job.{Job}
use Rattle.dexargs.specs.CommandLine.{program_app}
use Rattle.dexargs.specs.Asked.{IsAsked, asked, asked_by, refusal, request_of}
use Rattle.dexargs.proofs.ProgramIsSimple.{program_is_simple}

among_first : (k : ErrorKind) (kinds more : Kinds) → IsAmong k kinds → IsAmong k (or_else kinds more)
among_first k [] more h = absurd h
among_first k (x ∷ xs) more h = h

-- where clap refuses the words
pub clap_refuses : (app : App) (ending : Ending) (words : List Text) (e : Error) → app ≡ program_app → HasKind (fault_of app words) e
    → HasKind (refusal ending words) e
clap_refuses app ending words e is (inl memory) = inl memory
clap_refuses app ending words e is (inr among) = inr (among_first _ _ _ (subst (λ (a : App). IsAmong (kind_of e) (fault_of a words)) is among))

-- the command that was met is the one that the words name
matches_are : (app : App) (words : List Text) (m : ArgMatches) → app ≡ program_app → HasMatchesOf app words m
    → subcommand_rows_of m ≡ subcommand_of program_app words
matches_are app words m is has = (has (ap is_simple is ∙ program_is_simple)).1 ∙ ap (λ (a : App). subcommand_of a words) is

-- where the words ask for a job
pub job_asked : (app : App) (ending : Ending) (words : List Text) (m : ArgMatches) (job : Job) → app ≡ program_app → HasMatchesOf app words m → fault_of app words ≡ []
    → asked_by ending (subcommand_rows_of m) ≡ Some (request_of job) → IsAsked ending words job
job_asked app ending words m job is has passes by =
    (sym (ap (λ (a : App). fault_of a words) is) ∙ passes, sym (ap (asked_by ending) (matches_are app words m is has)) ∙ by)

-- where they ask for none
pub none_asked : (app : App) (ending : Ending) (words : List Text) (m : ArgMatches) (e : Error) → app ≡ program_app → HasMatchesOf app words m → fault_of app words ≡ []
    → asked_by ending (subcommand_rows_of m) ≡ None → kind_of e ≡ ValueValidation → HasKind (refusal ending words) e
none_asked app ending words m e is has passes by kind =
    let clap : fault_of program_app words ≡ [] = sym (ap (λ (a : App). fault_of a words) is) ∙ passes in
    let none : asked ending words ≡ None = sym (ap (asked_by ending) (matches_are app words m is has)) ∙ by in
    rw (clap, none) (inr (inl kind))
