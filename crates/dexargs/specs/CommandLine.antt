-- The command line of the program, as clap reads it: its commands, and their arguments. This project's rule.
-- No argument has a rule on another: so clap's definitions say of all arguments whether it takes them.
use Rattle.std.specs.Prelude.{◌≡◌, ◌++◌, ℕ, pos, true, false, List, [], ◌∷◌, Some, None, codes}
use Rattle.clap.specs.Lexer.{usize_max}
use Rattle.clap.specs.Walk.{Rule, Text, rule_of}
use Rattle.clap.specs.Simple.{App, Shape, app_of, new_app, new_rule, new_shape, on_top}
use Rattle.clap.specs.declared.builder.arg.Arg.{Arg}
use Rattle.clap.specs.declared.builder.command.Command.{Command}
use Rattle.clap.specs.declared.builder.command.Command.TheViews.{out-Command as fields_of}
use Rattle.clap.specs.declared.builder.action.ArgAction.TheVariants.{Append, SetTrue}
use Rattle.clap.specs.declared.builder.range.ValueRange.{ValueRange}
use Rattle.clap.specs.declared.builder.value_parser.ValueParser.TheVariants.{NonEmptyString, Signed}

-- one value or more
abbrev pub one_or_more : ValueRange
one_or_more = record { start_inclusive = 1; end_inclusive = usize_max }

-- ---- arguments

-- an option without a value
abbrev pub flag_rule : Text → Rule
flag_rule id = record (new_rule id) { long = Some id; action = Some SetTrue }

-- an option whose value is a number from `least` to `greatest`
abbrev pub number_rule : Text → ℕ → ℕ → Rule
number_rule id least greatest = record (new_rule id) {
  long = Some id;
  value_names = 1;
  parser = Some (Signed (pos least) (pos greatest));
}

-- a required value, by its place
abbrev pub one_rule : Text → Rule
one_rule id = record (new_rule id) { value_names = 1; required = true }

-- an optional value, by its place
abbrev pub side_rule : Text → Rule
side_rule id = record (new_rule id) { value_names = 1 }

-- an option with one value or more
abbrev pub sides_rule : Text → Rule
sides_rule id = record (new_rule id) {
  long = Some id;
  value_names = 1;
  range = Some one_or_more;
  action = Some Append;
}

-- one file or more
abbrev pub files_rule : Rule
files_rule = record (one_rule (codes "files")) { range = Some one_or_more; action = Some Append }

-- `-z` or `--null`
abbrev pub null_rule : Rule
null_rule = record (flag_rule (codes "null")) { short = Some 122 }

-- `-o OUT` or `--out OUT`
abbrev pub out_rule : Rule
out_rule = record (one_rule (codes "out")) { short = Some 111; long = Some (codes "out") }

-- `--class NAME`
abbrev pub class_rule : Rule
class_rule = record (new_rule (codes "class")) {
  long = Some (codes "class");
  value_names = 1;
  action = Some Append;
  parser = Some NonEmptyString;
}

-- `--by WHAT`
abbrev pub by_rule : Rule
by_rule = record (new_rule (codes "by")) {
  long = Some (codes "by");
  value_names = 1;
  parser = Some NonEmptyString;
}

abbrev pub verbose_rule : Rule
verbose_rule = flag_rule (codes "verbose")

-- ---- commands

-- the command of this name, with these arguments before `--verbose`
abbrev pub command_of : Text → List Rule → Shape
command_of name rules = record (new_shape name) { rules = rules ++ verbose_rule ∷ [] }

abbrev pub check_command : Shape
check_command = command_of (codes "check") (flag_rule (codes "keep-going") ∷ null_rule ∷ files_rule ∷ [])

-- the caps of a merge
abbrev pub caps_rules : List Rule
caps_rules = number_rule (codes "max-types") 0 65535
    ∷ number_rule (codes "max-protos") 0 65535
    ∷ number_rule (codes "max-fields") 0 65536
    ∷ number_rule (codes "max-methods") 0 65536
    ∷ number_rule (codes "max-weight") 0 1073741824 ∷ []

-- the file that a merge writes, and how
abbrev pub merging_rules : List Rule
merging_rules = out_rule
    ∷ flag_rule (codes "atomic")
    ∷ flag_rule (codes "strip")
    ∷ number_rule (codes "fan") 2 65535 ∷ []

abbrev pub merge_command : Shape
merge_command = command_of (codes "merge") (merging_rules ++ caps_rules ++ null_rule ∷ files_rule ∷ [])

-- the arguments of a command that reads one file and writes another
abbrev pub copying_rules : List Rule
copying_rules = flag_rule (codes "atomic") ∷ one_rule (codes "file") ∷ one_rule (codes "out") ∷ []

abbrev pub normalise_command : Shape
normalise_command = record (command_of (codes "normalise") copying_rules) { aliases = codes "normalize" ∷ [] }

abbrev pub repair_command : Shape
repair_command = command_of (codes "repair") copying_rules

-- the arguments of a command that may leave out debug programs and source texts of files
abbrev pub stripping_rules : List Rule
stripping_rules = flag_rule (codes "strip") ∷ null_rule ∷ files_rule ∷ []

abbrev pub digest_command : Shape
digest_command = command_of (codes "digest") stripping_rules

abbrev pub conflicts_command : Shape
conflicts_command = command_of (codes "conflicts") stripping_rules

abbrev pub diff_command : Shape
diff_command = command_of (codes "diff") (
    flag_rule (codes "strip") ∷ null_rule
    ∷ sides_rule (codes "from") ∷ sides_rule (codes "to")
    ∷ side_rule (codes "old") ∷ side_rule (codes "new") ∷ [])

abbrev pub count_command : Shape
count_command = command_of (codes "count") (flag_rule (codes "each") ∷ by_rule ∷ null_rule ∷ files_rule ∷ [])

abbrev pub dump_command : Shape
dump_command = command_of (codes "dump") (flag_rule (codes "all") ∷ class_rule ∷ one_rule (codes "file") ∷ [])

-- ---- the program

-- the program without its commands: its first argument is a word of its own, and no name
abbrev pub program_shape : Shape
program_shape = record (new_shape (codes "dexkit")) {
  rules = verbose_rule ∷ [];
  is_leaf = false;
  no_binary_name = true;
  has_version = true;
  subcommand_required = true;
}

-- the program with its commands, in the order of the help
abbrev pub program_app : App
program_app = record {
  top = program_shape;
  subs = check_command ∷ merge_command ∷ normalise_command ∷ digest_command ∷ conflicts_command
      ∷ diff_command ∷ count_command ∷ dump_command ∷ repair_command ∷ [];
}

-- ---- what the code makes of them

-- the command alone
abbrev pub lone : Shape → App
lone shape = record { top = shape; subs = [] }

-- the program without its commands, to which none was added yet
abbrev pub program_alone : App
program_alone = lone (record program_shape { is_leaf = true })

-- the argument is read by this rule
abbrev pub IsArgument : Rule → Arg → Type 0
IsArgument rule arg = (rule_of arg ≡ rule) × (arg.global ≡ false)

-- the command is read so
abbrev pub IsMade : App → Command → Type 0
IsMade app command = (app_of command ≡ app) × ((fields_of command).has_globals ≡ false)

-- a command with these arguments after its own
abbrev pub with_rules : App → List Rule → App
with_rules app rules = on_top (λ s. record s { rules = s.rules ++ rules }) app

-- arguments that are read by these rules were added to the command
abbrev pub Adds : List Rule → Command → Command → Type 0
Adds rules old new = (app : App) → IsMade app old → IsMade (with_rules app rules) new
