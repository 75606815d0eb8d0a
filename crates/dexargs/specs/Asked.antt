-- What the arguments of the command line ask for, by the matches that clap makes of them. This project's rule.
use Rattle.std.specs.Prelude.{◌≡◌, ◌++◌, ◌&&◌, ◌||◌, ◌^◌, ℕ, nat_le, nat_lt, Bool, true, false, not}
use Rattle.std.specs.Prelude.{List, [], ◌∷◌, map, length, codes, string_bytes, if◌then◌else◌}
use Rattle.std.specs.Prelude.{Option, Some, None, is_some, option_map, option_and_then, unwrap_or}
use mathlib.Core.Bool.{beq}
use Rattle.std.specs.Option.{option_map_or}
use Rattle.std.specs.List.{list_any}
use Rattle.std.specs.Str.{bytes_eq}
use Rattle.std.specs.Str.Parse.{digits_value, without_leading_plus}
use Rattle.clap.specs.ValueTests.{is_numeral}
use Rattle.clap.specs.Walk.{Row, Text, all_of, first_of, is_empty, one_of}
use Rattle.clap.specs.Simple.{subcommand_of}
use Rattle.clap.specs.Kinds.{Kinds, or_else}
use Rattle.clap.specs.Faults.{fault_of}
use Rattle.clap.specs.declared.error.kind.ErrorKind.TheVariants.{ValueValidation}
use Rattle.dexspec.specs.Merging.{Caps, greatest_caps}
use Rattle.dexargs.specs.CommandLine.{program_app}
use Rattle.dexargs.specs.declared.lists.Ending.{Ending}
use Rattle.dexargs.specs.declared.lists.Ending.TheVariants.{Line, Null}
use Rattle.dexargs.specs.declared.words.Job.{Job}
use Rattle.dexargs.specs.declared.words.Job.TheVariants as job
use Rattle.dexargs.specs.declared.words.Placing.{Placing}
use Rattle.dexargs.specs.declared.words.Placing.TheVariants.{InPlace, Atomic}

-- ---- a job, as the texts and numbers that it has

pub data Request : Type 0 where
  Check : Ending → List Text → Request
  Dump : Bool → Text → Request
  DumpClasses : Bool → Text → List Text → Request
  Normalise : Text → Text → Placing → Request
  Merge : Text → Placing → Option ℕ → Caps → Bool → List Text → Request
  KeepChecking : Ending → List Text → Request
  Digest : Ending → Bool → List Text → Request
  Conflicts : Ending → Bool → List Text → Request
  Diff : ℕ → Bool → List Text → Request
  Count : List Text → Request
  CountEach : Ending → List Text → Request
  CountPackages : List Text → Request
  Repair : Text → Text → Placing → Request

abbrev pub request_of : Job → Request
request_of (job.Check ending files) = Check ending (map string_bytes files.items)
request_of (job.Dump full file) = Dump full (string_bytes file)
request_of (job.DumpClasses full file classes) = DumpClasses full (string_bytes file) (map string_bytes classes.items)
request_of (job.Normalise file out placing) = Normalise (string_bytes file) (string_bytes out) placing
request_of (job.Merge out placing fan caps strip files) =
    Merge (string_bytes out) placing fan caps strip (map string_bytes files.items)
request_of (job.KeepChecking ending files) = KeepChecking ending (map string_bytes files.items)
request_of (job.Digest ending strip files) = Digest ending strip (map string_bytes files.items)
request_of (job.Conflicts ending strip files) = Conflicts ending strip (map string_bytes files.items)
request_of (job.Diff old strip files) = Diff old strip (map string_bytes files.items)
request_of (job.Count files) = Count (map string_bytes files.items)
request_of (job.CountEach ending files) = CountEach ending (map string_bytes files.items)
request_of (job.CountPackages files) = CountPackages (map string_bytes files.items)
request_of (job.Repair file out placing) = Repair (string_bytes file) (string_bytes out) placing

-- ---- what the arguments of a command are

-- whether an option without a value is set
abbrev pub is_set : Text → List Row → Bool
is_set id rows = option_map_or (λ value. bytes_eq value (codes "true")) (first_of id rows) false

-- the values of an argument
abbrev pub option_values : Text → List Row → List Text
option_values id rows = unwrap_or (all_of id rows) []

-- the number of 32 bits that a text of decimal digits spells
abbrev pub numeral_value : Text → Option ℕ
numeral_value text =
    let number = digits_value 10 (without_leading_plus text) in
    if is_numeral (without_leading_plus text) && nat_lt number (2 ^ 32) then Some number else None

-- the number of an option
abbrev pub number_in : Text → List Row → Option ℕ
number_in id rows = option_and_then numeral_value (one_of id rows)

-- the file or files of a command, of which there is one or more
abbrev pub files_in : List Row → Option (List Text)
files_in rows =
    if is_empty (option_values (codes "files") rows) then None else Some (option_values (codes "files") rows)

-- the output of a command, and how it comes under its name: standard output is not moved
abbrev pub placed_output : Bool → Text → Option (Text × Placing)
placed_output true out = if bytes_eq out (codes "-") then None else Some (out, Atomic)
placed_output false out = Some (out, InPlace)

abbrev pub out_in : List Row → Option (Text × Placing)
out_in rows = option_and_then (placed_output (is_set (codes "atomic") rows)) (first_of (codes "out") rows)

-- the caps of a merge: the numbers of the options, and the greatest caps otherwise; the texts up to that of a
-- `const-string` have the greatest
abbrev pub option_caps : List Row → Caps
option_caps rows = record {
  types = unwrap_or (number_in (codes "max-types") rows) greatest_caps.types;
  protos = unwrap_or (number_in (codes "max-protos") rows) greatest_caps.protos;
  fields = unwrap_or (number_in (codes "max-fields") rows) greatest_caps.fields;
  methods = unwrap_or (number_in (codes "max-methods") rows) greatest_caps.methods;
  short_strings = greatest_caps.short_strings;
  weight = unwrap_or (number_in (codes "max-weight") rows) greatest_caps.weight;
}

abbrev pub are_caps : Caps → Bool
are_caps caps = nat_le caps.types 65535 && (nat_le caps.protos 65535 && (nat_le caps.fields 65536
    && (nat_le caps.methods 65536 && (nat_le caps.short_strings 65536 && nat_le caps.weight 1073741824))))

abbrev pub possible_caps : List Row → Option Caps
possible_caps rows = if are_caps (option_caps rows) then Some (option_caps rows) else None

-- the number of files of a merge at a time
abbrev pub is_fan : Option ℕ → Bool
is_fan fan = option_map_or (λ n. nat_le 2 n && nat_le n 65535) fan true

abbrev pub possible_fan : List Row → Option (Option ℕ)
possible_fan rows = if is_fan (number_in (codes "fan") rows) then Some (number_in (codes "fan") rows) else None

-- ---- what each command asks for

abbrev pub merge_in : List Row → Option Request
merge_in rows =
    option_and_then (λ fan. option_and_then (λ caps. option_and_then (λ out. option_map (λ files.
    Merge out.0 out.1 fan caps (is_set (codes "strip") rows) files)
    (files_in rows)) (out_in rows)) (possible_caps rows)) (possible_fan rows)

-- the file that a command reads, the one that it writes, and how that comes under its name
abbrev pub names_in : List Row → Option (Text × Text × Placing)
names_in rows =
    option_and_then (λ file. option_map (λ out. (file, out.0, out.1)) (out_in rows)) (first_of (codes "file") rows)

abbrev pub copy_in : (Text → Text → Placing → Request) → List Row → Option Request
copy_in copy rows = option_map (λ names. copy names.0 names.1 names.2) (names_in rows)

-- the arguments that name the old and the new files of a comparison: the options, or those by place, and not both
abbrev pub side_ids : List Row → Option (Text × Text)
side_ids rows =
    if is_empty (option_values (codes "from") rows) && is_empty (option_values (codes "to") rows)
    then Some (codes "old", codes "new")
    else if is_empty (option_values (codes "old") rows) && is_empty (option_values (codes "new") rows)
    then Some (codes "from", codes "to")
    else None

-- the files of both sides, if there is one or more of each
abbrev pub both_sides : List Text → List Text → Option (List Text × List Text)
both_sides old new = if is_empty old || is_empty new then None else Some (old, new)

abbrev pub sides_in : List Row → Option (List Text × List Text)
sides_in rows =
    option_and_then (λ ids. both_sides (option_values ids.0 rows) (option_values ids.1 rows)) (side_ids rows)

abbrev pub diff_in : List Row → Option Request
diff_in rows =
    option_map (λ sides. Diff (length sides.0) (is_set (codes "strip") rows) (sides.0 ++ sides.1)) (sides_in rows)

abbrev pub dump_of : Bool → Text → List Text → Request
dump_of full file [] = Dump full file
dump_of full file (class ∷ classes) = DumpClasses full file (class ∷ classes)

abbrev pub dump_in : List Row → Option Request
dump_in rows =
    option_map (λ file. dump_of (is_set (codes "all") rows) file (option_values (codes "class") rows))
    (first_of (codes "file") rows)

abbrev pub is_null : Ending → Bool
is_null Line = false
is_null Null = true

-- the commands whose names may end with a zero byte
abbrev pub takes_null : Text → Bool
takes_null command = list_any (bytes_eq command) (codes "check" ∷ codes "merge" ∷ codes "digest"
    ∷ codes "conflicts" ∷ codes "diff" ∷ codes "count" ∷ [])

-- the options of the command ask for names that end as those of lists do
abbrev pub ends_names : Ending → Text → List Row → Bool
ends_names ending command rows = not (takes_null command) || beq (is_set (codes "null") rows) (is_null ending)

-- a check, and a check that continues after files that cannot be read
abbrev pub check_in : Ending → List Row → Option Request
check_in ending rows =
    option_map (if is_set (codes "keep-going") rows then KeepChecking ending else Check ending) (files_in rows)

-- a command over files that may leave out debug programs and source texts
abbrev pub strip_in : (Bool → List Text → Request) → List Row → Option Request
strip_in request rows = option_map (request (is_set (codes "strip") rows)) (files_in rows)

-- the counts of each file, of each package, or of all files, and not two of them
abbrev pub counted : Ending → Bool → Bool → List Text → Option Request
counted ending true true files = None
counted ending true false files = Some (CountEach ending files)
counted ending false true files = Some (CountPackages files)
counted ending false false files = Some (Count files)

-- whether the value of `--by` asks for packages: there is nothing else to count by
abbrev pub by_value : Text → Option Bool
by_value value = if bytes_eq value (codes "package") then Some true else None

-- whether classes are counted by package
abbrev pub by_in : List Row → Option Bool
by_in rows = option_map_or by_value (first_of (codes "by") rows) (Some false)

abbrev pub count_in : Ending → List Row → Option Request
count_in ending rows =
    option_and_then (λ by_package. option_and_then (counted ending (is_set (codes "each") rows) by_package)
    (files_in rows)) (by_in rows)

-- what a command asks for by the matches of its arguments
abbrev pub asked_of : Ending → Text → List Row → Option Request
asked_of ending command rows =
    if bytes_eq command (codes "check") then check_in ending rows
    else if bytes_eq command (codes "merge") then merge_in rows
    else if bytes_eq command (codes "normalise") then copy_in Normalise rows
    else if bytes_eq command (codes "digest") then strip_in (Digest ending) rows
    else if bytes_eq command (codes "conflicts") then strip_in (Conflicts ending) rows
    else if bytes_eq command (codes "diff") then diff_in rows
    else if bytes_eq command (codes "count") then count_in ending rows
    else if bytes_eq command (codes "dump") then dump_in rows
    else if bytes_eq command (codes "repair") then copy_in Repair rows
    else None

-- what the command that was met asks for
abbrev pub asked_by : Ending → Option (Text × List Row) → Option Request
asked_by ending None = None
asked_by ending (Some (command, rows)) = if ends_names ending command rows then asked_of ending command rows else None

-- ---- what words ask for

-- what the words ask for, where clap takes them
abbrev pub asked : Ending → List Text → Option Request
asked ending words = asked_by ending (subcommand_of program_app words)

-- the kinds of error for these arguments: those of clap, and where it takes them one if they ask for nothing; none if
-- they are those of a job
abbrev pub refusal : Ending → List Text → Kinds
refusal ending words =
    or_else (fault_of program_app words) (if is_some (asked ending words) then [] else ValueValidation ∷ [])

-- the words are those of the job: clap takes them, and they ask for exactly that
abbrev pub IsAsked : Ending → List Text → Job → Type 0
IsAsked ending words job = (fault_of program_app words ≡ []) × (asked ending words ≡ Some (request_of job))
