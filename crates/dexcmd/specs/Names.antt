-- The names of a job: those of its inputs, that of its output, and how the output comes under it.
use Rattle.std.specs.Prelude.{ℕ, List, [], ◌∷◌, map, Option, Some, None, string_bytes}
use Rattle.dexargs.specs.declared.words.Job.{Job}
use Rattle.dexargs.specs.declared.words.Placing.{Placing}
use Rattle.dexargs.specs.declared.words.Placing.TheVariants.{InPlace}
use Rattle.dexargs.specs.declared.words.Job.TheVariants.{Check, Dump, DumpClasses, Normalise, Merge, KeepChecking}
use Rattle.dexargs.specs.declared.words.Job.TheVariants.{Digest, Conflicts, Diff, Count, CountEach, CountPackages}
use Rattle.dexargs.specs.declared.words.Job.TheVariants.{Repair}

-- the names of the inputs, in the order in which they are read
abbrev pub input_names : Job → List (List ℕ)
input_names (Check ending files) = map string_bytes files.items
input_names (Dump full file) = string_bytes file ∷ []
input_names (DumpClasses full file classes) = string_bytes file ∷ []
input_names (Normalise file out placing) = string_bytes file ∷ []
input_names (Merge out placing fan caps is_stripped files) = map string_bytes files.items
input_names (KeepChecking ending files) = map string_bytes files.items
input_names (Digest ending is_stripped files) = map string_bytes files.items
input_names (Conflicts ending is_stripped files) = map string_bytes files.items
input_names (Diff old is_stripped files) = map string_bytes files.items
input_names (Count files) = map string_bytes files.items
input_names (CountEach ending files) = map string_bytes files.items
input_names (CountPackages files) = map string_bytes files.items
input_names (Repair file out placing) = string_bytes file ∷ []

-- the name of the output, or none where the job writes to standard output
abbrev pub output_name : Job → Option (List ℕ)
output_name (Check ending files) = None
output_name (Dump full file) = None
output_name (DumpClasses full file classes) = None
output_name (Normalise file out placing) = Some (string_bytes out)
output_name (Merge out placing fan caps is_stripped files) = Some (string_bytes out)
output_name (KeepChecking ending files) = None
output_name (Digest ending is_stripped files) = None
output_name (Conflicts ending is_stripped files) = None
output_name (Diff old is_stripped files) = None
output_name (Count files) = None
output_name (CountEach ending files) = None
output_name (CountPackages files) = None
output_name (Repair file out placing) = Some (string_bytes out)

-- how the output comes under its name: in place where the job writes to standard output
abbrev pub placing : Job → Placing
placing (Check ending files) = InPlace
placing (Dump full file) = InPlace
placing (DumpClasses full file classes) = InPlace
placing (Normalise file out place) = place
placing (Merge out place fan caps is_stripped files) = place
placing (KeepChecking ending files) = InPlace
placing (Digest ending is_stripped files) = InPlace
placing (Conflicts ending is_stripped files) = InPlace
placing (Diff old is_stripped files) = InPlace
placing (Count files) = InPlace
placing (CountEach ending files) = InPlace
placing (CountPackages files) = InPlace
placing (Repair file out place) = place
