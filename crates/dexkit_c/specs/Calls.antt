-- What the calls hand out, of files as lists of bytes, and what they may be asked for.
use Rattle.std.specs.Prelude.{◌≡◌, ◌≢◌, ℕ, ◌≤◌, ◌<◌, ◌==◌, if◌then◌else◌, Bool, Option, None, Some, List, [], ◌∷◌, ◌++◌}
use Rattle.std.specs.Prelude.{length, map}
use Rattle.std.specs.List.{AllZip, flat_map}
use Rattle.dexspec.specs.Conditions as conditions
use Rattle.dexspec.specs.Accepted.{number}
use Rattle.dexspec.specs.Depth.{in_class_order}
use Rattle.dexspec.specs.Files.{Collection, definitions}
use Rattle.dexspec.specs.Canonical.{canonical}
use Rattle.dexspec.specs.Merging.{Caps, AreCaps, Plan}
use Rattle.dexhead.specs.Conditions.{condition_name}
use Rattle.dexout.specs.Printed.{shown}
use Rattle.dexclass.specs.Programs.{IsReadAs}
use Rattle.dexmerge.specs.Capping.{caps_of}
use Rattle.dexmerge.specs.Counting.{AreCounts}
use Rattle.dexmerge.specs.Faults.{IsPlanned}
use Rattle.dexmerge.specs.declared.measuring.Counts.{Counts}
use Rattle.dexcanon.specs.Digests.{class_digests}
use Rattle.dexruns.specs.Fans.{IsFanPlan}
use Rattle.dexruns.specs.Merges.{IsFileOf, stripped_if}
use Rattle.dexkit_c.specs.declared.counting.Numbers.{Numbers}
use Rattle.dexkit_c.specs.declared.merging.CapNumbers.{CapNumbers}

-- the file is accepted, and this is the canonical file of what it denotes
pub record IsNormalOf (file out : List ℕ) : Type 0 where
  pub collection : Collection
  pub read : IsReadAs file collection
  pub written : out ≡ canonical collection

-- each of the files is accepted, and these are the collections that they denote
abbrev pub AreReadAs : List (List ℕ) → List Collection → Type 0
AreReadAs files collections = AllZip IsReadAs files collections

-- ---- merges

-- the caps of these numbers
abbrev pub caps_in : CapNumbers → Caps
caps_in numbers =
    caps_of numbers.types numbers.protos numbers.fields numbers.methods numbers.short_strings numbers.weight

-- the fan of a number: 0 is none
abbrev pub fan_in : ℕ → Option ℕ
fan_in fan = if fan == 0 then None else Some fan

-- there is a file to merge, the caps are possible, and so are the fan and the flags
pub record IsAskedRight (count : ℕ) (caps : Caps) (fan flags : ℕ) : Type 0 where
  pub some : 1 ≤ count
  pub caps_are : AreCaps caps
  pub fan_is : fan ≢ 1
  pub flags_are : flags < 2

-- the files are accepted, and these are the bytes of the canonical file of what is kept of their union
pub record IsMergedOf (caps : Caps) (fan : Option ℕ) (is_stripped : Bool) (files : List (List ℕ)) (out : List ℕ) :
    Type 0 where
  pub collections : List Collection
  pub read : AreReadAs files collections
  pub plan : Plan
  pub fanned : IsFanPlan (length files) fan plan
  pub whole : Collection
  pub merged : IsPlanned caps collections plan whole
  pub read_back : IsFileOf (stripped_if is_stripped whole)
  pub written : out ≡ canonical (stripped_if is_stripped whole)

-- ---- counts

-- the counts of these numbers
abbrev pub counts_in : Numbers → Counts
counts_in numbers = record {
  types = numbers.types;
  protos = numbers.protos;
  fields = numbers.fields;
  methods = numbers.methods;
  short_strings = numbers.short_strings;
  weight = numbers.weight;
  classes = numbers.classes;
  strings = numbers.strings;
}

-- the files are accepted, and these are the numbers of their union
pub record AreCountsOf (files : List (List ℕ)) (counts : Counts) : Type 0 where
  pub collections : List Collection
  pub read : AreReadAs files collections
  pub are : AreCounts (flat_map definitions collections) counts

-- ---- digests

-- a name as it is printed, with a 0 after it
abbrev pub ended_name : List ℕ → List ℕ
ended_name units = shown units ++ (0 ∷ [])

-- the names of the classes of a collection, in the order of a canonical file
abbrev pub ended_names : Collection → List ℕ
ended_names K = flat_map ended_name (map (λ d. d.0) (in_class_order (definitions K)))

-- the file is accepted, and these are the digests and the names of its classes
pub record AreDigestsOf (file : List ℕ) (digests : List (List ℕ)) (names : List ℕ) : Type 0 where
  pub collection : Collection
  pub read : IsReadAs file collection
  pub digests_are : digests ≡ class_digests collection
  pub names_are : names ≡ ended_names collection

-- ---- conditions

-- the number is that of a condition, and this is its name
pub record IsNameOf (n : ℕ) (name : List ℕ) : Type 0 where
  pub condition : conditions.Condition
  pub number_is : n ≡ number condition
  pub name_is : name ≡ condition_name condition
