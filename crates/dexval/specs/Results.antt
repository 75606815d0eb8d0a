-- Values, sets and directories of the code, and their shapes, as the readers and the checks of a file return them.
use Rattle.std.specs.Prelude.{◌≡◌, ℕ, List}
use Rattle.std.specs.Global.{Vec}
use Rattle.dexspec.specs.Annotations.{fields_count, methods_count, parameters_count}
use Rattle.dexspec.specs.Mentions.{Mentions}
use Rattle.dexval.specs.declared.directory.Directory.{Directory}
use Rattle.dexval.specs.declared.directory.MemberCounts.{MemberCounts}
use Rattle.dexval.specs.declared.directory.SharedDirectory.{SharedDirectory}
use Rattle.dexval.specs.declared.directory_checking.DirectoryShape.{DirectoryShape}
use Rattle.dexval.specs.declared.set.AnnotationSet.{AnnotationSet}
use Rattle.dexval.specs.declared.set_checking.SetShape.{SetShape}
use Rattle.dexval.specs.declared.value.Value.{Value}
use Rattle.dexval.specs.declared.value_checking.StaticsShape.{StaticsShape}
use Rattle.dexval.specs.declared.value_checking.ValueShape.{ValueShape}
use Rattle.dexval.specs.CheckedSets.{HasDirectoryOf}
use Rattle.dexval.specs.Checking.{HasValueOf, HasStaticsOf, HasSetOf}
use Rattle.dexval.specs.Code.{value_of, values_of, set_of, directory_of}
use Rattle.dexval.specs.Directories.{HasMembers}
use Rattle.dexval.specs.Reading.{IsValueAt, AreStaticsAt, IsSetAt, IsDirectoryAt, IsDirectoryWithin}
use Rattle.dexval.specs.Shared.{shared_directory_of}

-- ---- what a reader returns

-- the value at the offset, and its size
abbrev pub IsReadValue : List ℕ → ℕ → Mentions → Value × ℕ → Type 0
IsReadValue b off m read = IsValueAt b off m (value_of read.0) read.1

-- the values of the encoded_array_item at the offset
abbrev pub AreReadStatics : List ℕ → ℕ → Mentions → Vec Value → Type 0
AreReadStatics b off m values = AreStaticsAt b off m (values_of values.items)

-- the set at the offset
abbrev pub IsReadSet : List ℕ → ℕ → Mentions → AnnotationSet → Type 0
IsReadSet b off m set = IsSetAt b off m (set_of set)

-- the directory at the offset
abbrev pub IsReadDirectory : List ℕ → ℕ → Mentions → Directory → Type 0
IsReadDirectory b off m directory = IsDirectoryAt b off m (directory_of directory)

-- the directory at the offset, which weighs at most `most`
abbrev pub IsReadWithin : List ℕ → ℕ → Mentions → ℕ → SharedDirectory → Type 0
IsReadWithin b off m most directory = IsDirectoryWithin b off m most (shared_directory_of directory)

-- ---- what a check returns

-- the shape of the value at the offset
abbrev pub HasValueShape : List ℕ → ℕ → Mentions → ValueShape → Type 0
HasValueShape b off m shape = HasValueOf b off m shape.size shape.weight

-- the shape of the encoded_array_item at the offset
abbrev pub HasStaticsShape : List ℕ → ℕ → Mentions → StaticsShape → Type 0
HasStaticsShape b off m shape = HasStaticsOf b off m shape.count shape.size shape.weight

-- the shape of the set at the offset
abbrev pub HasSetShape : List ℕ → ℕ → Mentions → SetShape → Type 0
HasSetShape b off m shape = HasSetOf b off m shape.count shape.weight

-- the shape of the directory at the offset
abbrev pub HasDirectoryShape : List ℕ → ℕ → Mentions → DirectoryShape → Type 0
HasDirectoryShape b off m shape = HasDirectoryOf b off m shape.weight

-- the counts of members of the directory at the offset, which are inside the data with all its pairs
abbrev pub AreMemberCounts : List ℕ → ℕ → MemberCounts → Type 0
AreMemberCounts b off counts =
    HasMembers b off × (counts.fields ≡ fields_count b off) × (counts.methods ≡ methods_count b off)
    × (counts.parameters ≡ parameters_count b off)
