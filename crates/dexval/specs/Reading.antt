-- Values, sets and directories, as read from a file.
use Rattle.std.specs.Prelude.{◌≡◌, ◌⊎◌, ◌<◌, ◌≤◌, ◌-◌, ◌^◌, ℕ, List, min}
use Rattle.dexspec.specs.Header.{data_off}
use Rattle.dexspec.specs.Values.{Value, Values, ValueAt, value_depth, most_depth, EncodedArrayItemAt}
use Rattle.dexspec.specs.Annotations.{AnnotationSet, Directory, SetAt, DirectoryAt}
use Rattle.dexspec.specs.Mentions.{Mentions}
use Rattle.dexpool.specs.declared.faults.ItemFault.{ItemFault}
use Rattle.dexpool.specs.declared.faults.ItemFault.TheVariants.{Refused, Memory}
use Rattle.dexval.specs.Directories.{directory_weight}
use Rattle.dexval.specs.Items.{Refuses}
use Rattle.dexval.specs.Numbered.{NumberedValue, NumberedValues, NumberedSet, NumberedDirectory, IsKnown, AreKnown}
use Rattle.dexval.specs.Numbered.{IsKnownSet, IsKnownDirectory, value_in, values_in, set_in, directory_in}

-- an encoded_value that nests at most `most_depth` deep is at offset o of the data
pub record EncodedValueAt (b : List ℕ) (o : ℕ) (v : Value) (n : ℕ) : Type 0 where
  pub in_data : data_off b ≤ o
  pub encodes : ValueAt b o v n
  pub shallow : value_depth v ≤ most_depth

-- the numbers are those of symbols, and the value that they denote is at the offset, in n bytes
pub record IsValueAt (b : List ℕ) (off : ℕ) (m : Mentions) (x : NumberedValue) (n : ℕ) : Type 0 where
  pub known : IsKnown m x
  pub at : EncodedValueAt b off (value_in m x) n

-- no value is at the offset; a failed allocation says nothing
abbrev pub IsValueFault : List ℕ → ℕ → ItemFault → Type 0
IsValueFault b off = Refuses 21 ((v : Value) (n : ℕ) → EncodedValueAt b off v n → ⊥)

-- an encoded_array_item of the values is at the offset
pub record AreStaticsAt (b : List ℕ) (off : ℕ) (m : Mentions) (xs : NumberedValues) : Type 0 where
  pub known : AreKnown m xs
  pub at : (n : ℕ) × EncodedArrayItemAt b off (values_in m xs) n

-- no encoded_array_item is at the offset
abbrev pub IsStaticsFault : List ℕ → ℕ → ItemFault → Type 0
IsStaticsFault b off = Refuses 21 ((vs : Values) (n : ℕ) → EncodedArrayItemAt b off vs n → ⊥)

-- an annotation_set_item of the set is at the offset
pub record IsSetAt (b : List ℕ) (off : ℕ) (m : Mentions) (s : NumberedSet) : Type 0 where
  pub known : IsKnownSet m s
  pub at : SetAt b off (set_in m s)

-- no annotation_set_item is at the offset
abbrev pub IsSetFault : List ℕ → ℕ → ItemFault → Type 0
IsSetFault b off = Refuses 22 ((s : AnnotationSet) → SetAt b off s → ⊥)

-- an annotations_directory_item of the directory is at the offset
pub record IsDirectoryAt (b : List ℕ) (off : ℕ) (m : Mentions) (d : NumberedDirectory) : Type 0 where
  pub known : IsKnownDirectory m d
  pub at : DirectoryAt b off (directory_in m d)

-- no annotations_directory_item is at the offset
abbrev pub IsDirectoryFault : List ℕ → ℕ → ItemFault → Type 0
IsDirectoryFault b off = Refuses 22 ((d : Directory) → DirectoryAt b off d → ⊥)

-- an annotations_directory_item of the directory is at the offset, and its sets and lists of sets weigh at most `most`;
-- 2^64 - 1 is no bound
pub record IsDirectoryWithin (b : List ℕ) (off : ℕ) (m : Mentions) (most : ℕ) (d : NumberedDirectory) : Type 0 where
  pub is : IsDirectoryAt b off m d
  pub within : min (2 ^ 64 - 1) (directory_weight (directory_in m d)) ≤ most

-- no annotations_directory_item is at the offset; or if one is, its sets and lists of sets weigh more than `most`. A
-- failed allocation says nothing.
abbrev pub IsDirectoryFaultWithin : List ℕ → ℕ → ℕ → ItemFault → Type 0
IsDirectoryFaultWithin b off most (Refused number) =
    ((number ≡ 22) × ((d : Directory) → DirectoryAt b off d → ⊥))
    ⊎ ((number ≡ 23) × ((d : Directory) → DirectoryAt b off d → most < directory_weight d))
IsDirectoryFaultWithin b off most Memory = Unit {0}
