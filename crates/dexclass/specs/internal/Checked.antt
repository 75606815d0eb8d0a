-- What is checked of a class row, after the rows before it.
use Rattle.std.specs.Prelude.{◌≡◌, ℕ, ◌+◌, ◌*◌, ◌<◌, ◌≤◌, Bool, List, All}
use Rattle.dexspec.specs.Bytes.{ushort_at}
use Rattle.dexspec.specs.Classes.{class_idx}
use Rattle.dexspec.specs.Accepted.{IsDefinedBefore}
use Rattle.dexpool.specs.declared.faults.ItemFault.{ItemFault}
use Rattle.dexpool.specs.declared.faults.ItemFault.TheVariants as items
use Rattle.dexids.specs.declared.faults.ReadFault.{ReadFault}
use Rattle.dexids.specs.declared.faults.ReadFault.TheVariants.{Refused, Memory}
use Rattle.dexclass.specs.declared.checked_lists.CheckedLists.{CheckedLists}
use Rattle.dexclass.specs.declared.class_checks.KnownFile.{KnownFile}
use Rattle.dexclass.specs.internal.Rows.{AreDefinedMarks, IsInterfaceIndex, superclass_indices}

-- the types of the class rows before row r are marked
abbrev pub AreSeen : KnownFile → ℕ → List Bool → Type 0
AreSeen file r marks = AreDefinedMarks file.frame.now r marks

-- the index is that of a class, which is defined before row r if the file defines it
abbrev pub IsInterface : KnownFile → ℕ → ℕ → Type 0
IsInterface file r index = IsInterfaceIndex file.frame.now r index

-- so it is for each number of two bytes from `start` to `end`
abbrev pub AreInterfacesIn : List ℕ → ℕ → ℕ → ℕ → Type 0
AreInterfacesIn b r start end = (i : ℕ) → start ≤ i → i < end → IsInterfaceIndex b r (ushort_at b (2 * i))

-- so it is for each number of each part
abbrev pub AreCheckedLists : List ℕ → ℕ → CheckedLists → Type 0
AreCheckedLists b r lists = All (λ range. AreInterfacesIn b r range.start range.end) lists.ranges.items

-- a superclass that the file defines is defined before row r
abbrev pub IsParentBefore : KnownFile → ℕ → ℕ → Type 0
IsParentBefore file r index = All (IsDefinedBefore file.frame.now r) (superclass_indices index)

-- where marks are those of the class rows before a row of this type, the new ones are those of the rows up to it
abbrev pub MarksClass : ℕ → List Bool → List Bool → Type 0
MarksClass index old new =
    (b : List ℕ) (r : ℕ) → class_idx b r ≡ index → AreDefinedMarks b r old → AreDefinedMarks b (r + 1) new

-- the fault reports what the fault of the members of class row r does, with the row
abbrev pub IsFaultAtRow : ItemFault → ℕ → ReadFault → Type 0
IsFaultAtRow items.Memory r fault = fault ≡ Memory
IsFaultAtRow (items.Refused n) r fault = fault ≡ Refused (record { number = n; place = r })
