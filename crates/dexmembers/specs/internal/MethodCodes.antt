-- The code of methods as it is read, one after the other.
use Rattle.std.specs.Prelude.{◌≢◌, ◌⊎◌, ℕ, ◌<◌, ◌≤◌, List, Option, Some, None, sum_by}
use Rattle.std.specs.Prelude.{option_to_list, ◌≡◌, ◌+◌, MatchOption}
use Rattle.std.specs.List.{AllZip, Contains}
use Rattle.dexspec.specs.Lists.{OrNone, SomeAt, BothOrNone}
use Rattle.dexspec.specs.Code.{Code, CodeAt}
use Rattle.dexspec.specs.Mentions.{Mentions}
use Rattle.dexpool.specs.declared.faults.ItemFault.{ItemFault}
use Rattle.dexpool.specs.declared.faults.ItemFault.TheVariants.{Refused, Memory}
use Rattle.dexpool.specs.Numberings.{AreRising}
use Rattle.dexcode.specs.Checking.{one_code_weight}
use Rattle.dexcode.specs.Numbered.{NumberedItem}
use Rattle.dexcode.specs.Meaning.{DenotesCode}
use Rattle.dexcode.specs.Reading.{IsCodeFault, IsDebugOrNone}
use Rattle.dexdebug.specs.Debug.{NumberedDebug}
use Rattle.dexdebug.specs.DebugReading.{IsDebugFault}
use Rattle.dexmembers.specs.HeldCodes.{methods_in}
use Rattle.dexmembers.specs.internal.Attaching.{held_codes}
use Rattle.dexmembers.specs.declared.class_data.EncodedMethod.{EncodedMethod}
use Rattle.dexmembers.specs.declared.row_reader.RowReader.{RowReader}
use Rattle.dexmembers.specs.declared.codes.KeptCodes.{KeptCodes}
use Rattle.dexmembers.specs.declared.code_list.StoredCode.{StoredCode}
use Rattle.dexmembers.specs.declared.kept.Kept.{Kept}
use Rattle.dexmembers.specs.declared.method_list.MethodList.{MethodList}
use Rattle.dexmembers.specs.internal.Kept.{AreNoted, AreNotedPlaces, IsKeptAt}
use Rattle.dexmembers.specs.internal.Stored.{AreStoredCodes, IsAlone, codes_with, item_at}
use Rattle.dexval.specs.Tables.{IsPlaceIn}

-- the same; none weighs nothing
abbrev pub optional_code_weight : Option Code → ℕ
optional_code_weight c = sum_by one_code_weight (option_to_list c)

-- at the offset of each method is its code, or the offset is 0 and there is none
abbrev pub AreCodesAt : List ℕ → List EncodedMethod → List (Option Code) → Type 0
AreCodesAt b xs codes = AllZip (λ x c. OrNone (SomeAt CodeAt) None b x.code_off c) xs codes

-- the methods have code, or none
abbrev pub HaveCodes : List ℕ → List EncodedMethod → Type 0
HaveCodes b xs = (codes : List (Option Code)) × AreCodesAt b xs codes

-- at the offset is the code, or the offset is 0 and there is none
pub record IsCodeOrNone (b : List ℕ) (off : ℕ) (m : Mentions) (code : Option NumberedItem) : Type 0 where
  pub symbolic : Option Code
  pub at : OrNone (SomeAt CodeAt) None b off symbolic
  pub encodes : BothOrNone (DenotesCode m) code symbolic

-- the offset is that of code which is refused; a failed allocation says nothing
abbrev pub IsCodeOrNoneFault : List ℕ → ℕ → ItemFault → Type 0
IsCodeOrNoneFault b off Memory = Unit {0}
IsCodeOrNoneFault b off (Refused number) = (off ≢ 0) × IsCodeFault b off (Refused number)

-- the code of the methods, where it weighs no more than it may
pub record AreCodesOf (b : List ℕ) (m : Mentions) (xs : List EncodedMethod) (most : ℕ)
    (codes : List (Option NumberedItem)) : Type 0 where
  pub symbolic : List (Option Code)
  pub at : AreCodesAt b xs symbolic
  pub are_encoded : AllZip (BothOrNone (DenotesCode m)) codes symbolic
  pub light : sum_by optional_code_weight symbolic ≤ most

-- a weight is taken from another, where that is not less
abbrev pub IsTaken : ℕ → ℕ → Option ℕ → Type 0
IsTaken left weight result = MatchOption result (left < weight) (λ rest. rest + weight ≡ left)

-- it holds of each code, or none, that the numbers denote under a numbering whose symbols rise
abbrev pub ForDenotedOrNone : Option NumberedItem → (Mentions → Option Code → Type 0) → Type 0
ForDenotedOrNone c P = (m : Mentions) (x : Option Code) → AreRising m → BothOrNone (DenotesCode m) c x → P m x

-- the code of one of the methods is refused with this number
pub record HasRefusedCode (b : List ℕ) (xs : List EncodedMethod) (number : ℕ) : Type 0 where
  pub method : EncodedMethod
  pub among : Contains xs method
  pub coded : method.code_off ≢ 0
  pub failed : IsCodeFault b method.code_off (Refused number)

-- the fault is that of the code of one of the methods; a failed allocation says nothing
abbrev pub IsCodesFault : List ℕ → List EncodedMethod → ItemFault → Type 0
IsCodesFault b xs Memory = Unit {0}
IsCodesFault b xs (Refused number) = HasRefusedCode b xs number

-- so it is, or the code of the methods, if it is there, weighs more than it may: 23
abbrev pub IsCodesFaultWithin : List ℕ → List EncodedMethod → ℕ → ItemFault → Type 0
IsCodesFaultWithin b xs most Memory = Unit {0}
IsCodesFaultWithin b xs most (Refused number) =
    HasRefusedCode b xs number
    ⊎ ((number ≡ 23)
    × ((codes : List (Option Code)) → AreCodesAt b xs codes → most < sum_by optional_code_weight codes))

-- ---- as it is read

-- the methods have the code of those of a list of class data
abbrev pub CodesWithin : RowReader → List EncodedMethod → MethodList × ℕ → Type 0
CodesWithin reader listed methods =
    AreCodesOf reader.frame.now reader.pools.now listed reader.most (held_codes (methods_in methods.0))

-- ---- as it is kept

-- the code that is kept
abbrev pub kept_codes : KeptCodes → List NumberedItem
kept_codes kept = codes_with kept.debugs.items.items kept.codes.items.items

-- where there is code, the debug program at its place is there, those before stay, and it has no other; otherwise
-- nothing is kept beside those before
abbrev pub IsDebugKept : Option (StoredCode NumberedItem) → List NumberedDebug → List NumberedDebug → Type 0
IsDebugKept None old new = new ≡ old
IsDebugKept (Some x) old new = IsAlone x × IsKeptAt (item_at new x.debug) old new x.debug

-- each place that is noted is one of what is kept
pub record ArePlacesOfCodes (kept : KeptCodes) : Type 0 where
  pub codes_placed : AreNoted (λ off place. IsPlaceIn (kept_codes kept) place) kept.codes
  pub debugs_placed : AreNotedPlaces kept.debugs
  pub stored : AreStoredCodes kept.debugs.items.items kept.codes.items.items

-- at each noted place is the debug program of the offset, or none at 0
abbrev pub AreReadDebugs : List ℕ → Mentions → Kept NumberedDebug → Type 0
AreReadDebugs b m kept = AreNoted (λ off place. IsDebugOrNone b off m (item_at kept.items.items place)) kept

-- and the code of the offset, or none
pub record AreReadCodes (b : List ℕ) (m : Mentions) (kept : KeptCodes) : Type 0 where
  pub codes_read : AreNoted (λ off place. IsCodeOrNone b off m (item_at (kept_codes kept) place)) kept.codes
  pub debugs_read : AreReadDebugs b m kept.debugs

-- the offset is that of a debug program which is refused; a failed allocation says nothing
abbrev pub IsDebugOrNoneFault : List ℕ → ℕ → ItemFault → Type 0
IsDebugOrNoneFault b off Memory = Unit {0}
IsDebugOrNoneFault b off (Refused number) = (off ≢ 0) × IsDebugFault b off (Refused number)
