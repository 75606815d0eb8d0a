-- Why units are not split, by name.
use Rattle.std.specs.Prelude.{◌≡◌, ℕ, List, []}
use Rattle.dexinsn.specs.declared.code.SplitFault.{SplitFault}
use Rattle.dexinsn.specs.declared.code.SplitFault.TheVariants.{Empty, Piece, Target, Memory}
use Rattle.dexinsn.specs.declared.code_fault.CodeFault.{CodeFault}
use Rattle.dexinsn.specs.Split.{BreaksAt, HasBadTargetAt}

-- why the units are no code; a failed allocation says nothing
abbrev pub IsSplitFault : List ℕ → SplitFault → Type 0
IsSplitFault us Empty = us ≡ []
IsSplitFault us (Piece n) = BreaksAt us n
IsSplitFault us (Target n) = HasBadTargetAt us n
IsSplitFault us Memory = Unit {0}

-- why the units are not cut to their end
abbrev pub IsCutFault : List ℕ → SplitFault → Type 0
IsCutFault us Empty = ⊥
IsCutFault us (Piece n) = BreaksAt us n
IsCutFault us (Target n) = ⊥
IsCutFault us Memory = Unit {0}

-- the fault's number, and the unit at which it is found
abbrev pub kind_of : SplitFault → ℕ
kind_of Empty = 1
kind_of (Piece n) = 2
kind_of (Target n) = 3
kind_of Memory = 4

abbrev pub unit_of : SplitFault → ℕ
unit_of Empty = 0
unit_of (Piece n) = n
unit_of (Target n) = n
unit_of Memory = 0

-- the fault has these numbers
pub record HasNumbersOf (named : SplitFault) (fault : CodeFault) : Type 0 where
  pub kind_is : fault.kind ≡ kind_of named
  pub unit_is : fault.unit ≡ unit_of named
