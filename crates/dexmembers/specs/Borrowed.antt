-- Sets and code as they are borrowed, if there are some.
use Rattle.std.specs.Prelude.{◌≡◌, [], MatchOption, Option, Some, None}
use Rattle.std.specs.Borrow.{Bor}
use Rattle.dexval.specs.Code.{set_of}
use Rattle.dexval.specs.Numbered.{NumberedSet}
use Rattle.dexval.specs.declared.set.AnnotationSet.{AnnotationSet}
use Rattle.dexcode.specs.Numbered.{NumberedItem}

-- this is the set that is borrowed; none is an empty one
abbrev pub IsBorrowedSet : Option (Bor AnnotationSet) → NumberedSet → Type 0
IsBorrowedSet set is = MatchOption set (is ≡ []) (λ set. set_of set.now ≡ is)

-- this is the code that is borrowed, or there is none
abbrev pub IsBorrowedCode : Option NumberedItem → Option NumberedItem → Type 0
IsBorrowedCode code is = MatchOption code (is ≡ None) (λ code. is ≡ Some code)

-- it holds of the set that is borrowed
abbrev pub ForSet : Option (Bor AnnotationSet) → (NumberedSet → Type 0) → Type 0
ForSet set P = (is : NumberedSet) → IsBorrowedSet set is → P is

-- it holds of the code that is borrowed
abbrev pub ForCode : Option NumberedItem → (Option NumberedItem → Type 0) → Type 0
ForCode code P = (is : Option NumberedItem) → IsBorrowedCode code is → P is
