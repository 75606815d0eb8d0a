-- What a call adds to the uses that were found before.
use Rattle.std.specs.Prelude.{◌≡◌, ℕ, ◌<◌, Bool, List, [], ◌∷◌, ◌++◌, Option, None, Result, MatchOption, OnOk, All}
use Rattle.std.specs.Prelude.{length, map, slice_index_or}
use Rattle.std.specs.Borrow.{Bor}
use Rattle.dexspec.specs.Texts.{Text}
use Rattle.dexspec.specs.Annotations.{AnnotationSet}
use Rattle.dexspec.specs.Mentions.{Mentions}
use Rattle.dexspec.specs.Placing.{unless_empty}
use Rattle.dexval.specs.declared.set.AnnotationSet.{AnnotationSet as CodeSet}
use Rattle.dexval.specs.Code.{set_of}
use Rattle.dexval.specs.Numbered.{NumberedSet, type_at, IsKnownSet}
use Rattle.dexmembers.specs.Numbered.{NumberedField, NumberedMethod, IsKnownField, IsKnownMethod}
use Rattle.dexclass.specs.Numbered.{NumberedClass}
use Rattle.dexclass.specs.Uses.{IsKnownClass}
use Rattle.dexlayout.specs.declared.sharing.Sharing.{Sharing}
use Rattle.dexlayout.specs.declared.sharing.Shared.{Shared}
use Rattle.dexlayout.specs.declared.list_sharing.ListSharing.{ListSharing}
use Rattle.dexlayout.specs.internal.Sharing.{HaveItems}
use Rattle.dexlayout.specs.internal.SharedUses.{AreTypes, SharesLists, SharesSets, interfaces_use, set_use}

-- ---- uses of any kind

-- the uses so far are these
abbrev pub HasUses : {X : Type 0} → (X → X → Bool) → List (Option X) → Sharing X → Type 0
HasUses same uses sharing = HaveItems same uses sharing.items.keys sharing.numbers.items

-- one use more
abbrev pub AddsUse : {X A E : Type 0} → (X → X → Bool) → Result A E → Option X → Sharing X → Sharing X → Type 0
AddsUse {X} same result used old new =
    (uses : List (Option X)) → HasUses same uses old → OnOk result (HasUses same (uses ++ used ∷ []) new)

-- the items and numbers are those of the uses
abbrev pub AreOfUses : {X : Type 0} → (X → X → Bool) → List (Option X) → Shared X → Type 0
AreOfUses same uses shared = HaveItems same uses shared.written.items shared.numbers.items

-- the uses of a thing more, where the numbers in it are known
abbrev pub AddsUses : {X Y T A E : Type 0} → (Mentions → List (Option Y) → List X → List (Option ℕ) → Type 0)
    → Result A E → Sharing X → Sharing X → (Mentions → T → Type 0) → (Mentions → T → List (Option Y)) → T → Type 0
AddsUses {Y = Y} Shares result old new IsKnown uses_of x =
    (m : Mentions) (uses : List (Option Y)) → IsKnown m x → Shares m uses old.items.keys old.numbers.items
    → OnOk result (Shares m (uses ++ uses_of m x) new.items.keys new.numbers.items)

-- ---- type lists

-- the use of a list
abbrev pub list_uses : Mentions → List ℕ → List (Option (List Text))
list_uses m list = unless_empty (map (type_at m) list) ∷ []

-- a use of a list more, which the use at a place has, if there is one
abbrev pub AddsListAt : {A E : Type 0} → ℕ → Result A E → Sharing (List ℕ) → Sharing (List ℕ) → List ℕ → Type 0
AddsListAt place result old new list =
    (m : Mentions) (uses : List (Option (List Text))) → AreTypes m list
    → (place < length uses → slice_index_or uses place None ≡ unless_empty (map (type_at m) list))
    → SharesLists m uses old.items.keys old.numbers.items
    → OnOk result (SharesLists m (uses ++ list_uses m list) new.items.keys new.numbers.items)

-- the uses of all protos more
abbrev pub AddsParameters : {A E : Type 0} → Mentions → Result A E → Sharing (List ℕ) → Sharing (List ℕ) → Type 0
AddsParameters m result old new =
    (uses : List (Option (List Text))) → SharesLists m uses old.items.keys old.numbers.items
    → OnOk result
    (SharesLists m (uses ++ map (λ p. unless_empty p.parameters) m.protos) new.items.keys new.numbers.items)

-- the numbers in classes are known
abbrev pub AreKnownClasses : Mentions → List NumberedClass → Type 0
AreKnownClasses m cs = All (IsKnownClass m) cs

-- the uses of the classes' interfaces
abbrev pub interfaces_uses : Mentions → List NumberedClass → List (Option (List Text))
interfaces_uses m cs = map (interfaces_use m) cs

-- ---- sets

-- the use of a set more, which is empty where there is none
abbrev pub AddsSet : {A E : Type 0} → Result A E → ListSharing (Bor CodeSet) → ListSharing (Bor CodeSet)
    → Option (Bor CodeSet) → Type 0
AddsSet result old new set =
    (m : Mentions) (uses : List (Option AnnotationSet)) (meant : NumberedSet)
    → MatchOption set (meant ≡ []) (λ s. set_of s.now ≡ meant) → IsKnownSet m meant
    → SharesSets m uses old.items.keys old.numbers
    → OnOk result (SharesSets m (uses ++ set_use m meant ∷ []) new.items.keys new.numbers)

-- the uses of the sets of a thing more, where the numbers in it are known
abbrev pub AddsSets : {T A E : Type 0} → Result A E → ListSharing (Bor CodeSet) → ListSharing (Bor CodeSet)
    → (Mentions → T → Type 0) → (Mentions → T → List (Option AnnotationSet)) → T → Type 0
AddsSets result old new IsKnown uses_of x =
    (m : Mentions) (uses : List (Option AnnotationSet)) → IsKnown m x → SharesSets m uses old.items.keys old.numbers
    → OnOk result (SharesSets m (uses ++ uses_of m x) new.items.keys new.numbers)

-- the numbers in a method's sets of parameters are known
abbrev pub AreKnownParameters : Mentions → List NumberedSet → Type 0
AreKnownParameters m sets = All (IsKnownSet m) sets

-- the uses of such sets
abbrev pub set_uses : Mentions → List NumberedSet → List (Option AnnotationSet)
set_uses m sets = map (set_use m) sets

-- the numbers in fields are known
abbrev pub AreKnownFields : Mentions → List NumberedField → Type 0
AreKnownFields m fields = All (IsKnownField m) fields

-- those in methods
abbrev pub AreKnownMethods : Mentions → List NumberedMethod → Type 0
AreKnownMethods m methods = All (IsKnownMethod m) methods
