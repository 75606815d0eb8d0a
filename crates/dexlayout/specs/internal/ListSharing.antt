-- Items that equal uses share, where the uses come in lists: what calls add to them.
use Rattle.std.specs.Prelude.{Bool, List, [], ◌∷◌, ◌++◌, Option, Result, OnOk}
use Rattle.dexlayout.specs.declared.list_sharing.ListSharing.{ListSharing}
use Rattle.dexlayout.specs.declared.list_sharing.ListShared.{ListShared}
use Rattle.dexlayout.specs.internal.Sharing.{HaveItems}

-- the uses so far are these
abbrev pub HasListUses : {X : Type 0} → (X → X → Bool) → List (Option X) → ListSharing X → Type 0
HasListUses same uses sharing = HaveItems same uses sharing.items.keys sharing.numbers

-- one use more
abbrev pub AddsListUse : {X A E : Type 0} → (X → X → Bool) → Result A E → Option X → ListSharing X → ListSharing X
    → Type 0
AddsListUse {X} same result used old new =
    (uses : List (Option X)) → HasListUses same uses old → OnOk result (HasListUses same (uses ++ used ∷ []) new)

-- the items and numbers are those of the uses
abbrev pub AreOfListUses : {X : Type 0} → (X → X → Bool) → List (Option X) → ListShared X → Type 0
AreOfListUses same uses shared = HaveItems same uses shared.written.items shared.numbers
