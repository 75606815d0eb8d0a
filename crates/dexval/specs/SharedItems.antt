-- Items of a file that its classes share.
use Rattle.std.specs.Prelude.{ℕ, List, Option, IfSome, nat_eq}
use Rattle.std.specs.HashMap.{get}
use Rattle.dexspec.specs.Mentions.{Mentions}
use Rattle.dexval.specs.declared.shared_items.SharedItems.{SharedItems}
use Rattle.dexval.specs.Reading.{AreStaticsAt, IsSetAt}

-- each item is at its offset
pub record AreShared (b : List ℕ) (m : Mentions) (items : SharedItems) : Type 0 where
  pub sets_shared : (off : ℕ) → IfSome (get nat_eq items.sets off) (λ set. IsSetAt b off m set.value)
  pub values_shared : (off : ℕ)
      → IfSome (get nat_eq items.values off) (λ values. AreStaticsAt b off m values.value)

-- so is each item, if some are shared
abbrev pub AreSharedIn : List ℕ → Mentions → Option SharedItems → Type 0
AreSharedIn b m items = IfSome items (AreShared b m)
