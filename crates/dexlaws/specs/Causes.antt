-- The statements of the laws that definitions are mergeable or have a first cause against it.
use Rattle.std.specs.Prelude.{◌≡◌, ◌⊎◌, ℕ, suc, ◌+◌, ◌<◌, ◌≤◌, max, List, [], ◌∷◌, map, true, false, IsTrue}
use Rattle.std.specs.List.{Contains}
use Rattle.std.specs.declared.cmp.Ordering.TheVariants.{Less}
use Rattle.dexspec.specs.Lists.{AreDistinct, rises}
use Rattle.dexspec.specs.Texts.{Text, text_cmp}
use Rattle.dexspec.specs.Classes.{Definition}
use Rattle.dexspec.specs.Files.{Collection, definitions, AreSame, AreWithin}
use Rattle.dexspec.specs.Depth.{is_defined, above, is_below, HasDepth, depth}
use Rattle.dexspec.specs.Weight.{weight}
use Rattle.dexspec.specs.Merging.{Caps, Cap, cap_number, Exceeds, IsGood, Cause, IsCause, IsFirstCause}

-- the property holds for some name, and for no lesser name
pub record HasLeast (P : Text → Type 0) : Type 0 where
  pub name : Text
  pub holds : P name
  pub least : (other : Text) → P other → text_cmp other name ≡ Less → ⊥

-- the greatest of the numbers, or 0 without numbers
abbrev pub greatest : List ℕ → ℕ
greatest [] = 0
greatest (n ∷ ns) = max n (greatest ns)

-- n is the depth of the name: it is less than n + 1, and not less than n
pub record IsDepth (D : List Definition) (name : Text) (n : ℕ) : Type 0 where
  pub below : is_below D (suc n) name ≡ true
  pub not_below : is_below D n name ≡ false

-- the depth of the name is one more than the greatest depth of its defined parents, or 0 if there are none
abbrev pub IsOneMore : List Definition → Text → Type 0
IsOneMore D name = depth D name ≡ greatest (map (λ parent. depth D parent + 1) (above D name))

-- if the name is defined and has a depth, the fact holds
abbrev pub OnDepth : List Definition → Text → Type 0 → Type 0
OnDepth D name fact = is_defined D name ≡ true → HasDepth D name → fact

-- the first name has a depth, which is less than that of the second
pub record IsLessDeep (D : List Definition) (name other : Text) : Type 0 where
  pub deep : HasDepth D name
  pub less : depth D name < depth D other

-- if this is a defined parent of the name, its depth is less
abbrev pub IsDeeperThan : List Definition → Text → Text → Type 0
IsDeeperThan D name parent = Contains (above D name) parent → IsLessDeep D parent name

-- if the name has a depth among the first definitions, it has the same among the second
abbrev pub KeepsDepth : List Definition → List Definition → Text → Type 0
KeepsDepth D E name = HasDepth D name → depth D name ≡ depth E name

-- some cap is exceeded, and none that is reported before it is
pub record HasFirstExceeded (caps : Caps) (D : List Definition) : Type 0 where
  pub cap : Cap
  pub exceeds : Exceeds caps D cap
  pub first : (other : Cap) → Exceeds caps D other → cap_number other < cap_number cap → ⊥

-- some list has the same members, each once, and no distinct members of the list weigh more
pub record HasMembersOnce (D : List Definition) : Type 0 where
  pub once : List Definition
  pub distinct : AreDistinct once
  pub same : AreSame once D
  pub most : (E : List Definition) → AreDistinct E → AreWithin E D → weight E ≤ weight once

-- each cause against the first definitions is a cause against the second
abbrev pub KeepsCauses : Caps → List Definition → List Definition → Type 0
KeepsCauses caps D E = (cause : Cause) → IsCause caps D cause → IsCause caps E cause

-- mergeable definitions have no cause against them
abbrev pub GoodHasNoCause : Caps → Type 0
GoodHasNoCause caps = (D : List Definition) (cause : Cause) → IsGood caps D → IsCause caps D cause → ⊥

-- definitions with the same members have the same first cause
abbrev pub FirstCauseRestsOnMembers : Caps → Type 0
FirstCauseRestsOnMembers caps = (D E : List Definition) (cause : Cause) → AreSame D E → IsFirstCause caps D cause
    → IsFirstCause caps E cause

-- the fact holds, or it does not
abbrev pub IsDecided : Type 0 → Type 0
IsDecided fact = fact ⊎ (fact → ⊥)

-- there is a first cause
pub record HasFirstCause (caps : Caps) (D : List Definition) : Type 0 where
  pub cause : Cause
  pub first : IsFirstCause caps D cause

-- The definitions of the collection are the members of the list. Their names rise, so that no name occurs twice, and no
-- distinct members of the list weigh more.
pub record AreDefinitionsOf (D : List Definition) (K : Collection) : Type 0 where
  pub members : AreSame (definitions K) D
  pub rise : IsTrue (rises text_cmp (map (λ d. d.0) (definitions K)))
  pub names : AreDistinct (map (λ d. d.0) (definitions K))
  pub distinct : AreDistinct (definitions K)
  pub most : (E : List Definition) → AreDistinct E → AreWithin E D → weight E ≤ weight (definitions K)
