-- Targets of long switch payloads in groups, and the starts of instructions as bits of words.
use Rattle.std.specs.Prelude.{◌≡◌, ◌↔◌, ℕ, ◌+◌, ◌*◌, ◌/◌, ◌%◌, ◌<◌, ◌≤◌, Bool, true, List, length, All, slice_index}
use Rattle.std.specs.Prelude.{Some, Vec, ℤ, pos, ◌+ℤ◌, nat_eq}
use lib.IntN.{negsuc}
use Rattle.std.specs.Int.{bit_at}
use Rattle.std.specs.List.{list_all}
use Rattle.std.specs.HashMap.{HashMap, get}
use Rattle.std.specs.declared.alloc.Global.{Global}
use Rattle.dexspec.specs.Pieces.{Cut, ints_in, is_instruction_start, payload_targets}
use Rattle.dexinsn.specs.declared.target_group.TargetGroup.{TargetGroup}
use Rattle.dexinsn.specs.declared.long_switches.Targets.{Targets}

-- ---- targets in groups

-- from a number on all numbers for which there is a bit pass the test
abbrev pub AllFrom : (ℤ → Bool) → ℤ → ℕ → Type 0
AllFrom test first bits = (i : ℕ) → i < 64 → bit_at bits i ≡ 1 → test (first +ℤ pos i) ≡ true

-- each target of the group passes the test
abbrev pub AllInGroup : (ℤ → Bool) → TargetGroup → Type 0
AllInGroup test g = AllFrom test g.first g.bits

-- all targets pass a test exactly where those of the groups do
abbrev pub AreGrouped : List ℤ → List TargetGroup → Type 0
AreGrouped targets groups = (test : ℤ → Bool) → (list_all test targets ≡ true) ↔ All (AllInGroup test) groups

-- the group has this target beside those of the other
abbrev pub HasBeside : TargetGroup → ℤ → TargetGroup → Type 0
HasBeside other target g = (test : ℤ → Bool) → AllInGroup test g ↔ (AllInGroup test other × (test target ≡ true))

-- ---- starts as bits

-- the bit of a unit is set
unfoldable pub HasBit : List ℕ → ℕ → Type 0
HasBit words k = bit_at (slice_index words (k / 64)) (k % 64) ≡ 1

-- a place is a unit whose bit is set
abbrev pub HasPlace : List ℕ → ℤ → Type 0
HasPlace words (pos k) = HasBit words k
HasPlace words (negsuc k) = ⊥

-- the last word has no bit
abbrev pub EndsEmpty : List ℕ → Type 0
EndsEmpty words = (k : ℕ) → length words * 64 ≤ k + 64 → HasBit words k → ⊥

-- from a place on these bits are set where the mask has bits
abbrev pub HasPlaces : List ℕ → ℤ → ℕ → Type 0
HasPlaces words z mask = (i : ℕ) → i < 64 → bit_at mask i ≡ 1 → HasPlace words (z +ℤ pos i)

-- the bits are those of the units at which instructions begin
pub record AreStartBits (us : List ℕ) (cs : List Cut) (words : List ℕ) : Type 0 where
  pub each : (k : ℕ) → HasBit words k ↔ (is_instruction_start us cs (pos k) ≡ true)
  pub last : EndsEmpty words

-- ---- payloads

-- so it is for each payload whose targets are grouped
abbrev pub ArePayloads : {S : Type 0} → List ℕ → HashMap ℕ (Vec TargetGroup Global) S → Type 0
ArePayloads us m =
    (k : ℕ) (groups : Vec TargetGroup Global) → get nat_eq m k ≡ Some groups
    → AreGrouped (payload_targets us k) groups.items

-- these are the targets of the payload at a unit
pub record AreTargetsAt (us : List ℕ) (unit : ℕ) (t : Targets) : Type 0 where
  pub within : t.first + 2 * t.count ≤ length us
  pub is : payload_targets us unit ≡ ints_in us t.first t.count
