-- The pass over units: the bits that it sets, and what it returns.
use Rattle.std.specs.Prelude.{◌≡◌, ℕ, Bool, List, [], ◌∷◌, ◌++◌, length, ℤ, MatchOption, Option}
use Rattle.dexspec.specs.Mentions.{Mentions}
use Rattle.dexspec.specs.Opcodes.{Format}
use Rattle.dexspec.specs.Pieces.{Cut}
use Rattle.dexinsn.specs.declared.code.Cut.{Cut as CutOfCode}
use Rattle.dexinsn.specs.Bits.{bits_in}
use Rattle.dexinsn.specs.Checking.{AreBitsOf, AreCodeStarts, AreCutWith, ArePassed, HasNoCode, IsChecked}
use Rattle.dexinsn.specs.Checking.{begins_instruction, is_noted}
use Rattle.dexinsn.specs.Split.{are_right_targets, branches_right, cuts_of, targets_payload}

-- ---- bits

-- the bits of pieces become those of these pieces and of one more at the unit
abbrev pub GainPiece : (ℕ → Bool) → List ℕ → ℕ → List ℕ → List ℕ → Type 0
GainPiece test us at old new =
    (cs : List Cut) (n : ℕ) → AreBitsOf test us cs old
    → AreBitsOf test us (cs ++ record { unit = at; units = n } ∷ []) new

-- there are words whose bits these are, and they are those of the instructions of the code
abbrev pub AreCodeStartBits : List ℕ → List Bool → Type 0
AreCodeStartBits us bits = (words : List ℕ) × (bits ≡ bits_in words) × AreCodeStarts us words

-- ---- targets

-- the answer says whether these targets, counted from the instruction at a unit, are starts of instructions
abbrev pub HasListedTargets : List ℕ → List ℕ → ℕ → List ℤ → Bool → Type 0
HasListedTargets us starts at targets answer =
    (cs : List Cut) → AreBitsOf begins_instruction us cs starts → answer ≡ are_right_targets us cs at targets

-- the answer says whether a payload with this first unit begins at the place, with targets that are right
abbrev pub HasPayloadAt : List ℕ → List ℕ → List ℕ → ℕ → ℕ → ℤ → Bool → Type 0
HasPayloadAt us starts noted ident at place answer =
    (cs : List Cut) → AreBitsOf begins_instruction us cs starts → AreBitsOf is_noted us cs noted
    → answer ≡ targets_payload ident us cs at place

-- the answer says whether the instruction at a unit, of this format, has no target or a valid one
abbrev pub HasBranchAt : List ℕ → List ℕ → List ℕ → ℕ → Format → Bool → Type 0
HasBranchAt us starts noted at format answer =
    (cs : List Cut) → AreBitsOf begins_instruction us cs starts → AreBitsOf is_noted us cs noted
    → answer ≡ branches_right us cs at format

-- ---- whole code

-- all units are cut into pieces in range, with this number of indices, and these are the bits of the pieces
abbrev pub ArePassedWhole : List ℕ → Mentions → List ℕ → List ℕ → ℕ → Type 0
ArePassedWhole us m starts noted indices = ArePassed us m starts noted (length us) indices

-- what is found: the number of indices of code in range, whose instructions have these bits, or that there is none
abbrev pub IsFoundWith : List ℕ → Mentions → List ℕ → Option ℕ → Type 0
IsFoundWith us m starts found =
    MatchOption found (HasNoCode us m) (λ indices. IsChecked us m indices × AreCodeStarts us starts)

-- all units are cut into these pieces, and these are the bits of the pieces
abbrev pub AreCutWhole : List ℕ → List ℕ → List ℕ → List CutOfCode → Type 0
AreCutWhole us starts noted cuts = AreCutWith us (cuts_of cuts) starts noted (length us)
