-- What the cuts and faults of the code mean.
use Rattle.std.specs.Prelude.{Result, Ok, Err, ◌≡◌, ◌≢◌, ◌⊎◌, Vec, ℕ, ◌+◌, ◌<◌, Bool, not, List, [], ◌∷◌, length, drop}
use Rattle.std.specs.Prelude.{map, slice_index, Option, Some, None, ℤ, pos, ◌+ℤ◌, nat_abs, ◌&&◌}
use Rattle.std.specs.List.{find, list_any, list_all}
use Rattle.std.specs.declared.alloc.Global.{Global}
use Rattle.std.specs.Option.{option_map}
use Rattle.std.specs.Ordering.{int_eq}
use Rattle.dexspec.specs.Opcodes.{Format}
use Rattle.dexspec.specs.Pieces.{all_of_option, IsCode, branch_offset, is_right_target, Cut, AreCut, has_right_targets}
use Rattle.dexspec.specs.Pieces.{is_instruction_start, is_payload_start, payload_targets, piece_size}
use Rattle.dexinsn.specs.declared.code.Cut.{Cut as CutOfCode}
use Rattle.dexinsn.specs.declared.code_fault.CodeFault.{CodeFault}

-- ---- cuts

abbrev pub cut_of : CutOfCode → Cut
cut_of c = record { unit = c.unit; units = c.units }

abbrev pub cuts_of : List CutOfCode → List Cut
cuts_of cuts = map cut_of cuts

-- a piece of this many units begins at this unit
abbrev pub IsPieceAt : List ℕ → Cut → Type 0
IsPieceAt us c = piece_size c.unit (drop c.unit us) ≡ Some c.units

-- the number of units of all the pieces
abbrev pub units_of_all : List Cut → ℕ
units_of_all [] = 0
units_of_all (c ∷ cs) = c.units + units_of_all cs

-- a piece begins at the place, with a unit that passes the test
abbrev pub starts_with : (ℕ → Bool) → List ℕ → List Cut → ℤ → Bool
starts_with test us cs z = list_any (λ c. int_eq (pos c.unit) z && test (slice_index us c.unit)) cs

-- the targets, counted from the instruction at a unit, are starts of instructions
abbrev pub are_right_targets : List ℕ → List Cut → ℕ → List ℤ → Bool
are_right_targets us cs at targets = list_all (λ target. is_instruction_start us cs (pos at +ℤ target)) targets

-- a payload with this first unit begins at the place, and its targets are right
abbrev pub targets_payload : ℕ → List ℕ → List Cut → ℕ → ℤ → Bool
targets_payload ident us cs at z =
    is_payload_start ident us cs z && are_right_targets us cs at (payload_targets us (nat_abs z))

-- the instruction at a unit, which has this format, has no target or a valid one
abbrev pub branches_right : List ℕ → List Cut → ℕ → Format → Bool
branches_right us cs at format = all_of_option (is_right_target us cs at format) (branch_offset format us at)

-- ---- faults

-- the units are cut into pieces up to unit n, where no piece begins
pub record BreaksAt (us : List ℕ) (n : ℕ) : Type 0 where
  pub cuts : List Cut
  pub within : n < length us
  pub cut : AreCut 0 us cuts (drop n us)
  pub none : piece_size n (drop n us) ≡ None

-- the unit of the first of these pieces with a wrong target, if there is one
abbrev pub first_bad_target_of : List ℕ → List Cut → List Cut → Option ℕ
first_bad_target_of us cs some = option_map (λ c. c.unit) (find (λ c. not (has_right_targets us cs c)) some)

-- the same of all pieces
abbrev pub first_bad_target : List ℕ → List Cut → Option ℕ
first_bad_target us cs = first_bad_target_of us cs cs

-- all units are cut, and the first piece with a wrong target is at unit n
pub record HasBadTargetAt (us : List ℕ) (n : ℕ) : Type 0 where
  pub cuts : List Cut
  pub cut : AreCut 0 us cuts []
  pub first : first_bad_target us cuts ≡ Some n

-- why the units are no code, in this order; a failed allocation says nothing of them
abbrev pub IsFault : List ℕ → CodeFault → Type 0
IsFault us fault =
    ((fault.kind ≡ 1) × (fault.unit ≡ 0) × (us ≡ []))
    ⊎ ((fault.kind ≡ 2) × BreaksAt us fault.unit)
    ⊎ ((fault.kind ≡ 3) × HasBadTargetAt us fault.unit)
    ⊎ ((fault.kind ≡ 4) × (fault.unit ≡ 0))

-- an answer that is true of the units: their pieces, or a fault of theirs
abbrev pub IsResult : List ℕ → Result (List Cut) CodeFault → Type 0
IsResult us (Ok cs) = IsCode us cs
IsResult us (Err fault) = IsFault us fault × (fault.kind ≢ 4)

-- the answer is this fault
abbrev pub IsReported : Result (List Cut) CodeFault → CodeFault → Type 0
IsReported (Ok cs) fault = ⊥
IsReported (Err reported) fault = (reported.kind ≡ fault.kind) × (reported.unit ≡ fault.unit)

-- what is returned is this, unless an allocation failed
abbrev pub IsReturned : Result (List Cut) CodeFault → Result (Vec CutOfCode Global) CodeFault → Type 0
IsReturned answer (Ok cuts) = Ok (cuts_of cuts.items) ≡ answer
IsReturned answer (Err fault) = fault.kind ≢ 4 → IsReported answer fault

-- each answer that is true of the units is what is returned, unless an allocation failed
abbrev pub IsOnlyResult : List ℕ → Result (Vec CutOfCode Global) CodeFault → Type 0
IsOnlyResult us result = (answer : Result (List Cut) CodeFault) → IsResult us answer → IsReturned answer result
