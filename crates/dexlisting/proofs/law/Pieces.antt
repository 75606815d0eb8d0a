-- The units of a piece say what it is.
use Rattle.dexspec.proofs.Common.{◌≡◌, ℕ, List, Some, None, ap, sym, subst, ◌∙◌, slice_index, true, false, if◌then◌else◌, option_and_then}
use Rattle.dexspec.specs.Opcodes.{opcode_of}
use Rattle.dexspec.specs.Pieces.{Piece, Instruction, Payload, DenotesPiece, index_pool, with_index, is_wide_index, is_payload_ident, low_byte}
use Rattle.dexspec.specs.Symbols.{pool_of}
use Rattle.dexspec.proofs.wellformed.ShortStrings.{first_kept}

-- what the units of a piece say of it
abbrev pub FitsUnits : Piece → Type 0
FitsUnits (Instruction us None) = (is_payload_ident (slice_index us 0) ≡ false) × (index_pool us ≡ None)
FitsUnits (Instruction us (Some s)) = index_pool us ≡ Some (pool_of s)
FitsUnits (Payload us) = is_payload_ident (slice_index us 0) ≡ true

-- an index does not change the first unit
pub first_unit_kept : (us : List ℕ) → slice_index (with_index 0 us) 0 ≡ slice_index us 0
first_unit_kept us = first_kept us (is_wide_index us)

-- a piece of code fits its units
pub denotes_fits : (us : List ℕ) (p : Piece) → DenotesPiece (λ i s. i ≡ 0) us p → FitsUnits p
denotes_fits us (Instruction xs None) h = subst FitsUnits (ap (λ (zs : List ℕ). Instruction zs None) (sym h.2)) (h.0, h.1)
denotes_fits us (Instruction xs (Some s)) h = ap index_pool h.2 ∙ ap (λ u. if is_payload_ident u then None else option_and_then (λ op. op.index) (opcode_of (low_byte u))) (first_unit_kept us) ∙ h.0
denotes_fits us (Payload xs) h = ap (λ zs. is_payload_ident (slice_index zs 0)) h.1 ∙ h.0
