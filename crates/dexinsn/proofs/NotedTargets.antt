-- Whether all pieces have valid targets, by those that are noted.
use Rattle.dexinsn.proofs.Common.{and_first, or_parts, ◌≡◌, ℕ, ◌+◌, ◌*◌, ◌<◌, ◌==◌, ◌&&◌, Bool, true, false, List, length, get_or, slice_index, Option, Some, None, refl, ap, sym, ◌∙◌, subst, arith, eq-eqb, eqb-true, IsTrue, option_map, option_map_or, All, Any, list_any, All-from_get_or, All-get_or, list_any_at, Any-from_list_any, Opcode, Format, opcode_of, F10t, F20t, F21t, F22t, F30t, F31t, Cut, branch_offset, has_right_targets, is_payload_ident, low_byte, Mentions, uint_at, RegistersAt, length-ushorts_at, ArePools, HasBit, PiecesShape, parts_in, pieces_with, AreCodeIndices, AreUnitsAt, indices_at, IsPieceAt, AreBitsOf, AreCodeStarts, AreNoted, ArePassed, AreAllRight, HasTargetsAt, HasNoCode, HasPiecesOf, IsChecked, IsShapeAt, begins_instruction, branches, is_noted, has_targets}
use Rattle.dexinsn.specs.{units_in}
use Rattle.dexinsn.proofs.StoredRead.{few_units, read_pieces, read_stored}
use Rattle.dexinsn.proofs.PutUnits.{stored_length}
use Rattle.dexinsn.proofs.Lined.{count_for}
use Rattle.dexinsn.proofs.RightTargets.{branches-none, right-instruction}
use Rattle.dexinsn.proofs.Starts.{starts_with-pos, piece_at}
use Rattle.dexinsn.proofs.Passed.{all_cut}
use Rattle.dexinsn.proofs.Once.{whole_once}

-- a format that does not branch has no target
no_offset : (f : Format) (us : List ℕ) (at : ℕ) → branches f ≡ false → None ≡ branch_offset f us at
no_offset F10t us at e = absurd cc
no_offset F20t us at e = absurd cc
no_offset F21t us at e = absurd cc
no_offset F22t us at e = absurd cc
no_offset F30t us at e = absurd cc
no_offset F31t us at e = absurd cc
no_offset _ us at e = refl

-- a piece that is not noted is right
by_opcode : (us : List ℕ) (cs : List Cut) (c : Cut) (o : Option Opcode) → opcode_of (low_byte (slice_index us c.unit)) ≡ o → is_payload_ident (slice_index us c.unit) ≡ false → option_map_or (λ p. branches p.format) o false ≡ false → true ≡ has_right_targets us cs c
by_opcode us cs c None is plain nowhere = right-instruction us cs c None plain (ap (option_map (λ (o : Opcode). o.format)) (sym is))
by_opcode us cs c (Some p) is plain nowhere = branches-none us cs c.unit p.format (no_offset p.format us c.unit nowhere) ∙ right-instruction us cs c (Some p.format) plain (ap (option_map (λ (o : Opcode). o.format)) (sym is))

plain_right : (us : List ℕ) (cs : List Cut) (c : Cut) → is_noted (slice_index us c.unit) ≡ false → true ≡ has_right_targets us cs c
plain_right us cs c none = let u = slice_index us c.unit in by_opcode us cs c (opcode_of (low_byte u)) refl (or_parts (is_payload_ident u) (has_targets u) none).0 (or_parts (is_payload_ident u) (has_targets u) none).1

-- each piece that is noted has its bit
noted_bit : (us : List ℕ) (cs : List Cut) (noted : List ℕ) (i : ℕ) (d : Cut) → AreBitsOf is_noted us cs noted → i < length cs → is_noted (slice_index us (get_or cs i d).unit) ≡ true → HasBit noted (get_or cs i d).unit
noted_bit us cs noted i d bits lt is =
    let c : Cut = get_or cs i d in
    let found = list_any_at (λ (b : Cut). b.unit == c.unit) cs i d lt (eq-eqb c.unit c.unit refl) in
    (bits.each c.unit).1 (starts_with-pos is_noted us cs c.unit ∙ ap (λ (b : Bool). b && is_noted (slice_index us c.unit)) found ∙ is)

-- where all that are noted are right all are
pub all_right : (us starts noted : List ℕ) → ((k : ℕ) → HasBit noted k → HasTargetsAt us starts noted k true) → AreAllRight us starts noted true
all_right us starts noted each = λ cs pieces sb nb. All-from_get_or (λ c. IsTrue (has_right_targets us cs c)) cs (record { unit = 0; units = 0 }) (λ i lt.
    by_note cs sb nb i lt (is_noted (slice_index us (get_or cs i (record { unit = 0; units = 0 })).unit)) refl)
  where
    by_note : (cs : List Cut) → AreBitsOf begins_instruction us cs starts → AreBitsOf is_noted us cs noted → (i : ℕ) → i < length cs → (b : Bool) → is_noted (slice_index us (get_or cs i (record { unit = 0; units = 0 })).unit) ≡ b → IsTrue (has_right_targets us cs (get_or cs i (record { unit = 0; units = 0 })))
    by_note cs sb nb i lt true e = let c : Cut = get_or cs i (record { unit = 0; units = 0 }) in sym (each c.unit (noted_bit us cs noted i (record { unit = 0; units = 0 }) nb lt e) cs c.units sb nb)
    by_note cs sb nb i lt false e = sym (plain_right us cs (get_or cs i (record { unit = 0; units = 0 })) e)

-- where one is wrong they are not all right
pub one_wrong : (us starts noted : List ℕ) (k : ℕ) → HasBit noted k → HasTargetsAt us starts noted k false → AreAllRight us starts noted false
one_wrong us starts noted k has wrong = λ cs sb nb all.
    let found : Any (λ (c : Cut). (c.unit == k) ≡ true) cs = Any-from_list_any (λ (c : Cut). c.unit == k) cs (and_first (list_any (λ c. c.unit == k) cs) (is_noted (slice_index us k)) (sym (starts_with-pos is_noted us cs k) ∙ (nb.each k).0 has)) in
    let c : Cut = found.1 in
    let at : c.unit ≡ k = eqb-true c.unit k found.4 in
    let right : IsTrue (has_right_targets us cs c) = subst (λ (b : Cut). IsTrue (has_right_targets us cs b)) found.3 (All-get_or (λ c. IsTrue (has_right_targets us cs c)) cs found.0 c found.2 all) in
    let here : false ≡ has_right_targets us cs c = wrong cs c.units sb nb ∙ ap (λ (u : ℕ). has_right_targets us cs (record { unit = u; units = c.units })) (sym at) in absurd cc

-- ---- the whole

-- each bit is that of a piece
pub bits_noted : (us : List ℕ) (cs : List Cut) (noted : List ℕ) → All (IsPieceAt us) cs → AreBitsOf is_noted us cs noted → AreNoted us noted
bits_noted us cs noted pieces bits = record { inside = bits.inside; pieces = λ k has. piece_at us cs k pieces (and_first (list_any (λ c. c.unit == k) cs) (is_noted (slice_index us k)) (sym (starts_with-pos is_noted us cs k) ∙ (bits.each k).0 has)) }

pub are_noted : (us : List ℕ) (m : Mentions) (starts noted : List ℕ) (indices : ℕ) → ArePassed us m starts noted (length us) indices → AreNoted us noted
are_noted us m starts noted indices h = bits_noted us h.cuts noted h.pieces h.noted_are

pub checked : (us : List ℕ) (m : Mentions) (starts noted : List ℕ) (indices : ℕ) → 0 < length us → ArePassed us m starts noted (length us) indices → AreAllRight us starts noted true → IsChecked us m indices
checked us m starts noted indices some h right = record {
  cuts = h.cuts;
  code = record { some = some; cut = all_cut us m starts noted indices h; targets = right h.cuts h.pieces h.starts_are h.noted_are };
  in_range = h.in_range;
  counted = h.counted;
  fit = h.fit;
}

pub bad_target : (us : List ℕ) (m : Mentions) (starts noted : List ℕ) (indices : ℕ) → ArePassed us m starts noted (length us) indices → AreAllRight us starts noted false → HasNoCode us m
bad_target us m starts noted indices h wrong = λ cuts code all.
    wrong h.cuts h.starts_are h.noted_are (subst (λ (cs : List Cut). All (λ c. IsTrue (has_right_targets us cs c)) cs) (whole_once us cuts h.cuts code.cut (all_cut us m starts noted indices h)) code.targets)

-- the bits that the pass leaves are those of the code
pub code_starts : (us : List ℕ) (m : Mentions) (starts noted : List ℕ) (indices : ℕ) → ArePassed us m starts noted (length us) indices → AreCodeStarts us starts
code_starts us m starts noted indices h cuts code = subst (λ (cs : List Cut). AreBitsOf begins_instruction us cs starts) (whole_once us h.cuts cuts (all_cut us m starts noted indices h) code.cut) h.starts_are

-- ---- the shape

-- what is checked is code with these indices
pub checked_indices : (us : List ℕ) (m : Mentions) (indices : ℕ) → (h : IsChecked us m indices) → AreCodeIndices us m (indices_at us h.cuts)
checked_indices us m indices h = record { cuts = h.cuts; code = h.code; read = record { are = refl; in_range = h.in_range; fit = h.fit } }

-- a shape of a code_item
pub shape_there : (b : List ℕ) (off : ℕ) (m : Mentions) (bytes : List ℕ) (s : PiecesShape) → AreUnitsAt b off bytes → RegistersAt b off s.registers s.ins s.outs → s.units ≡ length (units_in bytes) → IsChecked (units_in bytes) m s.indices → IsShapeAt b off m s
shape_there b off m bytes s at registers count h =
    let l : length (units_in bytes) ≡ uint_at b (off + 12) = ap length at.units ∙ length-ushorts_at b (off + 16) (uint_at b (off + 12)) in
    record {
      room = at.room;
      registers = registers;
      units = sym (count ∙ l);
      few = omega (arith, at.few, count, l);
      checked = subst (λ (us : List ℕ). IsChecked us m s.indices) at.units h;
    }

-- pieces of that shape
pub pieces_there : (b : List ℕ) (off : ℕ) (m : Mentions) (bytes : List ℕ) (s : PiecesShape) → ArePools b m → AreUnitsAt b off bytes → RegistersAt b off s.registers s.ins s.outs → s.units ≡ length (units_in bytes) → IsChecked (units_in bytes) m s.indices → HasPiecesOf b off m s
pieces_there b off m bytes s pools at registers count h =
    let us : List ℕ = units_in bytes in
    let read : AreCodeIndices us m (indices_at us h.cuts) = checked_indices us m s.indices h in
    let stored = read_stored us m (indices_at us h.cuts) (few_units b off bytes at) read in
    record {
      pieces = pieces_with (parts_in us) (indices_at us h.cuts);
      at = read_pieces b off m bytes (indices_at us h.cuts) pools at read;
      registers = registers;
      units = stored_length us (indices_at us h.cuts) stored ∙ ap (λ (n : ℕ). 2 * n) (sym count);
      indices = count_for us (indices_at us h.cuts) stored ∙ h.counted;
    }
