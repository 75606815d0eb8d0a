-- Whether targets are right, one after the other.
use Rattle.dexinsn.proofs.Common.{◌≡◌, ℕ, suc, ◌+◌, ◌^◌, ◌<◌, ◌==◌, ℤ, pos, ◌+ℤ◌, to_z, of_z, w32, w64, Bool, true, false, ◌&&◌, ◌||◌, List, slice_index, Option, Some, None, refl, ap, sym, ◌∙◌, arith, eq-eqb, nat_abs, SFits, option_map, ints, Opcode, Format, opcode_of, F31t, Cut, all_of_option, branch_offset, has_right_targets, int_in, ints_in, is_instruction_start, is_payload_ident, is_right_target, low_byte, payload_ident, payload_targets, branches_right, are_right_targets, targets_payload, starts_with}

-- whether n targets, from unit i on, are right
abbrev pub do_target : List ℕ → List Cut → ℕ → ℕ → ℕ → Bool
do_target us cs at i n = are_right_targets us cs at (ints_in us i n)

-- by the first of them
pub do_target-more : (us : List ℕ) (cs : List Cut) (at i j n k : ℕ) (z : ℤ) (b : Bool) → n ≡ suc k → j ≡ i + 2 → pos at +ℤ int_in us i ≡ z → is_instruction_start us cs z ≡ b → do_target us cs at i n ≡ (b && do_target us cs at j k)
do_target-more us cs at i j n k z b is next target start =
    ap (do_target us cs at i) is ∙ ap (λ (t : Bool). t && do_target us cs at (i + 2) k) (ap (is_instruction_start us cs) target ∙ start) ∙ ap (λ (p : ℕ). b && do_target us cs at p k) (sym next)

-- the place that the code adds up
pub place_is : (at : ℕ) (meant offset wide : ℤ) → at < 2 ^ 62 → SFits w32 offset → offset ≡ meant → wide ≡ to_z w32 (of_z w32 offset) → pos at +ℤ meant ≡ to_z w64 (of_z w64 (to_z w64 at +ℤ to_z w64 (of_z w64 wide)))
place_is at meant offset wide small fits is widened = omega (arith, ints)

-- ---- a branch

-- an instruction that branches nowhere is right
pub branches-none : (us : List ℕ) (cs : List Cut) (at : ℕ) (f : Format) → None ≡ branch_offset f us at → true ≡ branches_right us cs at f
branches-none us cs at f is = ap (all_of_option (is_right_target us cs at f)) is

-- one that refers to a payload is right where the payload and its targets are
pub branches-payload : (us : List ℕ) (cs : List Cut) (at : ℕ) (f : Format) (ident : ℕ) (z place : ℤ) (r : Bool) → f ≡ F31t → Some z ≡ branch_offset f us at → pos at +ℤ z ≡ place → ident ≡ payload_ident (low_byte (slice_index us at)) → r ≡ targets_payload ident us cs at place → r ≡ branches_right us cs at f
branches-payload us cs at f ident z place r named is target kind says =
    says ∙ ap (λ (i : ℕ). targets_payload i us cs at place) kind ∙ ap (targets_payload (payload_ident (low_byte (slice_index us at))) us cs at) (sym target) ∙ ap (λ (g : Format). is_right_target us cs at g z) (sym named)
    ∙ ap (all_of_option (is_right_target us cs at f)) is

-- the target of one of another format is an instruction
has_targets-other : (us : List ℕ) (cs : List Cut) (at : ℕ) (f : Format) (z : ℤ) → (f ≡ F31t → ⊥) → is_instruction_start us cs (pos at +ℤ z) ≡ is_right_target us cs at f z
has_targets-other us cs at F31t z other = absurd (other refl)
has_targets-other us cs at _ z other = refl

-- one that branches is right where an instruction begins at its target
pub branches-other : (us : List ℕ) (cs : List Cut) (at : ℕ) (f : Format) (z place : ℤ) (r : Bool) → (f ≡ F31t → ⊥) → Some z ≡ branch_offset f us at → pos at +ℤ z ≡ place → r ≡ is_instruction_start us cs place → r ≡ branches_right us cs at f
branches-other us cs at f z place r other is target says = says ∙ ap (is_instruction_start us cs) (sym target) ∙ has_targets-other us cs at f z other ∙ ap (all_of_option (is_right_target us cs at f)) is

-- ---- a payload that an instruction refers to

-- where the payload begins its targets decide
pub has_targets-payload : (ident : ℕ) (us : List ℕ) (cs : List Cut) (at k : ℕ) (z : ℤ) (r : Bool) → starts_with (λ u. u == ident) us cs z ≡ (slice_index us k == ident) → slice_index us k ≡ ident → z ≡ pos k → r ≡ are_right_targets us cs at (payload_targets us k) → r ≡ targets_payload ident us cs at z
has_targets-payload ident us cs at k z r starts same place says =
    says ∙ ap (λ (p : ℤ). are_right_targets us cs at (payload_targets us (nat_abs p))) (sym place)
    ∙ ap (λ (b : Bool). b && are_right_targets us cs at (payload_targets us (nat_abs z))) (sym (starts ∙ eq-eqb (slice_index us k) ident same))

-- where none begins the answer is no
pub has_targets-nowhere : (ident : ℕ) (us : List ℕ) (cs : List Cut) (at : ℕ) (z : ℤ) → starts_with (λ u. u == ident) us cs z ≡ false → false ≡ targets_payload ident us cs at z
has_targets-nowhere ident us cs at z starts = ap (λ (b : Bool). b && are_right_targets us cs at (payload_targets us (nat_abs z))) (sym starts)

-- ---- an instruction

-- the targets of a piece are right: it is a payload, or an instruction that branches right
right-is : (us : List ℕ) (cs : List Cut) (c : Cut) (b : Bool) → is_payload_ident (slice_index us c.unit) ≡ b → has_right_targets us cs c ≡ (b || all_of_option (λ (o : Opcode). branches_right us cs c.unit o.format) (opcode_of (low_byte (slice_index us c.unit))))
unfolding has_right_targets
right-is us cs c b is = ap (λ (t : Bool). t || all_of_option (λ (o : Opcode). branches_right us cs c.unit o.format) (opcode_of (low_byte (slice_index us c.unit)))) is

-- the targets of a payload by itself are not checked
pub right-payload : (us : List ℕ) (cs : List Cut) (c : Cut) → is_payload_ident (slice_index us c.unit) ≡ true → true ≡ has_right_targets us cs c
right-payload us cs c is = sym (right-is us cs c true is)

-- a test of the format alone asks the same of the opcode and of its format
by_format : (test : Format → Bool) (o : Option Opcode) (f : Option Format) → f ≡ option_map (λ (p : Opcode). p.format) o → all_of_option test f ≡ all_of_option (λ (p : Opcode). test p.format) o
by_format test None f is = ap (all_of_option test) is
by_format test (Some p) f is = ap (all_of_option test) is

-- the targets of an instruction are right where it branches right
pub right-instruction : (us : List ℕ) (cs : List Cut) (c : Cut) (f : Option Format) → is_payload_ident (slice_index us c.unit) ≡ false → f ≡ option_map (λ (o : Opcode). o.format) (opcode_of (low_byte (slice_index us c.unit))) → all_of_option (branches_right us cs c.unit) f ≡ has_right_targets us cs c
right-instruction us cs c f plain is = by_format (branches_right us cs c.unit) (opcode_of (low_byte (slice_index us c.unit))) f is ∙ sym (right-is us cs c false plain)
