use Rattle.std.proofs.lemmas.Bool.Decides.{nat_tests}
use Rattle.dexcode.proofs.Common.{◌≡◌, ◌==◌, ◌^◌, ◌<◌, ◌*◌, ◌%◌, ℕ, Bool, true, false, refl, ◌∙◌, if◌then◌else◌, ushort, length-ushort, [], length, ap, arith, common_steps, gap_bytes, all_named, numbered_item_bytes, numbered_code_bytes}
use Rattle.dexcode.proofs.CodeSizes.{item_alone, item_after, list_most}
use Rattle.dexcode.proofs.borrowed_code.BorrowedCode.item_len.Goals as goal
use Rattle.dexcode.proofs.borrowed_code.BorrowedCode.item_len.Goals.{After-parts}

gap_by : (b : Bool) (m : ℕ) → (m == 1) ≡ b → m < 2 → length (if b then ushort 0 else []) ≡ 2 * m
gap_by true m e lt = grind (arith, length-ushort 0, nat_tests, e)
gap_by false m e lt = grind (arith, nat_tests, e)

gap_length : (n : ℕ) → length (gap_bytes n) ≡ 2 * (n % 2)
gap_length n = gap_by (n % 2 == 1) (n % 2) refl (omega arith)

-- the code_item, by the tries and the handlers as they are stored
stored : (c : After-parts) (debug_off : ℕ) → length (numbered_item_bytes debug_off c.self.inside.pieces.now (all_named c.parts.result.1.now c.parts.result.0.now)) ≡ length (numbered_code_bytes debug_off c.args.self.now)
stored c debug_off =
    ap (λ tries. length (numbered_item_bytes debug_off c.self.inside.pieces.now tries)) c.parts.ensures.named
    ∙ ap (λ code. length (numbered_item_bytes debug_off code.body code.tries)) c.self.view_is

pub encode_list-requires : goal.encode_list-requires
encode_list-requires c = c.parts.ensures.stored.light

pub overflow_add-result-3 : goal.overflow_add-result-3
overflow_add-result-3 c =
    let zero : 0 < 2 ^ 64 = omega arith in
    omega (arith, c.encode_list.ensures zero, list_most c.parts.result.1.now, c.parts.ensures.stored.light, c.parts.ensures.stored.few)

pub returns-then-is_empty-clause-numbered : goal.returns-then-is_empty-clause-numbered
returns-then-is_empty-clause-numbered c = λ debug_off.
    let none : c.parts.result.0.now ≡ [] = grind (arith, common_steps) in
    omega (arith, item_alone debug_off c.self.inside.pieces.now c.parts.result.1.now c.parts.result.0.now none, c.unit_count-units.ensures)
    ∙ stored (goal.at.returns-then-is_empty-clause-numbered c).After-parts debug_off

pub returns-then-is_empty-clause-symbolic : goal.returns-then-is_empty-clause-symbolic
returns-then-is_empty-clause-symbolic c = λ m debug_off x rising encodes. returns-then-is_empty-clause-numbered c debug_off ∙ ap length (c.code_bytes_law.ensures.bytes m debug_off c.args.self.now x rising encodes)

pub returns-clause-numbered : goal.returns-clause-numbered
returns-clause-numbered c = λ debug_off.
    let some : c.parts.result.0.now ≡ [] → ⊥ = λ e. grind (arith, common_steps) in
    let zero : 0 < 2 ^ 64 = omega arith in
    let units = c.unit_count-units.ensures in
    omega (arith, c.encode_list.ensures zero, list_most c.parts.result.1.now, c.parts.ensures.stored.light, item_after debug_off c.self.inside.pieces.now c.parts.result.1.now c.parts.result.0.now c.parts.ensures.stored some, units, gap_length c.unit_count-units.result, ap (λ n. length (gap_bytes n)) units)
    ∙ stored (goal.at.returns-clause-numbered c).After-parts debug_off

pub returns-clause-symbolic : goal.returns-clause-symbolic
returns-clause-symbolic c = λ m debug_off x rising encodes. returns-clause-numbered c debug_off ∙ ap length (c.code_bytes_law.ensures.bytes m debug_off c.args.self.now x rising encodes)
