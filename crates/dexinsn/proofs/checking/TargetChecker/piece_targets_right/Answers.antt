use Rattle.dexinsn.proofs.Common.{ℕ, slice_index, Some, None, ap, sym, ◌∙◌, option_map, Opcode, opcode_of, is_payload_ident, format_of}
use Rattle.dexinsn.proofs.IndexRoom.{size_is, instruction_fits, piece_within}
use Rattle.dexinsn.proofs.Starts.{payload_is}
use Rattle.dexinsn.proofs.RightTargets.{right-payload, right-instruction}
use Rattle.dexinsn.proofs.checking.TargetChecker.piece_targets_right.Goals as goal

pub at-first-requires : goal.at-first-requires
at-first-requires c = let size = size_is _ c.requires.piece in piece_within c.args.self.now.units.now c.args.at size.0 size.1

pub returns-then-is_some : goal.returns-then-is_some
returns-then-is_some c = λ cs n starts noted.
    right-payload c.args.self.now.units.now cs (record { unit = c.args.at; units = n })
    (payload_is c.of.result _ (is_payload_ident (slice_index c.args.self.now.units.now c.args.at)) c.is_some.result (rw c.at-first.ensures.is at c.of.ensures) (sym c.is_some.ensures) ∙ c.if-is_some.true)

pub branch_targets_right-requires-clause-from : goal.branch_targets_right-requires-clause-from
branch_targets_right-requires-clause-from c = let size = size_is _ c.requires.piece in piece_within c.args.self.now.units.now c.args.at size.0 size.1

pub branch_targets_right-requires-clause-within : goal.branch_targets_right-requires-clause-within
branch_targets_right-requires-clause-within c =
    let size = size_is _ c.requires.piece in
    instruction_fits c.args.self.now.units.now c.args.at size.0 (format_of c.in-Some.format) size.1
    (payload_is c.of.result _ (is_payload_ident (slice_index c.args.self.now.units.now c.args.at)) c.is_some.result (rw c.at-first.ensures.is at c.of.ensures) (sym c.is_some.ensures) ∙ c.if-is_some.false)
    (ap (λ (op : ℕ). option_map (λ (o : Opcode). o.format) (opcode_of op)) (sym (rw c.at-first.ensures.is at c.opcode_in.ensures)) ∙ sym c.in-Some.ensures)

pub returns-in-Some : goal.returns-in-Some
returns-in-Some c = λ cs n starts noted.
    c.branch_targets_right.ensures cs starts noted ∙ right-instruction c.args.self.now.units.now cs (record { unit = c.args.at; units = n }) (Some (format_of c.in-Some.format))
    (payload_is c.of.result _ (is_payload_ident (slice_index c.args.self.now.units.now c.args.at)) c.is_some.result (rw c.at-first.ensures.is at c.of.ensures) (sym c.is_some.ensures) ∙ c.if-is_some.false)
    (c.in-Some.ensures ∙ ap (λ (op : ℕ). option_map (λ (o : Opcode). o.format) (opcode_of op)) (rw c.at-first.ensures.is at c.opcode_in.ensures))

pub returns-in-None : goal.returns-in-None
returns-in-None c = λ cs n starts noted.
    right-instruction c.args.self.now.units.now cs (record { unit = c.args.at; units = n }) None
    (payload_is c.of.result _ (is_payload_ident (slice_index c.args.self.now.units.now c.args.at)) c.is_some.result (rw c.at-first.ensures.is at c.of.ensures) (sym c.is_some.ensures) ∙ c.if-is_some.false)
    (c.in-None.ensures ∙ ap (λ (op : ℕ). option_map (λ (o : Opcode). o.format) (opcode_of op)) (rw c.at-first.ensures.is at c.opcode_in.ensures))
