use Rattle.dexinsn.proofs.Common.{sym, ◌∙◌, cuts_of, begins_instruction}
use Rattle.dexinsn.proofs.Outcome.{bad_target_here, bad_target_on, cut_noted, piece_there}
use Rattle.dexinsn.proofs.StartBits.{ends_empty}
use Rattle.dexinsn.proofs.code.first_bad_target.Goals as goal

pub piece_targets_right-requires-clause-last : goal.piece_targets_right-requires-clause-last
piece_targets_right-requires-clause-last c = ends_empty begins_instruction c.args.checker.now.units.now (cuts_of c.args.cuts.now) c.args.checker.now.starts.now c.requires.cuts.starts_are

pub piece_targets_right-requires-clause-piece : goal.piece_targets_right-requires-clause-piece
piece_targets_right-requires-clause-piece c = piece_there c.args.checker.now.units.now c.args.cuts.now c.loop-cut.cut-index (record { unit = 0; units = 0 }) c.loop-cut-test.true c.requires.cuts.pieces

pub piece_targets_right-requires-clause-noted : goal.piece_targets_right-requires-clause-noted
piece_targets_right-requires-clause-noted c = cut_noted c.args.checker.now.units.now (cuts_of c.args.cuts.now) c.args.checker.now.starts.now c.args.checker.now.noted.now c.requires.cuts

pub returns-then-not-piece_targets_right : goal.returns-then-not-piece_targets_right
returns-then-not-piece_targets_right c =
    sym (c.loop-cut.invariant
    ∙ bad_target_here c.args.checker.now.units.now (cuts_of c.args.cuts.now) c.args.cuts.now c.loop-cut.cut-index (record { unit = 0; units = 0 }) c.loop-cut-test.true
    (sym c.if-not-piece_targets_right.true ∙ c.piece_targets_right.ensures (cuts_of c.args.cuts.now) _ c.requires.cuts.starts_are c.requires.cuts.noted_are))

pub loop-cut-preserved : goal.loop-cut-preserved
loop-cut-preserved c =
    c.loop-cut.invariant ∙ bad_target_on c.args.checker.now.units.now (cuts_of c.args.cuts.now) c.args.cuts.now c.loop-cut.cut-index (record { unit = 0; units = 0 }) c.loop-cut-test.true
    (sym c.if-not-piece_targets_right.false ∙ c.piece_targets_right.ensures (cuts_of c.args.cuts.now) _ c.requires.cuts.starts_are c.requires.cuts.noted_are)
