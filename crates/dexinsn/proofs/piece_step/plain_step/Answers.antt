use Rattle.dexinsn.proofs.Common.{sym, ◌∙◌, arith}
use Rattle.dexinsn.proofs.Plain.{plain_step, some_units}
use Rattle.dexinsn.proofs.piece_step.plain_step.Goals as goal

pub overflow_add-at : goal.overflow_add-at
overflow_add-at c = omega (arith, c.in_ok-row.ensures.small)

pub at-requires : goal.at-requires
at-requires c = let plain = c.in_ok-row.ensures in omega (arith, plain.within, some_units _ c.in_ok-row.row plain.row_is plain.least)

pub returns : goal.returns
returns c = λ m limits.
    rw (c.from-2.ensures, c.count_of_index.ensures) (plain_step c.args.units.now m c.args.at c.in_ok-row.row c.in_ok-row.ensures (omega (arith, sym (c.from.ensures ∙ c.at.ensures.is), c.limit.ensures m limits)) (omega (arith, c.at.ensures.is)))
