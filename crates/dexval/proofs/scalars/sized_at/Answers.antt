use Rattle.dexval.proofs.Common.{sym, value_of}
use Rattle.dexval.proofs.ScalarsRead.{spelled_encoded, no_width, no_number, no_symbol}
use Rattle.dexval.proofs.Symbolless.{spelled_scalar}
use Rattle.dexval.proofs.scalars.sized_at.Goals as goal

pub returns-in_err-width-clause-read : goal.returns-in_err-width-clause-read
returns-in_err-width-clause-read c = λ p.
    rw c.from_residual.ensures (λ depth. no_width c.args.bytes.now c.args.at c.args.pools.now p c.requires.array c.requires.annotation c.requires.null c.requires.no c.requires.yes depth (sym c.in_err-width.ensures))

pub returns-in_err-number-clause-read : goal.returns-in_err-number-clause-read
returns-in_err-number-clause-read c = λ p.
    rw c.from_residual-in_err-number.ensures (λ depth. no_number c.args.bytes.now c.args.at c.args.pools.now p c.requires.array c.requires.annotation c.requires.null c.requires.no c.requires.yes depth c.in_ok-width.width (sym c.in_ok-width.ensures) c.in_err-number.ensures)

pub returns-in_err-value-clause-read : goal.returns-in_err-value-clause-read
returns-in_err-value-clause-read c = λ p.
    rw c.from_residual-in_err-value.ensures (λ depth. no_symbol c.args.bytes.now c.args.at c.args.pools.now p c.requires.array c.requires.annotation c.requires.null c.requires.no c.requires.yes depth c.in_ok-width.width c.in_ok-number.number.now _ (sym c.in_ok-width.ensures) c.in_ok-number.ensures c.in_err-value.ensures)

pub returns-clause-read : goal.returns-clause-read
returns-clause-read c = λ p. spelled_encoded c.args.bytes.now c.args.at c.args.pools.now p _ c.in_ok-width.width c.in_ok-number.number.now _ _ (sym c.in_ok-width.ensures) c.in_ok-number.ensures c.in_ok-value.ensures

pub returns-clause-scalar : goal.returns-clause-scalar
returns-clause-scalar c = spelled_scalar c.args.pools.now _ c.in_ok-number.number.now (value_of c.in_ok-value.value) c.in_ok-value.ensures
