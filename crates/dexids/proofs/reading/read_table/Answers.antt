use Rattle.dexids.proofs.Common.{sym, ap, subst, ◌∙◌, arith, Condition, number, IsFault}
use Rattle.dexids.specs.declared.faults.ReadFault.TheVariants.{Refused}
use Rattle.dexids.proofs.Refusing.{refused}
use Rattle.dexids.proofs.reading.read_table.Goals as goal

pub returns-in-None-clause-err : goal.returns-in-None-clause-err
returns-in-None-clause-err g c =
    let b = g.R.TableReader.file c.args.reader.now in
    let is = c.refused.ensures ∙ ap (λ (x : Condition). Refused (record { number = number x; place = c.loop-i.i })) c.rows-condition.ensures.condition in
    subst (IsFault b) (sym is) (refused b g.R.TableReader.condition c.loop-i.i (c.law.ensures.condition b c.loop-i.i) c.requires.before (omega (arith, c.rows-condition.ensures.count)) c.loop-i.invariant.rows.held (rw c.in-None.is at c.in_ok-row.ensures.row))
