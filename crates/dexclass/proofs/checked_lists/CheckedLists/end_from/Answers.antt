use Rattle.dexclass.proofs.Common.{length, get_or, arith, ap, subst, sym, List}
use Rattle.dexclass.specs.declared.checked_lists.Range16.{Range16}
use Rattle.dexclass.specs.internal.Checked.{AreInterfacesIn}
use Rattle.dexclass.proofs.checked_lists.CheckedLists.end_from.Goals as goal

pub returns-then-at-range-clause-between : goal.returns-then-at-range-clause-between
returns-then-at-range-clause-between c = λ b r lists i le lt.
    let k = c.loop-range.range-index in
    let none : Range16 = record { start = 0; end = 0 } in
    let part = subst (λ (l : List Range16). AreInterfacesIn b r (get_or l k none).start (get_or l k none).end) (sym c.deref-range-items.ensures.value) (lists k none (omega (arith, c.loop-range-test.true, ap length c.deref-range-items.ensures.value))) in
    part i (omega (arith, c.if-range-at.true, le)) lt
