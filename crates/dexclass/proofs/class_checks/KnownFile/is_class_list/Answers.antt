use Rattle.dexclass.proofs.Common.{refl, arith, false≢true}
use Rattle.dexclass.proofs.CheckedParts.{parts_join}
use Rattle.dexclass.proofs.class_checks.KnownFile.is_class_list.Goals as goal

pub returns-then-saturating_sub-lt-LONG_LIST-clause-list : goal.returns-then-saturating_sub-lt-LONG_LIST-clause-list
returns-then-saturating_sub-lt-LONG_LIST-clause-list c = λ r marks lists. c.are_interfaces.ensures r marks

pub loop-start-init : goal.loop-start-init
loop-start-init c = record { after = c.end_from-start.ensures.after; known = λ r marks lists. c.end_from-start.ensures.between c.args.self.now.frame.now r lists }

pub returns-then-not-are_interfaces-clause-list : goal.returns-then-not-are_interfaces-clause-list
returns-then-not-are_interfaces-clause-list c = λ r marks lists. (
  λ e. absurd (false≢true e),
  λ all. (c.if-not-are_interfaces.ensures r marks).1 (λ i le lt. all i (omega (arith, le, c.loop-start.invariant.after)) (omega (arith, lt, c.min-end.ensures))),
)

pub loop-start-preserved : goal.loop-start-preserved
loop-start-preserved c = record {
  after = omega (arith, c.loop-start.invariant.after, c.loop-start-test.true, c.min-end.ensures, c.end_from-start-in-loop-start.ensures.after);
  known = λ r marks lists.
      let b = c.args.self.now.frame.now in
      parts_join b r _ _ _ (c.loop-start.invariant.known r marks lists)
      (parts_join b r _ _ _ ((c.if-not-are_interfaces.ensures r marks).0 refl) (c.end_from-start-in-loop-start.ensures.between b r lists));
}

pub returns-clause-list : goal.returns-clause-list
returns-clause-list c = λ r marks lists. (λ e i le lt. c.loop-start.invariant.known r marks lists i le (omega (arith, lt, c.loop-start-test.false)), λ all. refl)

pub returns-clause-checked : goal.returns-clause-checked
returns-clause-checked c = λ r marks lists. c.in_ok-add.ensures c.args.self.now.frame.now r lists (λ i le lt. c.loop-start.invariant.known r marks lists i le (omega (arith, lt, c.loop-start-test.false)))
