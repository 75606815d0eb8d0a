use Rattle.dexclass.proofs.Common.{◌≡◌, ◌∙◌, ◌*◌, ℕ, List, refl, sym, ap, subst, arith, false≢true, ushort_at}
use Rattle.dexclass.specs.internal.Rows.{IsInterfaceIndex}
use Rattle.dexclass.proofs.CheckedParts.{number_more}
use Rattle.dexclass.proofs.class_checks.KnownFile.are_interfaces.Goals as goal

pub returns-then-not-is_class_before : goal.returns-then-not-is_class_before
returns-then-not-is_class_before c = λ r marks. (
  λ e. absurd (false≢true e),
  λ all.
      let b = c.args.self.now.frame.now in
      let is : c.from-index.result ≡ ushort_at b (2 * c.loop-i.i) = c.from-index.ensures ∙ c.u16_at.ensures ∙ ap (λ (l : List ℕ). ushort_at l (2 * c.loop-i.i)) c.bytes-bytes.ensures.bytes in
      (c.if-not-is_class_before.ensures r marks).1 (subst (IsInterfaceIndex b r) (sym is) (all c.loop-i.i c.loop-i.auto.i c.loop-i-test.true)),
)

pub loop-i-preserved : goal.loop-i-preserved
loop-i-preserved c = λ r marks.
    number_more c.args.self.now.frame.now r c.args.range.start c.loop-i.i _ (c.loop-i.invariant r marks) (c.from-index.ensures ∙ c.u16_at.ensures ∙ ap (λ (l : List ℕ). ushort_at l (2 * c.loop-i.i)) c.bytes-bytes.ensures.bytes) ((c.if-not-is_class_before.ensures r marks).0 refl)

pub returns : goal.returns
returns c = λ r marks. (λ e i le lt. c.loop-i.invariant r marks i le (omega (arith, lt, c.loop-i-test.false)), λ all. refl)
