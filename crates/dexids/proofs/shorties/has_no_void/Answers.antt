use Rattle.dexids.proofs.Common.{◌≡◌, ◌+◌, Bool, drop, false, sym, subst, arith, ◌↔◌, All, IsNotVoid}
use Rattle.dexids.proofs.Spellings.{void_here, no_void_here, void_decides}
use Rattle.dexids.proofs.shorties.has_no_void.Goals as goal
use Rattle.dexids.proofs.shorties.has_no_void.Goals.{then-unit-eq-VOID, else-unit-eq-VOID}

pub loop-unit-preserved : goal.loop-unit-preserved
loop-unit-preserved c =
    let i = c.loop-unit.unit-index in
    elim c.if-unit-eq-VOID.branch [
      | then-unit-eq-VOID w ↦ subst (λ (found : Bool). All IsNotVoid c.args.units.now ↔ ((found ≡ false) × All IsNotVoid (drop (i + 1) c.args.units.now))) (sym w.has_void-is)
          (void_here c.args.units.now i c.loop-unit.has_void c.loop-unit.invariant c.loop-unit-test.true w.if-unit-eq-VOID.true)
      | else-unit-eq-VOID w ↦ subst (λ (found : Bool). All IsNotVoid c.args.units.now ↔ ((found ≡ false) × All IsNotVoid (drop (i + 1) c.args.units.now))) (sym w.has_void-is)
          (no_void_here c.args.units.now i c.loop-unit.has_void c.loop-unit.invariant c.loop-unit-test.true w.if-unit-eq-VOID.false)
    ]

pub returns : goal.returns
returns c = void_decides c.args.units.now c.loop-unit.unit-index c.loop-unit.has_void (omega (arith, c.loop-unit-test.false)) c.loop-unit.invariant
