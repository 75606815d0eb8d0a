use Rattle.dexstr.proofs.Common.{◌≡◌, ◌+◌, ◌/◌, ◌≤◌, arith, length, length-append, [], ◌∷◌, ap, refl}
use Rattle.std.specs.Prelude.{slice_index_or}
use Rattle.dexstr.proofs.Outcomes.{from_place}
use Rattle.dexstr.proofs.UnitRuns.{run_more, run_before, run_none, latest_next, blocks_more}
use Rattle.dexstr.specs.internal.Runs.{IsRun, AreBlocks}
use Rattle.dexstr.specs.declared.runs.Run.{Run}
use Rattle.dexstr.proofs.runs.blocks_of.Goals as goal
use Rattle.dexstr.proofs.runs.blocks_of.Goals.{in-Some, in-None, then-left-eq2+in_ok-push, else-left-eq2}

pub places-preserved : goal.places-preserved
places-preserved c =
    let bytes = c.args.bytes.now in
    let n = c.places.left in
    let (latest, three, count, are) = c.places.invariant in
    let within : n ≤ length bytes = omega (arith, c.places-test.true) in
    let is : IsRun bytes n c.match-first_unit.run = elim c.match-first_unit.branch [
      | in-Some w ↦
          let begins = rw from_place at w.in-Some.ensures.found in
          rw (w.run-is, w.after_unit-run.ensures) (run_more bytes n w.in-Some.field-0-0 w.in-Some.rest.now within begins _ (run_before bytes n w.in-Some.field-0-0 w.in-Some.rest.now within begins c.places.latest _ latest))
      | in-None w ↦ rw w.run-is (run_none bytes n (rw from_place at w.in-None.ensures.none))
    ] in
    let none : Run = record { count = 0; left = 0 } in
    let newest = c.match-first_unit.run ∷ slice_index_or c.places.latest 0 none ∷ slice_index_or c.places.latest 1 none ∷ [] in
    let next = latest_next bytes n c.places.latest none c.match-first_unit.run latest is in
    let blocks : (length c.if-left-eq2.kept.items ≡ (n + 1 + 61) / 64) × AreBlocks bytes c.if-left-eq2.kept.items = elim c.if-left-eq2.branch [
      | then-left-eq2+in_ok-push w ↦
          let items = w.in_ok-push.ensures.items in (
            omega (arith, ap (λ bs. length bs.items) w.kept-is, ap length items, length-append c.places.kept.items (newest ∷ []), count, w.if-left-eq2.true),
            rw (w.kept-is, items) (blocks_more bytes c.places.kept.items newest (n + 1) are next (omega (arith, count, w.if-left-eq2.true))),
          )
      | else-left-eq2 w ↦ rw w.kept-is (omega (arith, count, w.if-left-eq2.false), are)
    ] in
    (next, refl, blocks.0, blocks.1)
