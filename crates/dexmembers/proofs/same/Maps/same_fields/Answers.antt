use Rattle.dexmembers.proofs.Common.{◌<◌, length, arith}
use Rattle.dexmembers.specs.{renumbered_field}
use Rattle.dexmembers.proofs.RenumberingSteps.{same_at}
use Rattle.dexmembers.proofs.same.Maps.same_fields.Goals as goal

pub returns-then-not-same_field : goal.returns-then-not-same_field
returns-then-not-same_field c =
    let r = c.args.self.now.mine.now in
    let q = c.args.self.now.theirs.now in
    let others : c.loop-i.i < length c.args.others = omega (arith, c.loop-i.invariant.count) in (
      (λ t. absurd cc),
      (λ e.
          let same = c.same_field.ensures.1 (same_at (renumbered_field r) (renumbered_field q) c.args.fields c.args.others c.loop-i.i c.get.result c.get-in-loop-i.result (omega arith) others c.get.ensures c.get-in-loop-i.ensures e) in
          cc),
    )
