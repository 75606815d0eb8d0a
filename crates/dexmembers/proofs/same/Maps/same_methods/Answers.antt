use Rattle.dexmembers.proofs.Common.{◌<◌, length, arith}
use Rattle.dexmembers.specs.{renumbered_method}
use Rattle.dexmembers.proofs.RenumberingSteps.{same_at}
use Rattle.dexmembers.proofs.same.Maps.same_methods.Goals as goal

pub returns-then-not-same_method : goal.returns-then-not-same_method
returns-then-not-same_method c =
    let r = c.args.self.now.mine.now in
    let q = c.args.self.now.theirs.now in
    let others : c.loop-i.i < length c.args.others = omega (arith, c.loop-i.invariant.count) in (
      (λ t. absurd cc),
      (λ e.
          let same = c.same_method.ensures.1 (same_at (renumbered_method r) (renumbered_method q) c.args.methods c.args.others c.loop-i.i c.get.result c.get-in-loop-i.result (omega arith) others c.get.ensures c.get-in-loop-i.ensures e) in
          cc),
    )
