use Rattle.dexmembers.proofs.Common.{◌<◌, length, get_or, [], arith, get_or_default, renumbered_set}
use Rattle.dexmembers.proofs.RenumberingSteps.{same_at}
use Rattle.dexmembers.proofs.same.Maps.same_sets.Goals as goal

pub returns-then-not-same_set : goal.returns-then-not-same_set
returns-then-not-same_set c =
    let r = c.args.self.now.mine.now in
    let q = c.args.self.now.theirs.now in
    let xs = c.args.sets in
    let ys = c.args.others in
    let i = c.loop-i.i in
    let x = get_or xs i [] in
    let y = get_or ys i [] in
    let mine : i < length xs = omega arith in
    let theirs : i < length ys = omega (arith, c.loop-i.invariant.count) in (
      (λ t. absurd cc),
      (λ e.
          let same = (c.same_set.ensures x y c.get.ensures c.get-in-loop-i.ensures).1 (same_at (renumbered_set r) (renumbered_set q) xs ys i x y mine theirs (get_or_default xs i [] x mine) (get_or_default ys i [] y theirs) e) in
          cc),
    )
