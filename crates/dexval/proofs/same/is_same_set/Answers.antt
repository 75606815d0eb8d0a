use Rattle.dexval.proofs.Common.{rules, ◌<◌, length, arith, annotation_of, renumbered_annotation}
use Rattle.dexval.proofs.Compared.{same_at}
use Rattle.dexval.proofs.same.is_same_set.Goals as goal

pub returns-then-not-is_same_annotation : goal.returns-then-not-is_same_annotation
returns-then-not-is_same_annotation g c =
    let r = g.M.NumberMap.maps c.args.mine.now in
    let q = g.N.NumberMap.maps c.args.theirs.now in
    let xs = c.args.set.now.annotations.items in
    let ys = c.args.other.now.annotations.items in
    let i = c.loop-i.i in
    let mine : i < length xs = search rules in
    let others : i < length ys = omega (arith, mine, c.loop-i.invariant.count) in (
      (λ t. absurd cc),
      (λ e. let same = c.is_same_annotation.ensures.1 (same_at annotation_of (renumbered_annotation r) (renumbered_annotation q) xs ys i c.index.result.now c.index-in-loop-i.result.now mine others c.index.ensures c.index-in-loop-i.ensures e) in cc),
    )
