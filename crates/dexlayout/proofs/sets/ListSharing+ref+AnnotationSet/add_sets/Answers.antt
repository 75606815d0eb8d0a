use Rattle.dexlayout.proofs.Common.{◌++◌, [], map, take, get_or, subst, arith, get_or_default, SharesSets, set_use}
use Rattle.dexlayout.proofs.SharedUses.{uses_next}
use Rattle.dexlayout.proofs.sets.ListSharing+ref+AnnotationSet.add_sets.Goals as goal

pub loop-i-preserved : goal.loop-i-preserved
loop-i-preserved c = λ m uses known h.
    let ss = c.args.sets.now in
    let i = c.loop-i.i in
    let s = get_or ss i [] in
    subst (λ us. SharesSets m us c.add_set.new.self.items.keys c.add_set.new.self.numbers)
    (uses_next (set_use m) uses ss i s (omega (arith, c.loop-i-test.true, c.len-i-end.ensures)) (get_or_default ss i s [] (omega (arith, c.loop-i-test.true, c.len-i-end.ensures))))
    (c.in_ok-add_set.ensures m (uses ++ map (set_use m) (take i ss)) s c.get.ensures (known i [] (omega (arith, c.loop-i-test.true, c.len-i-end.ensures))) (c.loop-i.invariant m uses known h))
