use Rattle.dexlayout.proofs.Common.{◌++◌, take, sym, subst, arith, NumberedField, IsKnownField, SharesSets, set_use, field_uses}
use Rattle.dexlayout.proofs.SharedUses.{uses_next}
use Rattle.dexlayout.proofs.sets.ListSharing+ref+AnnotationSet.add_fields.Goals as goal

pub loop-i-preserved : goal.loop-i-preserved
loop-i-preserved c = λ m uses known h.
    let i = c.loop-i.i in
    let f = c.get.result in
    let here : IsKnownField m f = subst (IsKnownField m) (sym c.get.ensures) (known i f (omega (arith, c.loop-i-test.true, c.len-i-end.ensures))) in
    subst (λ us. SharesSets m us c.add_set.new.self.items.keys c.add_set.new.self.numbers)
    (uses_next (λ (g : NumberedField). set_use m g.annotations) uses c.args.fields.now i f (omega (arith, c.loop-i-test.true, c.len-i-end.ensures)) (sym c.get.ensures))
    (c.in_ok-add_set.ensures m (uses ++ field_uses m (take i c.args.fields.now)) f.annotations c.annotations.ensures here.annotations_known (c.loop-i.invariant m uses known h))
