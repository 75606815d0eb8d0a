use Rattle.dexclass.proofs.Common.{◌≡◌, ◌∙◌, ◌++◌, ◌∷◌, [], ap, arith, get_or, length, sym, take_all, take_more}
use Rattle.dexclass.proofs.programs.Program.copy.Goals as goal

pub loop-class-preserved : goal.loop-class-preserved
loop-class-preserved c =
    let xs = c.self.inside.classes.items in
    let d = c.class-item.result in
    let same : c.in_ok-copy.field-0 ≡ get_or xs c.loop-class.class-index d = c.in_ok-copy.ensures ∙ c.class-item.is ∙ (λ i. get_or (c.deref-class-items.ensures.value i) c.loop-class.class-index d) in
    c.in_ok-push.ensures.items ∙ (λ i. c.loop-class.invariant i ++ same i ∷ []) ∙ sym (take_more xs c.loop-class.class-index d (omega (arith, c.loop-class-test.true, ap length c.deref-class-items.ensures.value)))

pub invariant_of-result : goal.invariant_of-result
invariant_of-result c =
    let xs = c.self.inside.classes.items in
    let all : c.loop-class.classes.items ≡ xs = c.loop-class.invariant ∙ take_all c.loop-class.class-index xs (omega (arith, c.loop-class-test.false, ap length c.deref-class-items.ensures.value)) in
    rw (all, c.in_ok-numbering.ensures) c.self.invariant
