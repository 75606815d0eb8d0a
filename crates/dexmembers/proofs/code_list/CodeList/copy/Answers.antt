use Rattle.dexmembers.proofs.Common.{◌≡◌, ◌∙◌, take_all}
use Rattle.dexmembers.proofs.code_list.CodeList.copy.Goals as goal

pub invariant_of-result : goal.invariant_of-result
invariant_of-result c =
    let x = c.self.inside in
    let items : c.loop-item.items.items ≡ x.items.items = c.loop-item.invariant ∙ take_all c.loop-item.item-index c.deref-item-items.result.now c.loop-item-test.false ∙ c.deref-item-items.ensures.value in
    let debugs : c.loop-debug.debugs.items ≡ x.debugs.items = c.loop-debug.invariant ∙ take_all c.loop-debug.debug-index c.deref-debug-items.result.now c.loop-debug-test.false ∙ c.deref-debug-items.ensures.value in
    rw (items, debugs) c.self.invariant
