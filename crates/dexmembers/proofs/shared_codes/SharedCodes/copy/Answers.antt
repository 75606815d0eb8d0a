use Rattle.dexmembers.proofs.Common.{◌≡◌, ◌∙◌, ap, take_all}
use Rattle.dexmembers.specs.{codes_with}
use Rattle.dexmembers.specs.internal.SharedCodes.{debug_in, debugs_in, stored_in, stored_with}
use Rattle.dexmembers.proofs.CodeLists.{mapped_more}
use Rattle.dexmembers.proofs.shared_codes.SharedCodes.copy.Goals as goal

pub invariant_of-result : goal.invariant_of-result
invariant_of-result c =
    let x = c.self.inside in
    let items : stored_in c.loop-item.items.items ≡ stored_in x.items.items = c.loop-item.invariant ∙ ap stored_in (take_all c.loop-item.item-index c.deref-item-items.result.now c.loop-item-test.false ∙ c.deref-item-items.ensures.value) in
    let debugs : debugs_in c.loop-debug.debugs.items ≡ debugs_in x.debugs.items = c.loop-debug.invariant ∙ ap debugs_in (take_all c.loop-debug.debug-index c.deref-debug-items.result.now c.loop-debug-test.false ∙ c.deref-debug-items.ensures.value) in
    rw (items, debugs) c.self.invariant

pub loop-item-preserved : goal.loop-item-preserved
loop-item-preserved c =
    mapped_more stored_with stored_with c.deref-item-items.result.now c.loop-item.item-index c.item-item.result c.loop-item.items.items c.push.new.self.items _ c.loop-item-test.true c.in_ok-push.ensures.items c.loop-item.invariant
    ((λ i. record { code = c.in_ok-code.ensures i; debug = c.item-item.result.debug }) ∙ ap stored_with c.item-item.is)

pub loop-debug-preserved : goal.loop-debug-preserved
loop-debug-preserved c = mapped_more debug_in debug_in c.deref-debug-items.result.now c.loop-debug.debug-index c.debug-item.result c.loop-debug.debugs.items c.push-in-loop-debug.new.self.items _ c.loop-debug-test.true c.in_ok-push-2.ensures.items c.loop-debug.invariant (c.in_ok-again.ensures ∙ ap debug_in c.debug-item.is)

pub returns : goal.returns
returns c =
    let x = c.self.inside in
    let items : stored_in c.loop-item.items.items ≡ stored_in x.items.items = c.loop-item.invariant ∙ ap stored_in (take_all c.loop-item.item-index c.deref-item-items.result.now c.loop-item-test.false ∙ c.deref-item-items.ensures.value) in
    let debugs : debugs_in c.loop-debug.debugs.items ≡ debugs_in x.debugs.items = c.loop-debug.invariant ∙ ap debugs_in (take_all c.loop-debug.debug-index c.deref-debug-items.result.now c.loop-debug-test.false ∙ c.deref-debug-items.ensures.value) in
    (λ i. codes_with (debugs i) (items i)) ∙ c.self.view_is
