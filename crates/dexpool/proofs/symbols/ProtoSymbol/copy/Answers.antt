use Rattle.dexpool.proofs.Common.{◌∙◌, [], ◌∷◌, ◌++◌, sym, take_all, take_more}
use Rattle.dexpool.proofs.symbols.ProtoSymbol.copy.Goals as goal

pub loop-name-preserved : goal.loop-name-preserved
loop-name-preserved c =
    c.in_ok-push.ensures.items ∙ (λ k. c.loop-name.invariant k ++ (c.in_ok-copy.ensures ∙ c.name-item.is) k ∷ []) ∙ sym (take_more c.deref-name-items.result.now c.loop-name.name-index c.name-item.result c.loop-name-test.true)

pub returns : goal.returns
returns c = (λ i. record { return_type = c.in_ok-copy-2.ensures i; parameters = (c.loop-name.invariant ∙ take_all c.loop-name.name-index c.deref-name-items.result.now c.loop-name-test.false ∙ c.deref-name-items.ensures.value) i }) ∙ c.self.view_is
