use Rattle.dexcode.proofs.Common.{◌≡◌, ◌∙◌, sym}
use Rattle.std.specs.Cmp.Lexicographic.{pointwise_decides}
use Rattle.dexcode.specs.Equality.{handler_decides}
use Rattle.dexcode.specs.Numbered.{all_named}
use Rattle.dexcode.proofs.tries.Tries.is_same.Goals as goal

pub returns-then-eq : goal.returns-then-eq
returns-then-eq c = λ t.
    let tries : c.parts.result.0.now ≡ c.parts-2.result.0.now = (pointwise_decides c.try_equality_law.ensures c.parts.result.0.now c.parts-2.result.0.now).0 (sym c.if-eq.ensures) in
    let handlers : c.parts.result.1.now ≡ c.parts-2.result.1.now = (pointwise_decides handler_decides c.parts.result.1.now c.parts-2.result.1.now).0 (sym c.eq-then-eq.ensures ∙ t) in
    sym c.parts.ensures.named ∙ (λ i. all_named (handlers i) (tries i)) ∙ c.parts-2.ensures.named
