use Rattle.std.proofs.lemmas.Iterator.Consumers.{YieldsList-at, YieldsList-from_first}
use Rattle.std.specs.Bool.{one_answer}
use Rattle.dexdebug.proofs.Common.{pointwise_decides, refl}
use Rattle.dexdebug.proofs.Compared.{decides_by_eq}
use Rattle.dexdebug.proofs.debug_equality.equal_operations.Goals as goal

pub returns : goal.returns
returns c =
    one_answer _ _
    (decides_by_eq _ c.operation_equality_law.ensures _ _ c.eq.ensures.ran (YieldsList-from_first (λ x. x) (λ ops. ops) c.args.mine refl) (λ it becomes. YieldsList-at becomes (YieldsList-from_first (λ x. x) (λ ops. ops) c.args.others refl)))
    (pointwise_decides c.operation_equality_law.ensures c.args.mine c.args.others)
