use Rattle.std.proofs.lemmas.Iterator.Consumers.{YieldsList-at, YieldsList-from_first}
use Rattle.std.specs.Bool.{one_answer}
use Rattle.dexdebug.proofs.Common.{option_decides, pointwise_decides, refl}
use Rattle.dexdebug.proofs.Compared.{decides_by_eq}
use Rattle.dexdebug.proofs.debug_equality.equal_names.Goals as goal

pub returns : goal.returns
returns c =
    one_answer _ _
    (decides_by_eq _ option_decides _ _ c.eq.ensures.ran (YieldsList-from_first (λ x. x) (λ names. names) c.args.mine refl) (λ it becomes. YieldsList-at becomes (YieldsList-from_first (λ x. x) (λ names. names) c.args.others refl)))
    (pointwise_decides option_decides c.args.mine c.args.others)
