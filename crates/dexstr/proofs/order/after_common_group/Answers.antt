use Rattle.dexstr.proofs.Common.{rules}
use Rattle.dexstr.proofs.ByBytes.{after_group}
use Rattle.dexstr.proofs.order.after_common_group.Goals as goal

pub returns-then-from_le_bytes-clause-order : goal.returns-then-from_le_bytes-clause-order
returns-then-from_le_bytes-clause-order c =
    after_group c.args.left.now c.args.right.now _ c.in_ok-group.left.now _ c.in_ok-other.right.now c.in_ok-group.ensures.cases c.in_ok-other.ensures.cases (λ i. search rules) (λ i. search rules) (search rules)
