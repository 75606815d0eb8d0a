use Rattle.dexval.proofs.Common.{ℕ, nat_eq, sym, get}
use Rattle.dexval.specs.Results.{HasStaticsShape}
use Rattle.dexval.specs.declared.value_checking.StaticsShape.{StaticsShape}
use Rattle.dexval.proofs.CachedSets.{item_added}
use Rattle.dexval.proofs.checked_statics.checked_statics_at.Goals as goal

pub returns-in-Some-clause-values : goal.returns-in-Some-clause-values
returns-in-Some-clause-values c = λ pools. c.requires pools c.args.off c.in-Some.shape.now (sym c.in-Some.ensures.value)

pub returns-clause-checked : goal.returns-clause-checked
returns-clause-checked c = λ pools.
    item_added (λ (off : ℕ) (shape : StaticsShape). HasStaticsShape c.args.frame.now off c.args.pools.now shape) (λ (q : ℕ). get nat_eq c.args.checked.now.shapes q) (λ (q : ℕ). get nat_eq c.insert.new.self q) c.args.off c.in_ok-shape.shape (c.requires pools) (c.in_ok-shape.ensures.values pools)
    c.in_ok-insert.ensures.updates.1 c.in_ok-insert.ensures.updates.2
