use Rattle.dexinsn.proofs.Common.{ltb, ltb-false, ltb-true, arith, rules, IsPartitionPoint-from_clause, IsPartitionedBy-ltb, Index}
use Rattle.dexinsn.proofs.BlankUnits.{rise_by_unit}
use Rattle.dexinsn.proofs.unit.count_before.Goals as goal

pub returns : goal.returns
returns c =
    let parted = IsPartitionedBy-ltb (λ (i : Index). i.unit) c.args.indices.now c.args.unit (rise_by_unit c.args.indices.now c.requires) in
    let point = IsPartitionPoint-from_clause (λ (i : Index). ltb i.unit c.args.unit) _ _ c.partition_point.ensures.partitioned parted (λ a r q k. search rules) in
    record {
      within = c.partition_point.ensures.bound;
      before = λ k d lt. ltb-true _ _ (point.0 k d (omega arith) lt);
      after = λ k d le lt. ltb-false _ _ (point.1 k d le lt);
    }
