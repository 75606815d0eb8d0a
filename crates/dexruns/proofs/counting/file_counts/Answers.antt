use Rattle.dexruns.proofs.Common.{IfOk, IfErr, IfErr-weaker, subst, definitions, IsUncountedFault}
use Rattle.dexmerge.specs.Counting.{AreCounts}
use Rattle.dexruns.proofs.Counted.{of_one_file, memory_alone}
use Rattle.dexruns.proofs.counting.file_counts.Goals as goal

pub returns-clause-counts : goal.returns-clause-counts
returns-clause-counts c = subst (λ D. IfOk c.counts_of.result (AreCounts D)) (of_one_file c.from_ref.result.now c.args.program.now c.from_ref.ensures.value) c.counts_of.ensures.counts

pub returns-clause-fault : goal.returns-clause-fault
returns-clause-fault c =
    IfErr-weaker c.counts_of.result _ _ (memory_alone (definitions c.args.program.now) c.is_good.ensures.good.consistent c.is_good.ensures.good.acyclic)
    (subst (λ D. IfErr c.counts_of.result (IsUncountedFault D)) (of_one_file c.from_ref.result.now c.args.program.now c.from_ref.ensures.value) c.counts_of.ensures.fault)
