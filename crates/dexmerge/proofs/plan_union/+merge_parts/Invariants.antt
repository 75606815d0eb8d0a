use Rattle.dexmerge.proofs.Common.{map, take}
use Rattle.dexmerge.specs.{plan_of}
use Rattle.dexmerge.proofs.PlannedLaws.{HaveTaken}
use Rattle.dexmerge.proofs.plan_union.+merge_parts.Given as goal

abbrev pub invariant-loop-part : goal.invariant-loop-part
invariant-loop-part l = HaveTaken (map plan_of (take l.part-index l.part-items)) l.programs.items l.fn.files.items l.files.items
