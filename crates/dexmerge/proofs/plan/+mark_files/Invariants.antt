use Rattle.dexmerge.proofs.Common.{map, take}
use Rattle.dexmerge.specs.{plan_of}
use Rattle.dexmerge.proofs.Marked.{ArePartsMarked}
use Rattle.dexmerge.proofs.plan.+mark_files.Given as goal

abbrev pub invariant-loop-part : goal.invariant-loop-part
invariant-loop-part l = ArePartsMarked (map plan_of (take l.part-index l.part-items)) l.depth l.fn.is_named.items l.is_named.items
