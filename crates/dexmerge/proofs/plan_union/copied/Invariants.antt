use Rattle.dexmerge.proofs.Common.{◌≡◌, take}
use Rattle.dexmerge.proofs.plan_union.copied.Given as goal

abbrev pub invariant-loop-file : goal.invariant-loop-file
invariant-loop-file l = l.copies.items ≡ take l.file-index l.files
