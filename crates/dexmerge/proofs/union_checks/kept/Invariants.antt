use Rattle.dexmerge.proofs.Common.{◌≡◌, take, AreIn}
use Rattle.dexmerge.specs.{classes_of, kept_classes}
use Rattle.dexmerge.proofs.union_checks.kept.Given as goal

abbrev pub invariant-loop-place : goal.invariant-loop-place
invariant-loop-place l = record {
  within : AreIn l.kept.items l.candidates;
  kept : classes_of l.kept.items ≡ kept_classes (classes_of l.candidates) (take l.place-index l.places);
}
