use Rattle.dexmerge.proofs.Common.{◌≡◌, ℕ, ◌<◌, length, None, slice_index_or, name_number}
use Rattle.dexmerge.specs.{classes_of}
use Rattle.dexmerge.proofs.union_checks.depths_by_name.Given as goal

abbrev pub invariant-loop-i : goal.invariant-loop-i
invariant-loop-i l = record {
  count : length l.by_name.items ≡ l.types;
  entered : (k : ℕ) → k < l.i → slice_index_or l.by_name.items (name_number (classes_of l.classes) k) None ≡ slice_index_or l.depths k None;
}
