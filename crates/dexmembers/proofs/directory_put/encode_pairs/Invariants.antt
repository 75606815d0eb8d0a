use Rattle.dexmembers.proofs.Common.{◌+◌, ◌-◌, ◌≤◌, length, map}
use Rattle.dexmembers.specs.{both_bytes}
use Rattle.dexmembers.proofs.Partways.{Partway}
use Rattle.dexmembers.proofs.PairsMerged.{rest_of}
use Rattle.dexmembers.proofs.directory_put.encode_pairs.Given as goal

abbrev pub invariant-merging : goal.invariant-merging
invariant-merging g l = record {
  first : l.i ≤ length l.first;
  second : l.j ≤ length l.second;
  left : Partway g.O.Output.gives (rest_of (map g.T.HasNumber.number_of l.first) l.first_offsets (map g.T.HasNumber.number_of l.second) l.second_offsets l.i l.j)
      (both_bytes (map g.T.HasNumber.number_of l.first) (map g.T.HasNumber.number_of l.second) l.offsets) l.initial.out l.out;
}

abbrev pub decreases-merging : goal.decreases-merging
decreases-merging g l = (length l.first - l.i) + (length l.second - l.j)
