use Rattle.dexio.proofs.Common.{◌≡◌, ◌≤◌, ◌++◌, false, length, take, ◌-◌}
use Rattle.dexio.proofs.device.write_whole.Given as goal

-- a prefix was written
abbrev pub invariant-pieces : goal.invariant-pieces
invariant-pieces g l = record {
  works : g.W.Sink.has_failed l.out ≡ false;
  fits : l.done ≤ length l.bytes;
  reports : g.W.Sink.reports l.fn.out → g.W.Sink.reports l.out;
  prefix : g.W.Sink.reports l.fn.out → g.W.Sink.taken l.out ≡ g.W.Sink.taken l.fn.out ++ take l.done l.bytes;
}

abbrev pub decreases-pieces : goal.decreases-pieces
decreases-pieces g l = length l.bytes - l.done
