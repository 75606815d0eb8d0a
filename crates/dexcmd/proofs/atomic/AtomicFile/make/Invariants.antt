use Rattle.std.proofs.Common.{◌≡◌}
use Rattle.dexcmd.proofs.atomic.AtomicFile.make.Given as goal

-- the path and the stage are as they were
abbrev pub invariant-loop-number : goal.invariant-loop-number
invariant-loop-number g l = record {
  path : l.self.path ≡ l.fn.self.path;
  stage : l.self.stage ≡ l.fn.self.stage;
}
