use Rattle.std.specs.Prelude.{◌≤◌}
use Rattle.dexmembers.specs.Checking.{AreChecks}
use Rattle.dexmembers.specs.SharedMembers.{AreSharedMembers}
use Rattle.dexclass.specs.internal.Reading.{AreBodies}
use Rattle.dexclass.proofs.reading.read_bodies_within.Given as goal

abbrev pub invariant-loop-r : goal.invariant-loop-r
invariant-loop-r l = record {
  bodies_are : AreBodies l.frame l.pools l.r l.bodies;
  light : l.bodies.weight ≤ l.most;
  shared_are : AreSharedMembers l.frame l.pools l.shared;
  checks_are : AreChecks l.frame l.pools l.checks;
}
