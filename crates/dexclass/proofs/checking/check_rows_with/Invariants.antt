use Rattle.dexmembers.specs.Checking.{AreChecks}
use Rattle.dexclass.specs.{HaveBodiesOf}
use Rattle.dexclass.proofs.checking.check_rows_with.Given as goal

abbrev pub invariant-loop-r : goal.invariant-loop-r
invariant-loop-r l = record {
  checks_are : AreChecks l.frame l.pools l.checks;
  bodies_are : HaveBodiesOf l.frame l.r l.weight;
}
