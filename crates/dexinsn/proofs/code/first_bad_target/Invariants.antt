use Rattle.dexinsn.proofs.Common.{◌≡◌, drop, cuts_of, first_bad_target, first_bad_target_of}
use Rattle.dexinsn.proofs.code.first_bad_target.Given as goal

abbrev pub invariant-loop-cut : goal.invariant-loop-cut
invariant-loop-cut l = first_bad_target l.checker.units.now (cuts_of l.cuts) ≡ first_bad_target_of l.checker.units.now (cuts_of l.cuts) (cuts_of (drop l.cut-index l.cuts))
