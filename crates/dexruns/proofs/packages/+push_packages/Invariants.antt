use Rattle.std.proofs.Common.{length}
use Rattle.dexruns.proofs.packages.+push_packages.Given as goal

abbrev pub decreases-push_packages : goal.decreases-push_packages
decreases-push_packages l = length l.packages.now
