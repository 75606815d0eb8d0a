use Rattle.std.proofs.Common.{◌≡◌, take}
use Rattle.std.specs.List.{flat_map}
use Rattle.dexruns.specs.internal.Halves.{class_packages}
use Rattle.dexruns.proofs.packages.all_packages.Given as goal

-- the packages of the classes of the programs so far
abbrev pub invariant-loop-program : goal.invariant-loop-program
invariant-loop-program l = record { packages : l.packages.items ≡ flat_map class_packages (take l.program-index l.programs) }
