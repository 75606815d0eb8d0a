use Rattle.std.proofs.Common.{◌≡◌, take}
use Rattle.dexspec.specs.Depth.{in_class_order}
use Rattle.dexspec.specs.Files.{definitions}
use Rattle.dexruns.specs.internal.Halves.{packages_of}
use Rattle.dexruns.proofs.packages.class_packages.Given as goal

-- the packages of the classes so far
abbrev pub invariant-loop-i : goal.invariant-loop-i
invariant-loop-i l = record { packages : l.packages.items ≡ packages_of (take l.i (in_class_order (definitions l.program))) }
