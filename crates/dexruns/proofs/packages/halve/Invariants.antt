use Rattle.std.specs.Prelude.{not}
use Rattle.std.specs.List.{flat_map}
use Rattle.dexspec.specs.Files.{definitions}
use Rattle.dexruns.specs.Packages.{package_of}
use Rattle.dexruns.specs.internal.Halves.{is_before, AreThose}
use Rattle.dexruns.proofs.packages.halve.Given as goal

-- the classes of the programs so far are in their halves
abbrev pub invariant-loop-program : goal.invariant-loop-program
invariant-loop-program l = record {
  before : AreThose (λ d. is_before l.bound (package_of d.0)) (flat_map definitions l.yielded) (flat_map definitions l.halves.before.items);
  others : AreThose (λ d. not (is_before l.bound (package_of d.0))) (flat_map definitions l.yielded) (flat_map definitions l.halves.others.items);
}
