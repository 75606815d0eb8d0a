use Rattle.dexlayout.proofs.Common.{◌≡◌, drop, take, flat_map, uint}
use Rattle.dexlayout.proofs.directories.encode_next.Given as goal

abbrev pub invariant-loop : goal.invariant-loop
invariant-loop g l = record {
  given : g.O.Output.gives (flat_map uint (take l.counter l.fn.offs)) l.fn.out l.out;
  others : l.offs ≡ drop l.counter l.fn.offs;
}
