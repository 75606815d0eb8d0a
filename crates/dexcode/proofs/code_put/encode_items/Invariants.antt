use Rattle.dexcode.proofs.Common.{take, flat_map, placed_try_bytes}
use Rattle.dexcode.proofs.code_put.encode_items.Given as goal

abbrev pub invariant-loop-item : goal.invariant-loop-item
invariant-loop-item g l = g.O.Output.gives (flat_map (placed_try_bytes l.places) (take l.item-index l.tries)) l.initial.out l.out
