use Rattle.dexlayout.proofs.Common.{◌≡◌, ◌++◌, length, take, fold, flat_map}
use Rattle.std.specs.Hash as fed
use Rattle.dexlayout.proofs.keys.ListKeyHash.hash.Given as goal

abbrev pub invariant-loop-i : goal.invariant-loop-i
invariant-loop-i g l = l.state ≡ fold g.H.Hasher.write l.fn.state (fed.usize (length l.self) ++ flat_map fed.usize (take l.i l.self))
