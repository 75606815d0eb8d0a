use Rattle.dexval.proofs.Common.{◌≡◌, ◌++◌, length, fold, take, flat_map}
use Rattle.std.specs.Hash as fed
use Rattle.dexval.proofs.Hashed.{annotation_fed}
use Rattle.dexval.proofs.equality.hash_annotations.Given as goal

abbrev pub invariant-loop-annotation : goal.invariant-loop-annotation
invariant-loop-annotation g l = l.state ≡ fold g.H.Hasher.write l.fn.state (fed.usize (length l.annotations) ++ flat_map annotation_fed (take l.annotation-index l.annotations))
