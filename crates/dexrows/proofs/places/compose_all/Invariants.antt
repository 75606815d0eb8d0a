use Rattle.dexrows.proofs.Common.{◌≡◌, map, take, drop, slice_index}
use Rattle.dexrows.proofs.places.compose_all.Given as goal

abbrev pub invariant-loop-i : goal.invariant-loop-i
invariant-loop-i l = record {
  done : map (λ image. image.items) (take l.i l.images) ≡ map (map (slice_index l.places)) (map (λ image. image.items) (take l.i l.fn.images));
  rest : drop l.i l.images ≡ drop l.i l.fn.images;
}
