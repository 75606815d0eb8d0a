use Rattle.dexpool.proofs.Common.{◌≡◌, length, take, All, get_or, Span}
use Rattle.dexpool.specs.internal.SharedLists.{HasParametersOf}
use Rattle.dexpool.proofs.renumbering.stored_together.Given as goal

abbrev pub invariant-loop-i : goal.invariant-loop-i
invariant-loop-i l = record {
  count : length l.places.items ≡ length l.joined.rows.items;
  placed : All (λ image. All (λ k. (d : Span) → HasParametersOf l.parameters.items l.joined.rows.items k (get_or l.places.items k d)) image.items) (take l.i l.joined.images.items);
}
