use Rattle.dexpool.proofs.Common.{◌≡◌, ℕ, List, length, take, All, get_or, ProtoNumbers, Span}
use Rattle.dexpool.specs.internal.SharedLists.{HasParametersOf, AreImages}
use Rattle.dexpool.proofs.renumbering.place_rows.Given as goal

abbrev pub invariant-loop-i : goal.invariant-loop-i
invariant-loop-i l = record {
  count : length l.places.items ≡ length l.fn.places.items;
  kept : (ps : List ℕ) (protos : List ProtoNumbers) → AreImages ps protos l.base l.rows l.images → (k : ℕ) (d : Span) → HasParametersOf ps protos k (get_or l.fn.places.items k d) → HasParametersOf ps protos k (get_or l.places.items k d);
  placed : (ps : List ℕ) (protos : List ProtoNumbers) → AreImages ps protos l.base l.rows l.images → All (λ k. (d : Span) → HasParametersOf ps protos k (get_or l.places.items k d)) (take l.i l.images);
}
