-- Marks that are made one by one.
use Rattle.dexpool.proofs.Common.{ℕ, ◌+◌, ◌<◌, List, [], ◌∷◌, length, take, map, get_or, sym, subst, All, length-map, map_more, All-get_or, Marks, Use, HasMark, AreMarkedToo}
use Rattle.std.proofs.Math.ListN.{get_or-map}
use Rattle.dexpool.proofs.Visits.{marked_both, still_marked}

-- one mark more
pub mapped_more : {X : Type 0} (f : X → Use) (xs : List X) (i : ℕ) (d : X) (a b c : Marks) → i < length xs → AreMarkedToo (map f (take i xs)) a b → AreMarkedToo (f (get_or xs i d) ∷ []) b c → AreMarkedToo (map f (take (i + 1) xs)) a c
mapped_more f xs i d a b c lt before more = subst (λ us. AreMarkedToo us a c) (sym (map_more f xs i d lt)) (marked_both (map f (take i xs)) (f (get_or xs i d) ∷ []) a b c before more)

-- there is a mark for the next one
pub mark_there : {X : Type 0} (f : X → Use) (xs : List X) (us : List Use) (i : ℕ) (d : X) (a b : Marks) → i < length xs → All (HasMark a) (map f xs) → AreMarkedToo us a b → HasMark b (f (get_or xs i d))
mark_there f xs us i d a b lt all h =
    still_marked us (f (get_or xs i d)) a b h (subst (HasMark a) (get_or-map f xs i d) (All-get_or (HasMark a) (map f xs) i (f d) (subst (λ (n : ℕ). i < n) (sym (length-map xs f)) lt) all))
