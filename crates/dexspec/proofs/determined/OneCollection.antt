-- A file denotes at most one collection.
use Rattle.dexspec.proofs.Common.{◌≡◌, ℕ, List, Option, Some, None, refl, sym}
use Rattle.std.specs.FinMap as map
use Rattle.dexspec.specs.{Collection, Denotes}
use Rattle.dexspec.proofs.merge.SymbolOrders.{text_total, text_exact}

-- options with equal values are equal
same_option : {X : Type 0} (x y : Option X) → ((v : X) → x ≡ Some v → y ≡ Some v) → ((v : X) → y ≡ Some v → x ≡ Some v) → x ≡ y
same_option None None f g = refl
same_option None (Some w) f g = g w refl
same_option (Some v) y f g = sym (f v refl)

-- a file denotes at most one collection
pub one_collection : (b : List ℕ) (K L : Collection) → Denotes b K → Denotes b L → K ≡ L
one_collection b K L h g =
    map.same_map text_total text_exact K L (λ name. same_option (map.get K name) (map.get L name) (λ c k. (g name c).1 ((h name c).0 k)) (λ c l. (h name c).1 ((g name c).0 l)))
