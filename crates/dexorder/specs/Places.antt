-- The places of numbered classes: by depth, then by name. Source: "Dalvik Executable format", "class_defs": a class
-- comes after its superclass and interfaces. The order by depth, then by name, is this project's rule.
use Rattle.std.specs.Prelude.{◌≡◌, ℕ, List, length, map, true, Option, None, unwrap_or, slice_index, slice_index_or}
use Rattle.std.specs.List.{range_with_len}
use Rattle.std.specs.Ordering.{nat_cmp, ordering_then}
use Rattle.std.specs.declared.cmp.Ordering.{Ordering}
use Rattle.dexspec.specs.Lists.{rises}
use Rattle.dexorder.specs.declared.order.Place.{Place}

-- the depth of class i, or 0 if it has none, and the number of its name
abbrev pub class_place : List (Option ℕ) → List ℕ → ℕ → ℕ × ℕ
class_place depths names i = (unwrap_or (slice_index_or depths i None) 0, slice_index names i)

-- by depth, then by the number of the name
abbrev pub class_cmp : ℕ × ℕ → ℕ × ℕ → Ordering
class_cmp x y = ordering_then (nat_cmp x.0 y.0) (nat_cmp x.1 y.1)

-- the place of class i with the number of the class
abbrev pub place_of : List (Option ℕ) → List ℕ → ℕ → Place
place_of depths names i =
    record { depth = (class_place depths names i).0; name = (class_place depths names i).1; class = i }

-- the place of each class before sorting
abbrev pub places_of : List (Option ℕ) → List ℕ → List Place
places_of depths names = map (place_of depths names) (range_with_len 0 (length names))

-- the places of these classes rise
abbrev pub AreInPlaceOrder : List (Option ℕ) → List ℕ → List ℕ → Type 0
AreInPlaceOrder depths names order = rises class_cmp (map (class_place depths names) order) ≡ true
