-- How deep a class is below others, and the order of classes. Source: "Dalvik Executable format", "class_defs": a class
-- comes after its superclass and interfaces. The order by depth, then by name, is this project's rule.
use Rattle.std.specs.Prelude.{◌≡◌, ℕ, zero, suc, ◌+◌, Bool, true, false, List, [], ◌∷◌, ◌++◌, length, map, filter, cond}
use Rattle.std.specs.Prelude.{option_to_list}
use Rattle.std.specs.List.{flat_map, list_all, list_any, filter}
use Rattle.std.specs.Ordering.{nat_cmp, ordering_then}
use Rattle.std.specs.declared.cmp.Ordering.{Ordering}
use Rattle.std.specs.FinMap.Entries.{put}
use Rattle.dexspec.specs.Texts.{Text, text_cmp, same_text}
use Rattle.dexspec.specs.Classes.{Body, Definition}

-- the superclass and the interfaces
abbrev pub parents : Body → List Text
parents c = option_to_list c.superclass ++ c.interfaces

-- some definition has this name
abbrev pub is_defined : List Definition → Text → Bool
is_defined D name = list_any (λ d. same_text d.0 name) D

-- the defined parents of the definitions of this name
abbrev pub above : List Definition → Text → List Text
above D name = filter (is_defined D) (flat_map (λ d. parents d.1) (filter (λ d. same_text d.0 name) D))

-- The depth is less than n. No depth is less than 0, and a depth is less than n + 1 if the depth of each defined parent
-- is less than n. So the depth of a name without defined parents is 0. The depth of another name is one more than the
-- greatest depth of its defined parents, if each of them has one. The law `depth_is_found` of `dexlaws` states this.
abbrev pub is_below : List Definition → ℕ → Text → Bool
is_below D zero name = false
is_below D (suc n) name = list_all (is_below D n) (above D name)

-- the name has a depth
abbrev pub HasDepth : List Definition → Text → Type 0
HasDepth D name = (n : ℕ) × (is_below D n name ≡ true)

-- every defined name has a depth
abbrev pub IsAcyclic : List Definition → Type 0
IsAcyclic D = (name : Text) → is_defined D name ≡ true → HasDepth D name

-- the number of n below a bound for which the depth is not less than n + 1
abbrev pub depth_to : List Definition → ℕ → Text → ℕ
depth_to D zero name = 0
depth_to D (suc n) name = cond (is_below D (suc n) name) 0 1 + depth_to D n name

-- the depth of a name that has one; the depth of a defined name is less than the number of definitions
unfoldable pub depth : List Definition → Text → ℕ
depth D name = depth_to D (length D) name

-- by depth, then by name
abbrev pub place_cmp : ℕ × Text → ℕ × Text → Ordering
place_cmp x y = ordering_then (nat_cmp x.0 y.0) (text_cmp x.1 y.1)

-- entries by their places
abbrev pub put_all : List ((ℕ × Text) × Body) → List ((ℕ × Text) × Body)
put_all [] = []
put_all (e ∷ es) = put place_cmp e.0 e.1 (put_all es)

-- definitions of different names, by depth, then by name
unfoldable pub in_class_order : List Definition → List Definition
in_class_order D = map (λ e. (e.0.1, e.1)) (put_all (map (λ d. ((depth D d.0, d.0), d.1)) D))
