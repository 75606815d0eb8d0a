-- Stripping a union, stripping twice, and what stripping does not change: names, parents and depths.
use Rattle.dexspec.proofs.Common.{◌≡◌, ℕ, zero, suc, ◌+◌, cond, List, [], ◌∷◌, ◌++◌, length, map, get_or, Option, Some, None, refl, sym, ap, ◌∙◌, flat_map, filter, list_all, option_map, length-map, map-append, filter_agree, flat_map-map, Code}
use Rattle.dexspec.specs.{Text, same_text, MethodDef, Body, Definition, declared_methods, AreWithin, parents, is_defined, above, is_below, depth_to, depth, Plan, leaves, union, strip_code, strip_method, strip_body, strip_definition, strip}
use Rattle.dexspec.proofs.lists.Mapped.{AreAmong-map, list_any-map, filter-map, map-twice, list_all-agree, map-flat_map}

-- ---- stripping twice

-- optional code
strip_option-twice : (o : Option Code) → option_map strip_code (option_map strip_code o) ≡ option_map strip_code o
strip_option-twice None = refl
strip_option-twice (Some c) = refl

-- a method
pub strip_method-twice : (m : MethodDef) → strip_method (strip_method m) ≡ strip_method m
strip_method-twice m = ap (λ o. record m { code = o }) (strip_option-twice m.code)

-- a body
pub strip_body-twice : (c : Body) → strip_body (strip_body c) ≡ strip_body c
strip_body-twice c =
    let direct = map-twice strip_method strip_method-twice c.direct_methods in
    let virtual = map-twice strip_method strip_method-twice c.virtual_methods in
    λ i. record (strip_body c) { direct_methods = direct i; virtual_methods = virtual i }

-- stripping twice is stripping once
pub strip-twice : (D : List Definition) → strip (strip D) ≡ strip D
strip-twice D = map-twice strip_definition (λ d i. (d.0, strip_body-twice d.1 i)) D

-- ---- unions

-- the file of a number, and no definitions without a file
strip-file : (files : List (List Definition)) (k : ℕ) → strip (get_or files k []) ≡ get_or (map strip files) k []
strip-file (D ∷ files) (suc k) = strip-file files k
strip-file _ _ = refl

-- a union stripped is the union of the stripped files
pub strip-union : (files : List (List Definition)) (plan : Plan) → strip (union files plan) ≡ union (map strip files) plan
strip-union files plan = map-flat_map strip_definition (λ k. get_or files k []) (λ k. get_or (map strip files) k []) (strip-file files) (leaves plan)

-- two joined lists are stripped one by one
pub strip-append : (D E : List Definition) → strip (D ++ E) ≡ strip D ++ strip E
strip-append D E = map-append strip_definition D E

-- members stay members
pub strip-within : (D E : List Definition) → AreWithin D E → AreWithin (strip D) (strip E)
strip-within D E h = AreAmong-map strip_definition D E h

-- ---- members of a body

-- the declared methods, stripped
pub declared_methods-strip : (c : Body) → declared_methods (strip_body c) ≡ map strip_method (declared_methods c)
declared_methods-strip c = sym (map-append strip_method c.direct_methods c.virtual_methods)

-- ---- names and depths

-- the same names are defined
pub is_defined-strip : (D : List Definition) (name : Text) → is_defined (strip D) name ≡ is_defined D name
is_defined-strip D name = list_any-map strip_definition (λ (d : Definition). same_text d.0 name) D

-- they have the same defined parents
pub above-strip : (D : List Definition) (name : Text) → above (strip D) name ≡ above D name
above-strip D name =
    let named = λ (d : Definition). same_text d.0 name in
    let parents_of = λ (d : Definition). parents d.1 in
    let names : flat_map parents_of (filter named (strip D)) ≡ flat_map parents_of (filter named D)
    = ap (flat_map parents_of) (filter-map strip_definition named D) ∙ flat_map-map parents_of strip_definition (filter named D) in
    filter_agree (is_defined (strip D)) (is_defined D) (is_defined-strip D) (flat_map parents_of (filter named (strip D)))
    ∙ ap (filter (is_defined D)) names

-- the same bounds on their depths
pub is_below-strip : (D : List Definition) (n : ℕ) (name : Text) → is_below (strip D) n name ≡ is_below D n name
is_below-strip D zero name = refl
is_below-strip D (suc n) name =
    list_all-agree (is_below (strip D) n) (is_below D n) (is_below-strip D n) (above (strip D) name) ∙ ap (list_all (is_below D n)) (above-strip D name)

-- the same counts
depth_to-strip : (D : List Definition) (n : ℕ) (name : Text) → depth_to (strip D) n name ≡ depth_to D n name
depth_to-strip D zero name = refl
depth_to-strip D (suc n) name = λ i. cond (is_below-strip D (suc n) name i) 0 1 + depth_to-strip D n name i

-- so the same depths
pub depth-strip : (D : List Definition) (name : Text) → depth (strip D) name ≡ depth D name
unfolding depth
depth-strip D name = depth_to-strip D (length (strip D)) name ∙ ap (λ n. depth_to D n name) (length-map D strip_definition)
