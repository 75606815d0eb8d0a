-- Stripping leaves no debug program, and changes only definitions that have a debug program or a source text.
use Rattle.dexspec.proofs.Common.{◌≡◌, List, [], ◌∷◌, map, All, Option, Some, None, get_or, refl, sym, arith, option_map, IfSome, All-map, All-tail, Code}
use Rattle.dexspec.specs.{MethodDef, Body, strip_code, strip_method, strip_body}

-- the code, if there is any, has no debug program
abbrev pub HasNoDebug : Option Code → Type 0
HasNoDebug o = IfSome o (λ c. c.debug ≡ None)

-- stripped code has no debug program
pub no_debug : (o : Option Code) → HasNoDebug (option_map strip_code o)
no_debug None = tt
no_debug (Some c) = refl

-- the code of stripped methods has no debug program
pub no_debug-strip : (ms : List MethodDef) → All (λ m. HasNoDebug m.code) (map strip_method ms)
no_debug-strip ms = All-map (λ (m : MethodDef). HasNoDebug m.code) strip_method ms (λ k d lt. no_debug (get_or ms k d).code)

-- code without a debug program is unchanged
strip_option-without_debug : (o : Option Code) → HasNoDebug o → option_map strip_code o ≡ o
strip_option-without_debug None h = refl
strip_option-without_debug (Some c) h = λ i. Some (record c { debug = sym h i })

-- methods with such code are unchanged
methods-without_debug : (ms : List MethodDef) → All (λ m. HasNoDebug m.code) ms → map strip_method ms ≡ ms
methods-without_debug [] h = refl
methods-without_debug (m ∷ ms) h =
    let here = strip_option-without_debug m.code (h 0 m (omega arith)) in
    let rest = methods-without_debug ms (All-tail (λ (n : MethodDef). HasNoDebug n.code) m ms h) in
    λ i. record m { code = here i } ∷ rest i

-- a body of such methods without a source text is unchanged
pub strip_body-without_debug : (c : Body) → c.source ≡ None → All (λ m. HasNoDebug m.code) c.direct_methods → All (λ m. HasNoDebug m.code) c.virtual_methods → strip_body c ≡ c
strip_body-without_debug c source direct virtual =
    let left = methods-without_debug c.direct_methods direct in
    let right = methods-without_debug c.virtual_methods virtual in
    λ i. record c { source = sym source i; direct_methods = left i; virtual_methods = right i }
