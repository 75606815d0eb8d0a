-- Stripped definitions weigh at most as much as the definitions.
use Rattle.dexspec.proofs.Common.{◌≡◌, ℕ, ◌+◌, ◌≤◌, List, map, Option, Some, None, sym, ap, subst, arith, sum_by, option_map, option_to_list, Code}
use Rattle.dexspec.specs.{AreDistinct, MethodDef, Body, Definition, declared_methods, AreWithin, mentions, debug_weight, code_weight, method_weight, body_weight, weight, strip_code, strip_method, strip_body, strip_definition, strip}
use Rattle.dexspec.proofs.merge.{mentions_weight-among, mentions-rising}
use Rattle.dexspec.proofs.lists.Mapped.{originals, AreDistinct-map_source, sum_by-map_within}
use Rattle.dexspec.proofs.strip.StripUnion.{declared_methods-strip}
use Rattle.dexspec.proofs.strip.StripMentions.{mentions-strip}

-- optional code with its debug program
abbrev codes_weight : Option Code → ℕ
codes_weight o = sum_by (λ c. code_weight c + sum_by debug_weight (option_to_list c.debug)) (option_to_list o)

-- stripped code weighs at most as much
codes_weight-strip : (o : Option Code) → codes_weight (option_map strip_code o) ≤ codes_weight o
codes_weight-strip None = omega arith
codes_weight-strip (Some c) = omega arith

-- a stripped method weighs at most as much
method_weight-strip : (m : MethodDef) → method_weight (strip_method m) ≤ method_weight m
method_weight-strip m = omega (arith, codes_weight-strip m.code)

-- a stripped body weighs at most as much
pub body_weight-strip : (c : Body) → body_weight (strip_body c) ≤ body_weight c
body_weight-strip c =
    let methods = sum_by-map_within strip_method method_weight method_weight-strip (declared_methods c) in
    let same : sum_by method_weight (declared_methods (strip_body c)) ≡ sum_by method_weight (map strip_method (declared_methods c)) = ap (sum_by method_weight) (declared_methods-strip c) in
    omega (arith, methods, same)

-- stripped definitions weigh at most as much
pub weight-strip : (D : List Definition) → weight (strip D) ≤ weight D
unfolding weight
weight-strip D =
    let mentioned = mentions_weight-among (mentions (strip D)) (mentions D) (mentions-rising (strip D)) (mentions-strip D) in
    let bodies = sum_by-map_within strip_definition (λ (d : Definition). body_weight d.1) (λ d. body_weight-strip d.1) D in
    omega (arith, mentioned, bodies)

-- definitions whose stripped definitions these are, and which weigh at least as much
pub record Originals (D E : List Definition) : Type 0 where
  pub of : List Definition
  pub within : AreWithin of D
  pub distinct : AreDistinct of
  pub stripped : strip of ≡ E
  pub heavier : weight E ≤ weight of

-- distinct members of stripped definitions come from distinct members
pub originals-strip : (D E : List Definition) → AreDistinct E → AreWithin E (strip D) → Originals D E
originals-strip D E h w =
    let o = originals strip_definition D E w in record {
      of = o.0;
      within = o.1;
      distinct = AreDistinct-map_source strip_definition o.0 (subst AreDistinct (sym o.2) h);
      stripped = o.2;
      heavier = subst (λ F. weight F ≤ weight o.0) o.2 (weight-strip o.0);
    }
