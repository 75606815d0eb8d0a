-- Stripped mergeable definitions are mergeable, and a cause against stripped definitions is a cause against the
-- definitions.
use Rattle.dexspec.proofs.Common.{◌≡◌, List, sym, ap, ◌∙◌, subst, arith, Contains}
use Rattle.dexspec.specs.{Text, Body, Definition, HasDepth, IsAcyclic, Caps, Cap, TypeCap, ProtoCap, FieldCap, MethodCap, ShortStringCap, WeightCap, Exceeds, Fits, IsConflict, IsConsistent, IsCycle, IsGood, Cause, Conflict, Cycle, Exceeded, IsCause, strip_body, strip_definition, strip}
use Rattle.dexspec.proofs.lists.Mapped.{Contains-map_source}
use Rattle.dexspec.proofs.strip.StripUnion.{is_defined-strip, is_below-strip}
use Rattle.dexspec.proofs.strip.StripMentions.{types-strip, protos-strip, fields-strip, methods-strip, text_rank-strip, HasShortString-strip_source}
use Rattle.dexspec.proofs.strip.StripWeight.{originals-strip}

-- a body of the name whose stripped body this is
record Original (D : List Definition) (name : Text) (c : Body) : Type 0 where
  of : Body
  member : Contains D (name, of)
  stripped : strip_body of ≡ c

-- each member of the stripped definitions has an original
original : (D : List Definition) (name : Text) (c : Body) → Contains (strip D) (name, c) → Original D name c
original D name c m =
    let s = Contains-map_source strip_definition D (name, c) m in
    record { of = s.0.1; member = subst (λ n. Contains D (n, s.0.1)) (ap (λ (d : Definition). d.0) s.2) s.1; stripped = ap (λ (d : Definition). d.1) s.2 }

module _ (D : List Definition) where
  -- ---- names with two definitions

  -- a name that has one definition has one stripped definition
  pub IsConsistent-strip : IsConsistent D → IsConsistent (strip D)
  IsConsistent-strip h name one other c d =
      let a = original D name one c in
      let b = original D name other d in
      sym a.stripped ∙ ap strip_body (h name a.of b.of a.member b.member) ∙ b.stripped

  -- different stripped definitions have different originals
  pub IsConflict-strip : (name : Text) → IsConflict (strip D) name → IsConflict D name
  IsConflict-strip name x =
      let a = original D name x.one x.one_in in
      let b = original D name x.other x.other_in in
      record { one = a.of; other = b.of; one_in = a.member; other_in = b.member; unequal = λ e. x.unequal (sym a.stripped ∙ ap strip_body e ∙ b.stripped) }

  -- ---- depths

  -- a name that has a depth keeps it
  pub HasDepth-strip : (name : Text) → HasDepth D name → HasDepth (strip D) name
  HasDepth-strip name w = (w.0, is_below-strip D w.0 name ∙ w.1)

  -- a name that has a depth when stripped had it before
  pub HasDepth-strip_source : (name : Text) → HasDepth (strip D) name → HasDepth D name
  HasDepth-strip_source name w = (w.0, sym (is_below-strip D w.0 name) ∙ w.1)

  -- if each name has a depth, each stripped name has one
  pub IsAcyclic-strip : IsAcyclic D → IsAcyclic (strip D)
  IsAcyclic-strip h name e = HasDepth-strip name (h name (sym (is_defined-strip D name) ∙ e))

  -- and conversely
  pub IsAcyclic-strip_source : IsAcyclic (strip D) → IsAcyclic D
  IsAcyclic-strip_source h name e = HasDepth-strip_source name (h name (is_defined-strip D name ∙ e))

  -- a name on a cycle stays on a cycle
  pub IsCycle-strip : (name : Text) → IsCycle D name → IsCycle (strip D) name
  IsCycle-strip name x = record { defined = is_defined-strip D name ∙ x.defined; deep = λ w. x.deep (HasDepth-strip_source name w) }

  -- and conversely
  pub IsCycle-strip_source : (name : Text) → IsCycle (strip D) name → IsCycle D name
  IsCycle-strip_source name x = record { defined = sym (is_defined-strip D name) ∙ x.defined; deep = λ w. x.deep (HasDepth-strip name w) }

  -- ---- caps

  -- a cap that stripped definitions exceed is exceeded by the definitions
  pub Exceeds-strip : (caps : Caps) (clause : Cap) → Exceeds caps (strip D) clause → Exceeds caps D clause
  Exceeds-strip caps TypeCap x = omega (arith, x, types-strip D)
  Exceeds-strip caps ProtoCap x = omega (arith, x, protos-strip D)
  Exceeds-strip caps FieldCap x = omega (arith, x, fields-strip D)
  Exceeds-strip caps MethodCap x = omega (arith, x, methods-strip D)
  Exceeds-strip caps ShortStringCap x = (x.0, HasShortString-strip_source D x.0 x.1, omega (arith, x.2, text_rank-strip D x.0))
  Exceeds-strip caps WeightCap x = let o = originals-strip D x.0 x.1 x.2 in (o.of, o.distinct, o.within, omega (arith, x.3, o.heavier))

  -- if definitions fit, stripped definitions fit
  pub Fits-strip : (caps : Caps) → Fits caps D → Fits caps (strip D)
  Fits-strip caps f = record {
    types = omega (arith, f.types, types-strip D);
    protos = omega (arith, f.protos, protos-strip D);
    fields = omega (arith, f.fields, fields-strip D);
    methods = omega (arith, f.methods, methods-strip D);
    short_strings = λ s x. omega (arith, f.short_strings s (HasShortString-strip_source D s x), text_rank-strip D s);
    weight = λ E d w. let o = originals-strip D E d w in omega (arith, f.weight o.of o.distinct o.within, o.heavier);
  }

  -- ---- the whole

  -- if definitions are mergeable, stripped definitions are mergeable
  pub IsGood-strip : (caps : Caps) → IsGood caps D → IsGood caps (strip D)
  IsGood-strip caps g = record { consistent = IsConsistent-strip g.consistent; acyclic = IsAcyclic-strip g.acyclic; fits = Fits-strip caps g.fits }

  -- a cause that holds for stripped definitions holds for the definitions
  pub IsCause-strip : (caps : Caps) (cause : Cause) → IsCause caps (strip D) cause → IsCause caps D cause
  IsCause-strip caps (Conflict name) x = IsConflict-strip name x
  IsCause-strip caps (Cycle name) x = IsCycle-strip_source name x
  IsCause-strip caps (Exceeded clause) x = Exceeds-strip caps clause x
