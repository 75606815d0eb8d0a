-- The first cap that a union exceeds, by what its classes come to.
use Rattle.dexmerge.proofs.Common.{◌≡◌, ℕ, ◌<◌, ◌≤◌, Bool, true, false, cond, List, map, refl, sym, ap, ◌∙◌, subst, arith, inl, inr, Option, Some, None, length, MatchOption, All, nat_lt, not, Contains, ltb-true, cases_lt, AreDistinct, rank, Text, text_cmp, Definition, AreWithin, Mentions, mentions, IsAcyclic, weight, body_weight, mentions_weight, Caps, AreCaps, greatest_caps, Cap, TypeCap, ProtoCap, FieldCap, MethodCap, ShortStringCap, WeightCap, cap_number, HasShortString, Exceeds, IsConsistent, IsGood, Cause, Conflict, Cycle, Exceeded, IsCause, IsReportedBefore, IsFirstCause, list_any-member, list_any-source, consistent-apart, acyclic-apart, IsAt, AreRising, NumberedClass, definition_of, IsKnownClass, ltb-false, not-true, le-ltb, ◌+◌, cases_eq, cond_both}
use Rattle.dexspec.proofs.size.SizeSums.{sum_by-map}
use Rattle.dexspec.proofs.merge.WeightGrowth.{weight-within}
use Rattle.dexmerge.specs.internal.Amounts.{weight_over, short_numbers, has_from, first_over}
use Rattle.dexmerge.specs.{IsOfCap}
use Rattle.dexmerge.proofs.ShortStrings.{short_named_by, short_denotes_text, rank_is}

-- where no number is from a cap on, each is below it
pub none_from : (cap : ℕ) (ns : List ℕ) (n : ℕ) → has_from cap ns ≡ false → Contains ns n → n < cap
none_from cap ns n none has = elim (cases_lt n cap) [
  | inl less ↦ less
  | inr le ↦ absurd (let t = list_any-member (λ (k : ℕ). not (nat_lt k cap)) ns n has (ap not (le-ltb n cap le)) in cc)
]

-- where no conflict and no cycle is, and no cap before it is exceeded, a cap is the first cause
cap_reported : (caps : Caps) (E : List Definition) (cap : Cap) → IsConsistent E → IsAcyclic E → Exceeds caps E cap → ((other : Cap) → Exceeds caps E other → cap_number other < cap_number cap → ⊥) → IsFirstCause caps E (Exceeded cap)
cap_reported caps E cap h a exceeds least = record { is = exceeds; first = before }
  where
    before : (other : Cause) → IsCause caps E other → IsReportedBefore other (Exceeded cap) → ⊥
    before (Conflict n) x _ = consistent-apart E n h x
    before (Cycle n) x _ = acyclic-apart E n a x
    before (Exceeded k) x less = least k x less

-- what they weigh
pub weight_is : (m : Mentions) (cs : List NumberedClass) → m ≡ mentions (map (definition_of m) cs) → weight (map (definition_of m) cs) ≡ weight_over m cs
unfolding weight
weight_is m cs own = omega (arith, sum_by-map (λ (d : Definition). body_weight d.1) (definition_of m) cs, ap (λ (n : Mentions). mentions_weight n) own)

-- no two caps have one number, and none has 0
some_number : (cap : Cap) → 0 < cap_number cap
some_number TypeCap = omega arith
some_number _ = omega arith

one_cap : (a b : Cap) → cap_number a ≡ cap_number b → a ≡ b
one_cap TypeCap TypeCap e = refl
one_cap ProtoCap ProtoCap e = refl
one_cap FieldCap FieldCap e = refl
one_cap MethodCap MethodCap e = refl
one_cap ShortStringCap ShortStringCap e = refl
one_cap WeightCap WeightCap e = refl
one_cap _ _ e = absurd (omega (arith, e))

module _ (caps : Caps) (m : Mentions) (cs : List NumberedClass) (distinct : AreDistinct (map (definition_of m) cs)) (own : m ≡ mentions (map (definition_of m) cs)) (rising : AreRising m) (known : All (IsKnownClass m) cs) where
  abbrev E : List Definition
  E = map (definition_of m) cs

  -- the rank of a text that a const-string names is its number
  rank_there : (n : ℕ) (s : Text) → IsAt m.texts n s → rank text_cmp s (mentions E).texts ≡ n
  rank_there n s h = ap (λ (o : Mentions). rank text_cmp s o.texts) (sym own) ∙ rank_is m rising n s h

  not_far : has_from caps.short_strings (short_numbers cs) ≡ false → (s : Text) → HasShortString E s → rank text_cmp s (mentions E).texts < caps.short_strings
  not_far test s h =
      let f = short_named_by m cs known s h in
      omega (arith, rank_there f.0 s f.2, none_from caps.short_strings (short_numbers cs) f.0 test f.1)

  not_heavy : nat_lt caps.weight (weight_over m cs) ≡ false → (F : List Definition) → AreDistinct F → AreWithin F E → weight F ≤ caps.weight
  not_heavy test F apart within = omega (arith, weight-within F E apart within, weight_is m cs own, ltb-false caps.weight (weight_over m cs) test)

  -- whether a cap is exceeded
  abbrev is_over : Cap → Bool
  is_over TypeCap = nat_lt caps.types (length m.types)
  is_over ProtoCap = nat_lt caps.protos (length m.protos)
  is_over FieldCap = nat_lt caps.fields (length m.fields)
  is_over MethodCap = nat_lt caps.methods (length m.methods)
  is_over ShortStringCap = has_from caps.short_strings (short_numbers cs)
  is_over WeightCap = nat_lt caps.weight (weight_over m cs)

  over : (cap : Cap) → is_over cap ≡ true → Exceeds caps E cap
  over TypeCap e = omega (arith, ltb-true caps.types (length m.types) e, ap (λ (n : Mentions). length n.types) own)
  over ProtoCap e = omega (arith, ltb-true caps.protos (length m.protos) e, ap (λ (n : Mentions). length n.protos) own)
  over FieldCap e = omega (arith, ltb-true caps.fields (length m.fields) e, ap (λ (n : Mentions). length n.fields) own)
  over MethodCap e = omega (arith, ltb-true caps.methods (length m.methods) e, ap (λ (n : Mentions). length n.methods) own)
  over ShortStringCap e =
      let n = list_any-source (λ (k : ℕ). not (nat_lt k caps.short_strings)) (short_numbers cs) e in
      let f = short_denotes_text m cs known n.0 n.1 in
      (f.0, f.2, omega (arith, rank_there n.0 f.0 f.1, ltb-false n.0 caps.short_strings (not-true (nat_lt n.0 caps.short_strings) n.2)))
  over WeightCap e = (E, distinct, λ d c. c, omega (arith, ltb-true caps.weight (weight_over m cs) e, weight_is m cs own))

  not_over : (cap : Cap) → is_over cap ≡ false → Exceeds caps E cap → ⊥
  not_over TypeCap e x = omega (arith, x, ltb-false caps.types (length m.types) e, ap (λ (n : Mentions). length n.types) own)
  not_over ProtoCap e x = omega (arith, x, ltb-false caps.protos (length m.protos) e, ap (λ (n : Mentions). length n.protos) own)
  not_over FieldCap e x = omega (arith, x, ltb-false caps.fields (length m.fields) e, ap (λ (n : Mentions). length n.fields) own)
  not_over MethodCap e x = omega (arith, x, ltb-false caps.methods (length m.methods) e, ap (λ (n : Mentions). length n.methods) own)
  not_over ShortStringCap e x = omega (arith, x.2, not_far e x.0 x.1)
  not_over WeightCap e x = omega (arith, x.3, not_heavy e x.0 x.1 x.2)

  -- the caps of lesser numbers are kept
  abbrev AreKept : ℕ → Type 0
  AreKept n = (other : Cap) → cap_number other < n → is_over other ≡ false

  module _ (h : IsConsistent E) (a : IsAcyclic E) where
    abbrev Found : Option ℕ → Type 0
    Found o = MatchOption o (IsGood caps E) (IsOfCap (IsFirstCause caps E))

    -- the next cap is exceeded, or is kept too
    next_cap : (cap : Cap) (rest : Option ℕ) → AreKept (cap_number cap) → (AreKept (cap_number cap + 1) → Found rest) → Found (cond (is_over cap) (Some (cap_number cap)) rest)
    next_cap cap rest kept next = cond_both (is_over cap) (Some (cap_number cap)) rest Found
        (λ e. record { cap = cap; number_is = refl; holds = cap_reported caps E cap h a (over cap e) (λ other x less. not_over other (kept other less) x) })
        (λ e. next (λ other less. elim (cases_eq (cap_number cap) (cap_number other)) [ inl same ↦ subst (λ k. is_over k ≡ false) (one_cap cap other same) e | inr ne ↦ kept other (omega (arith, less, ne)) ]))

    -- what was found
    pub found_cap : (found : Option ℕ) → found ≡ first_over caps m cs → Found found
    found_cap found is = subst Found (sym is) (next_cap TypeCap _ (λ other less. absurd (omega (arith, less, some_number other))) (λ k. next_cap ProtoCap _ k (λ k. next_cap FieldCap _ k (λ k. next_cap MethodCap _ k (λ k. next_cap ShortStringCap _ k (λ k. next_cap WeightCap None k (λ k. record {
      consistent = h;
      acyclic = a;
      fits = record {
        types = omega (arith, ltb-false caps.types (length m.types) (k TypeCap (omega arith)), ap (λ (n : Mentions). length n.types) own);
        protos = omega (arith, ltb-false caps.protos (length m.protos) (k ProtoCap (omega arith)), ap (λ (n : Mentions). length n.protos) own);
        fields = omega (arith, ltb-false caps.fields (length m.fields) (k FieldCap (omega arith)), ap (λ (n : Mentions). length n.fields) own);
        methods = omega (arith, ltb-false caps.methods (length m.methods) (k MethodCap (omega arith)), ap (λ (n : Mentions). length n.methods) own);
        short_strings = not_far (k ShortStringCap (omega arith));
        weight = not_heavy (k WeightCap (omega arith));
      };
    })))))))

-- ---- under the greatest caps

-- what is good under some caps is so under the greatest
pub good_greatest : (caps : Caps) (D : List Definition) → AreCaps caps → IsGood caps D → IsGood greatest_caps D
good_greatest caps D c g = record {
  consistent = g.consistent;
  acyclic = g.acyclic;
  fits = record {
    types = omega (arith, g.fits.types, c.types);
    protos = omega (arith, g.fits.protos, c.protos);
    fields = omega (arith, g.fits.fields, c.fields);
    methods = omega (arith, g.fits.methods, c.methods);
    short_strings = λ s h. omega (arith, g.fits.short_strings s h, c.short_strings);
    weight = λ F apart within. omega (arith, g.fits.weight F apart within, c.weight);
  };
}
