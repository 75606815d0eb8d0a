-- What a union holds, in numbers.
use Rattle.dexmerge.proofs.Common.{◌≡◌, ℕ, ◌+◌, ◌-◌, ◌^◌, ◌<◌, ◌≤◌, Bool, false, not, ◌||◌, min, List, [], ◌∷◌, ◌++◌, length, take, map, refl, sym, ap, ◌∙◌, arith, Option, Some, None, All, nat_lt, list_any, ltb-true, ltb-false, lt-ltb, take_more, append-nil, length-map, flat_map-append, rank, Text, text_cmp, Definition, Mentions, mentions, HasShortString, list_any-source, IsAt, Maps, image, KeepOrder, IsGreatest, members_short_strings, renumbered_members, NumberedClass, definition_of, no_class, IsMappedClass, IsKnownClass, not-true, not-false, le-ltb, HasShortString-within, AreSame, IsConsistent}
use Rattle.std.proofs.lemmas.List.Folds.{list_any-append}
use Rattle.dexmerge.specs.declared.candidates.Candidate.{Candidate}
use Rattle.dexmerge.specs.declared.measuring.Counts.{Counts}
use Rattle.dexmerge.specs.internal.Amounts.{short_numbers}
use Rattle.dexmerge.specs.{classes_of, class_at, AreCounts, AreCountsOver, Decides, above_it, is_from}
use Rattle.dexmerge.specs.internal.Unions.{AreOnce}
use Rattle.dexmerge.specs.internal.Cycles.{AreAcyclic}
use Rattle.dexspec.proofs.merge.DepthGrowth.{IsAcyclic-within}
use Rattle.dexmerge.proofs.CapLaws.{none_from, weight_is}
use Rattle.dexmerge.proofs.FarTexts.{few_texts, greatest_decides, none_remapped}
use Rattle.dexmerge.proofs.MergeLaws.{once_apart, once_own}
use Rattle.dexmerge.proofs.UnionLaws.{consistent}
use Rattle.dexmerge.proofs.ShortStrings.{short_named_by, short_denotes_text, rank_is}

-- nothing is not below what is above it
over : (greatest : Option ℕ) → is_from (above_it greatest) greatest ≡ false
over None = refl
over (Some g) = ap not (lt-ltb g (g + 1) (omega arith))

-- where no number is from a cap on, the greatest is below it
below_cap : (cap : ℕ) (greatest : Option ℕ) → is_from cap greatest ≡ false → above_it greatest ≤ cap
below_cap cap None e = omega arith
below_cap cap (Some g) e = omega (arith, ltb-true g cap (not-false (nat_lt g cap) e))

-- each number is that of a text
pub within_texts : (m : Mentions) (cs : List NumberedClass) (greatest : Option ℕ) → All (IsKnownClass m) cs → Decides greatest (short_numbers cs) → above_it greatest ≤ length m.texts
within_texts m cs greatest known decides = below_cap (length m.texts) greatest (sym (decides (length m.texts)) ∙ few_texts m cs (length m.texts) known (omega arith))

-- the image of the greatest decides
pub image_decides : (r : Maps) (x : NumberedClass) → IsMappedClass r x → (g : ℕ) (o : Option ℕ) → KeepOrder r → IsGreatest (members_short_strings x.members) (Some g) → image r.texts g ≡ o → Decides o (members_short_strings (renumbered_members r x.members))
image_decides r x remapped g None order is e = absurd (none_remapped r x remapped g is e)
image_decides r x remapped g (Some k) order is e = λ cap. greatest_decides r x remapped g k cap order is e

-- one class more
pub decides_more : (cs : List NumberedClass) (i : ℕ) (a b c : Option ℕ) → i < length cs → Decides a (short_numbers (take i cs)) → Decides b (members_short_strings (class_at cs i).members) → ((cap : ℕ) → is_from cap c ≡ (is_from cap a || is_from cap b)) → Decides c (short_numbers (take (i + 1) cs))
decides_more cs i a b c lt before own both = λ cap.
    let test : ℕ → Bool = λ n. not (nat_lt n cap) in
    let mine : List ℕ = members_short_strings (class_at cs i).members in
    let more : short_numbers (take (i + 1) cs) ≡ short_numbers (take i cs) ++ mine =
    ap short_numbers (take_more cs i no_class lt) ∙ flat_map-append (λ (x : NumberedClass). members_short_strings x.members) (take i cs) (class_at cs i ∷ []) ∙ ap (λ (l : List ℕ). short_numbers (take i cs) ++ l) (append-nil mine) in
    ap (list_any test) more ∙ list_any-append test (short_numbers (take i cs)) mine
    ∙ ap (λ (t : Bool). t || list_any test mine) (before cap) ∙ ap (λ (t : Bool). is_from cap a || t) (own cap) ∙ sym (both cap)

module _ (m : Mentions) (D : List Definition) (cs : List Candidate) (h : AreOnce m D cs) where
  abbrev Ks : List NumberedClass
  Ks = classes_of cs

  abbrev E : List Definition
  E = map (definition_of m) Ks

  -- the rank of a text is its number
  rank_in : (n : ℕ) (s : Text) → IsAt m.texts n s → rank text_cmp s (mentions D).texts ≡ n
  rank_in n s at = ap (λ (o : Mentions). rank text_cmp s o.texts) (sym h.copies.mentions_are) ∙ rank_is m h.copies.rising n s at

  below : (greatest : Option ℕ) → Decides greatest (short_numbers Ks) → (s : Text) → HasShortString D s → rank text_cmp s (mentions D).texts < above_it greatest
  below greatest decides s x =
      let f = short_named_by m Ks h.copies.members.known s (HasShortString-within D E (λ d. (h.copies.members.same d).1) s x) in
      omega (arith, rank_in f.0 s f.2, (none_from (above_it greatest) (short_numbers Ks) f.0 (decides (above_it greatest) ∙ over greatest) f.1))

  least : (greatest : Option ℕ) → Decides greatest (short_numbers Ks) → 0 < above_it greatest → (s : Text) × HasShortString D s × (rank text_cmp s (mentions D).texts + 1 ≡ above_it greatest)
  least None decides lt = absurd (omega (arith, lt))
  least (Some g) decides lt =
      let n = list_any-source (λ (k : ℕ). not (nat_lt k g)) (short_numbers Ks) (decides g ∙ ap not (le-ltb g g (omega arith))) in
      let f = short_denotes_text m Ks h.copies.members.known n.0 n.1 in
      (f.0, HasShortString-within E D (λ d. (h.copies.members.same d).0) f.0 f.2, omega (arith, rank_in n.0 f.0 f.1, (ltb-false n.0 g (not-true (nat_lt n.0 g) n.2)), (none_from (g + 1) (short_numbers Ks) n.0 (decides (g + 1) ∙ over (Some g)) n.1)))

  same : AreSame E D
  same = h.copies.members.same

  -- no name has two definitions
  once_consistent : IsConsistent D
  once_consistent name one other c d = consistent m h.copies.rising Ks h.copies.members.known h.kept.rise name one other ((same (name, one)).1 c) ((same (name, other)).1 d)

  pub once_counts : (counts : Counts) → AreAcyclic m Ks → AreCountsOver m Ks counts → AreCounts D counts
  once_counts counts acyclic x = record {
    consistent = once_consistent;
    acyclic = IsAcyclic-within D E (λ d. (same d).1) acyclic;
    types = x.types ∙ ap (λ (o : Mentions). length o.types) h.copies.mentions_are;
    protos = x.protos ∙ ap (λ (o : Mentions). length o.protos) h.copies.mentions_are;
    fields = x.fields ∙ ap (λ (o : Mentions). length o.fields) h.copies.mentions_are;
    methods = x.methods ∙ ap (λ (o : Mentions). length o.methods) h.copies.mentions_are;
    strings = x.strings ∙ ap (λ (o : Mentions). length o.texts) h.copies.mentions_are;
    short_strings = record {
      below = λ s y. omega (arith, below x.greatest x.decides s y, x.short_strings);
      least = λ lt. (let l = least x.greatest x.decides (omega (arith, lt, x.short_strings)) in (l.0, l.1, l.2 ∙ sym x.short_strings));
    };
    size = record {
      once = E;
      same = same;
      distinct = once_apart m D cs h;
      classes_are = x.classes ∙ sym (length-map Ks (definition_of m));
      weighs_is = x.weight ∙ ap (λ (w : ℕ). min (2 ^ 64 - 1) w) (sym (weight_is m Ks (once_own m D cs h)));
    };
  }
