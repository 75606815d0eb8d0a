-- No definitions are a program of no class.
use Rattle.dexclass.proofs.Common.{◌≡◌, List, [], map, refl, sym, ap, ◌∙◌, subst, arith, All, nil_from_length, text_cmp, Body, definitions, AreWellFormed, Mentions, mentions, in_class_order, weight, Fits, IsGood, greatest_caps, Contains-nil, weight-within}
use Rattle.std.specs.FinMap as finite
use Rattle.dexclass.specs.{NumberedClass, definition_of, IsKnownClass, collection_of, IsProgram}

-- no symbol
abbrev no_mentions : Mentions
no_mentions = record { texts = []; types = []; protos = []; fields = []; methods = [] }

nothing_mentioned : mentions [] ≡ no_mentions
unfolding mentions
nothing_mentioned = refl

pub nothing_weighs : weight [] ≡ 1024
unfolding weight mentions
nothing_weighs = refl

nothing_in_order : in_class_order [] ≡ []
unfolding in_class_order
nothing_in_order = refl

fits_nothing : Fits greatest_caps []
unfolding mentions
fits_nothing = record {
  types = omega arith;
  protos = omega arith;
  fields = omega arith;
  methods = omega arith;
  short_strings = λ s h. absurd (Contains-nil h.definition h.member);
  weight = λ E distinct within. omega (arith, weight-within E [] distinct within, nothing_weighs);
}

good_nothing : IsGood greatest_caps []
good_nothing = record {
  consistent = λ name one other c d. absurd (Contains-nil (name, one) c);
  acyclic = λ name e. absurd cc;
  fits = fits_nothing;
}

-- a collection without members has no definitions
pub no_definitions : definitions (finite.empty {R = text_cmp}) ≡ []
no_definitions = nil_from_length (definitions finite.empty) (sym (finite.len-entries finite.empty) ∙ finite.len-empty text_cmp Body)

-- no classes over no symbols
pub empty_program : (m : Mentions) (cs : List NumberedClass) → m ≡ record { texts = []; types = []; protos = []; fields = []; methods = [] } → cs ≡ [] → IsProgram m cs 1024
empty_program m cs e f =
    let K = collection_of m cs in
    let none : definitions K ≡ [] = ap (λ l. definitions (collection_of m l)) f ∙ no_definitions in
    record {
      mentions_are = (e ∙ sym nothing_mentioned ∙ ap mentions (sym none));
      classes_are = record {
        known = subst (λ l. All (IsKnownClass (mentions (definitions K))) l) (sym f) (λ k d lt. absurd (omega arith));
        are = ap (map (definition_of (mentions (definitions K)))) f ∙ sym nothing_in_order ∙ ap in_class_order (sym none);
      };
      good = subst (IsGood greatest_caps) (sym none) good_nothing;
      formed = subst AreWellFormed (sym none) (λ d c. absurd (Contains-nil d c));
      weight_is = sym nothing_weighs ∙ ap weight (sym none);
    }
