-- Tests that definitions can be written as one file, with what they imply; and some collections that pass.
use Rattle.dexexamples.proofs.Common.{◌≡◌, Bool, true, T, nat_lt, nat_le, List, [], ◌∷◌, length, refl, sym, ap, ◌∙◌, subst, arith, ltb-true, leb-true, is_lt, codes, list_all, is_sorted, count_by-le-length, text_cmp, opcode_of, opcode_runs, piece_size, has_right_targets, Definition, Collection, definitions, Mentions, mentions, symbols_of, is_below, IsAcyclic, weight, most_weight, AreWellFormed, list_all-member, text_total, text_exact}
use Rattle.std.specs.FinMap as finite
use Rattle.std.proofs.lemmas.Float.{T_from_true}
use Rattle.dexspec.specs.Merging.{greatest_caps, Fits, IsGood}
use Rattle.dexspec.proofs.merge.Depths.{names_in, is_defined-name}
use Rattle.dexspec.proofs.merge.WeightGrowth.{weight-within}
use Rattle.dexspec.proofs.merge.Collections.{collection-consistent, definitions-are}
use Rattle.dexexamples.specs.{class_p, class_f, class_debug_twice, varied}
use Rattle.dexexamples.proofs.NameTests.{are_true, each}
use Rattle.dexexamples.proofs.ClassTests.{are_well_formed, well_formed_by}

-- each name has a depth
abbrev is_acyclic : List Definition → Bool
is_acyclic D = list_all (is_below D (length D)) (names_in D)

acyclic_by : (D : List Definition) → is_acyclic D ≡ true → IsAcyclic D
acyclic_by D e name defined = (length D, list_all-member (is_below D (length D)) (names_in D) name e (is_defined-name D name defined))

-- the mentions, and the weight
abbrev mentions_tests : Mentions → List Bool
mentions_tests m = nat_le (length m.types) 65535 ∷ nat_le (length m.protos) 65535 ∷ nat_le (length m.fields) 65536 ∷ nat_le (length m.methods) 65536 ∷ nat_lt (length m.texts) 65536 ∷ []

fits_by : (D : List Definition) → are_true (mentions_tests (mentions D)) ≡ true → nat_le (weight D) most_weight ≡ true → Fits greatest_caps D
fits_by D e light =
    let m = mentions D in
    let h = each (mentions_tests m) e in
    record {
      types = leb-true (length m.types) 65535 (h 0 (omega arith));
      protos = leb-true (length m.protos) 65535 (h 1 (omega arith));
      fields = leb-true (length m.fields) 65536 (h 2 (omega arith));
      methods = leb-true (length m.methods) 65536 (h 3 (omega arith));
      short_strings = λ s w. omega (arith, count_by-le-length (λ t. is_lt (text_cmp t s)) m.texts, ltb-true (length m.texts) 65536 (h 4 (omega arith)));
      weight = λ E apart within. omega (arith, weight-within E D apart within, leb-true (weight D) most_weight light);
    }

-- all premises of the law of normal forms
abbrev good_tests : List Definition → List Bool
good_tests D = are_well_formed D ∷ is_acyclic D ∷ are_true (mentions_tests (mentions D)) ∷ nat_le (weight D) most_weight ∷ []

pub record CanBeWritten (K : Collection) : Type 0 where
  pub formed : AreWellFormed (definitions K)
  pub good : IsGood greatest_caps (definitions K)

-- the definitions of a collection of definitions in order are these
definitions_of : (D : List Definition) → is_sorted text_cmp D ≡ true → definitions (finite.from_entries D) ≡ D
definitions_of D e =
    let h : T (is_sorted text_cmp D) = T_from_true (is_sorted text_cmp D) e in
    let same = finite.same_map text_total text_exact (finite.from_entries D) (finite.from_sorted D) (λ name. finite.get-from_entries text_total D name ∙ sym (finite.get-from_sorted text_cmp D name h)) in
    ap definitions same ∙ finite.entries-from_sorted text_cmp D h

pub written_by : (D : List Definition) → is_sorted text_cmp D ≡ true → are_true (good_tests D) ≡ true → CanBeWritten (finite.from_entries D)
written_by D sorted e =
    let K : Collection = finite.from_entries D in
    let same : D ≡ definitions K = sym (definitions_of D sorted) in
    let h = each (good_tests D) e in
    record {
      formed = subst AreWellFormed same (well_formed_by D (h 0 (omega arith)));
      good = record {
        consistent = collection-consistent (definitions K) K (definitions-are K);
        acyclic = subst IsAcyclic same (acyclic_by D (h 1 (omega arith)));
        fits = subst (Fits greatest_caps) same (fits_by D (h 2 (omega arith)) (h 3 (omega arith)));
      };
    }

-- ---- collections that pass

pub code_written : CanBeWritten (finite.from_entries (class_p (codes "hi") ∷ []))
unfolding mentions symbols_of weight piece_size has_right_targets opcode_of opcode_runs
code_written = written_by (class_p (codes "hi") ∷ []) refl refl

pub annotations_written : CanBeWritten (finite.from_entries (class_f ∷ []))
unfolding mentions symbols_of weight piece_size has_right_targets opcode_of opcode_runs
annotations_written = written_by (class_f ∷ []) refl refl

pub equal_debug_written : CanBeWritten (finite.from_entries (class_debug_twice ∷ []))
unfolding mentions symbols_of weight piece_size has_right_targets opcode_of opcode_runs
equal_debug_written = written_by (class_debug_twice ∷ []) refl refl

pub all_kinds_written : CanBeWritten (finite.from_entries varied)
unfolding mentions symbols_of weight piece_size has_right_targets opcode_of opcode_runs
all_kinds_written = written_by varied refl refl
