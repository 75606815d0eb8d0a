-- Annotations and sets of them are read back.
use Rattle.dexspec.proofs.Common.{◌≡◌, ℕ, suc, zero, ◌+◌, ◌≤◌, List, [], ◌∷◌, ◌++◌, get_or, refl, sym, ap, subst, ◌∙◌, AllByRecursion, flat_map, arith, codes, append_assoc, true≢false}
use Rattle.std.proofs.Common.{ap₂}
use Rattle.dexspec.specs.Annotations.{Annotation, AnnotationSet}
use Rattle.dexspec.specs.Mentions.{annotation_symbols, set_symbols}
use Rattle.dexspec.specs.WellFormed.{IsAnnotation, IsSet}
use Rattle.dexout.specs.Printed.{shown, count_text}
use Rattle.dexlisting.specs.FullListing.{visibility_text, elements_text, annotation_line, set_lines, parameter_lines}
use Rattle.dexlisting.proofs.law.Reads.{Reads, Anything, Lacks, after, skip, part, reads_lines, reads_weaker, begins_with}
use Rattle.dexlisting.proofs.law.Types.{reads_type}
use Rattle.dexlisting.proofs.law.Goods.{Knows, each_flat_map, each_from_all, each_both, each_so}
use Rattle.dexlisting.proofs.law.Symbols.{KnownSymbol}
use Rattle.dexlisting.proofs.law.Words.{one_word}
use Rattle.dexlisting.proofs.law.Values.{reads_elements}

-- ---- an annotation

-- the visibilities by number
abbrev visibility_words : List (List ℕ)
visibility_words = codes "build" ∷ codes "runtime" ∷ codes "system" ∷ []

-- a visibility has its word
visibility_word : (n : ℕ) → n ≤ 2 → visibility_text n ≡ get_or visibility_words n []
visibility_word zero le = refl
visibility_word (suc zero) le = refl
visibility_word (suc (suc zero)) le = refl
visibility_word (suc (suc (suc n))) le = absurd (omega (arith, le))

-- a visibility is read back
reads_visibility : Reads (λ n. n ≤ 2) Anything visibility_text
reads_visibility = record {
  read = λ x y r s gx gy fr fs e. one_word visibility_words refl x y (omega (arith, gx)) (omega (arith, gy)) r s
      (sym (ap (λ t. t ++ r) (visibility_word x gx)) ∙ e ∙ ap (λ t. t ++ s) (visibility_word y gy));
}

-- an annotation that some file can have, of which all symbols are known
abbrev pub KnownAnnotation : Annotation → Type 0
KnownAnnotation a = IsAnnotation a × Knows (annotation_symbols a)

-- the parts of an annotation, one after the other
annotation_from : (blanks : List ℕ) (x y : Annotation) (r s : List ℕ) → KnownAnnotation x → KnownAnnotation y
    → annotation_line blanks x ++ r ≡ annotation_line blanks y ++ s → (x ≡ y) × (r ≡ s)
unfolding annotation_line
annotation_from blanks x y r s gx gy e =
    let end = λ (a : Annotation). codes " {" ++ (elements_text a.elements ++ codes "\n") in
    let type = λ (a : Annotation). codes " " ++ (shown a.type ++ end a) in
    let words = λ (a : Annotation). codes "annotation " ++ (visibility_text a.visibility ++ type a) in
    let v = part reads_visibility x.visibility y.visibility (type x) (type y) r s gx.0.visibility gy.0.visibility tt tt
    (after (codes "annotation ") (skip blanks (words x) (words y) r s e)) in
    let t = part reads_type x.type y.type (end x) (end y) r s gx.1.0 gy.1.0 tt tt (after (codes " ") v.1) in
    let es = part reads_elements x.elements y.elements (codes "\n") (codes "\n") r s (gx.0.elements, gx.1.1) (gy.0.elements, gy.1.1) tt tt (after (codes " {") t.1) in
    (λ i. record { visibility = v.0 i; type = t.0 i; elements = es.0 i }, after (codes "\n") es.1)

-- the line of an annotation is read back
pub reads_annotation : (blanks : List ℕ) → Reads KnownAnnotation Anything (annotation_line blanks)
reads_annotation blanks = record { read = λ x y r s gx gy fr fs e. annotation_from blanks x y r s gx gy e }

-- ---- sets

-- such annotations
abbrev pub KnownSet : AnnotationSet → Type 0
KnownSet set = AllByRecursion KnownAnnotation set

-- those of a set of which all symbols are known
pub known_set : (set : AnnotationSet) → IsSet set → Knows (set_symbols set) → KnownSet set
known_set set h knows = each_both IsAnnotation (λ a. Knows (annotation_symbols a)) set (each_from_all IsAnnotation set h.annotations)
    (each_flat_map KnownSymbol annotation_symbols set knows)

-- of each set
pub known_sets : (sets : List AnnotationSet) → AllByRecursion IsSet sets → Knows (flat_map set_symbols sets) → AllByRecursion KnownSet sets
known_sets sets h knows = each_so (λ set. IsSet set × Knows (set_symbols set)) (λ set both. known_set set both.0 both.1) sets
    (each_both IsSet (λ set. Knows (set_symbols set)) sets h (each_flat_map KnownSymbol set_symbols sets knows))

-- the line begins with the blanks and a word
annotation_words : (blanks : List ℕ) (a : Annotation) → annotation_line blanks a
    ≡ (blanks ++ codes "annotation ") ++ (visibility_text a.visibility ++ (codes " " ++ (shown a.type ++ (codes " {" ++ (elements_text a.elements ++ codes "\n")))))
unfolding annotation_line
annotation_words blanks a = sym (append_assoc blanks (codes "annotation ") _)

-- the lines of a set are read back, where no such line follows
pub reads_set : (blanks : List ℕ) → Reads KnownSet (Lacks (blanks ++ codes "annotation ")) (set_lines blanks)
reads_set blanks = reads_weaker (λ x g. g) (λ r f. (tt, f)) (reads_lines (blanks ++ codes "annotation ")
    (λ a. visibility_text a.visibility ++ (codes " " ++ (shown a.type ++ (codes " {" ++ (elements_text a.elements ++ codes "\n")))))
    (annotation_words blanks) (λ r. tt) (reads_annotation blanks))

-- what follows a set lacks the words that an annotation would begin with
pub lacks_set : (words blanks : List ℕ) → ((a r : List ℕ) → Lacks words ((blanks ++ (codes "annotation " ++ a)) ++ r))
    → (set : AnnotationSet) (r : List ℕ) → Lacks words r → Lacks words (set_lines blanks set ++ r)
unfolding annotation_line
lacks_set words blanks is [] r f = f
lacks_set words blanks is (a ∷ set) r f = subst (Lacks words) (sym (append_assoc (annotation_line blanks a) (set_lines blanks set) r)) (is _ _)

-- ---- sets of parameters

-- what may follow the sets of parameters
abbrev pub AfterParameters : List ℕ → Type 0
AfterParameters r = Lacks (codes "    parameter ") r × Lacks (codes "      annotation ") r

-- what follows a set is no annotation of it
after_sets : (i : ℕ) (sets : List AnnotationSet) (r : List ℕ) → AfterParameters r → Lacks (codes "      annotation ") (parameter_lines i sets ++ r)
unfolding count_text
after_sets i [] r f = f.1
after_sets i (set ∷ sets) r f = refl

-- the line of a parameter begins with its word
no_parameter : (i : ℕ) (a r s : List ℕ) → Lacks (codes "    parameter ") s → (count_text (codes "    parameter ") i ++ a) ++ r ≡ s → ⊥
unfolding count_text
no_parameter i a r s lacks e = true≢false (ap (begins_with (codes "    parameter ")) e ∙ lacks)

-- set by set, of parameters with the same numbers
parameters_from : (i : ℕ) (xs ys : List AnnotationSet) (r s : List ℕ) → AllByRecursion KnownSet xs → AllByRecursion KnownSet ys → AfterParameters r → AfterParameters s
    → parameter_lines i xs ++ r ≡ parameter_lines i ys ++ s → (xs ≡ ys) × (r ≡ s)
parameters_from i [] [] r s gx gy fr fs e = (refl, e)
parameters_from i [] (y ∷ ys) r s gx gy fr fs e = absurd (no_parameter i (codes "\n" ++ (set_lines (codes "      ") y ++ parameter_lines (i + 1) ys)) s r fr.0 (sym e))
parameters_from i (x ∷ xs) [] r s gx gy fr fs e = absurd (no_parameter i (codes "\n" ++ (set_lines (codes "      ") x ++ parameter_lines (i + 1) xs)) r s fs.0 e)
parameters_from i (x ∷ xs) (y ∷ ys) r s gx gy fr fs e =
    let lines = λ (z : AnnotationSet) (zs : List AnnotationSet). codes "\n" ++ (set_lines (codes "      ") z ++ parameter_lines (i + 1) zs) in
    let p = part (reads_set (codes "      ")) x y (parameter_lines (i + 1) xs) (parameter_lines (i + 1) ys) r s gx.0 gy.0 (after_sets (i + 1) xs r fr) (after_sets (i + 1) ys s fs)
    (after (codes "\n") (skip (count_text (codes "    parameter ") i) (lines x xs) (lines y ys) r s e)) in
    let q = parameters_from (i + 1) xs ys r s gx.1 gy.1 fr fs p.1 in
    (ap₂ ◌∷◌ p.0 q.0, q.1)

-- the sets of parameters are read back
pub reads_parameters : (i : ℕ) → Reads (AllByRecursion KnownSet) AfterParameters (parameter_lines i)
reads_parameters i = record { read = parameters_from i }
