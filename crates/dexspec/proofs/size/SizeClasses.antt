-- The bytes of a class, a proto and a text in the sections are at most their weights.
use Rattle.dexspec.proofs.Common.{◌≡◌, ℕ, ◌+◌, ◌*◌, ◌≤◌, List, [], ◌∷◌, length, Option, Some, None, refl, arith, sum_by, option_to_list, sum_by-cons, sum_by-append, Code, Mentions}
use Rattle.dexspec.specs.{Proto, Text, Annotation, AnnotationSet, FieldDef, MethodDef, Definition, declared_fields, declared_methods, method_sets, class_sets, text_weight, proto_weight, mentions_weight, debug_weight, code_weight, annotation_weight, set_weight, ref_list_weight, static_values_weight, field_weight, method_weight, body_weight}
use Rattle.dexspec.proofs.size.SizeSums.{sum_by-map, sum_by-flat_map}
use Rattle.dexspec.proofs.size.SizeSections.{list_part, items_part, set_part, refs_part, debug_part, code_part, data_part, directory_part}

-- ---- mentions

texts-weight : (ss : List Text) → 4 * length ss + sum_by (λ s. 6 + 3 * length s) ss ≤ sum_by text_weight ss
texts-weight [] = omega arith
texts-weight (s ∷ ss) = omega (arith, sum_by-cons (λ (t : Text). 6 + 3 * length t) s ss, sum_by-cons text_weight s ss, texts-weight ss)

protos-weight : (ps : List Proto) → 12 * length ps + sum_by (λ p. list_part p.parameters) ps ≤ sum_by proto_weight ps
protos-weight [] = omega arith
protos-weight (p ∷ ps) = omega (arith, sum_by-cons (λ (q : Proto). list_part q.parameters) p ps, sum_by-cons proto_weight p ps, protos-weight ps)

-- rows, type lists and texts
pub mentions-cover : (m : Mentions) → 4 * length m.texts + 4 * length m.types + 12 * length m.protos + 8 * length m.fields + 8 * length m.methods + sum_by (λ s. 6 + 3 * length s) m.texts + sum_by (λ p. list_part p.parameters) m.protos ≤ mentions_weight m
mentions-cover m = omega (arith, texts-weight m.texts, protos-weight m.protos)

-- ---- sets

four-each : (xs : List Annotation) → sum_by (λ a. 4 + annotation_weight a) xs ≡ 4 * length xs + sum_by annotation_weight xs
four-each [] = refl
four-each (a ∷ xs) = omega (arith, sum_by-cons (λ (b : Annotation). 4 + annotation_weight b) a xs, sum_by-cons annotation_weight a xs, four-each xs)

set-cover : (s : AnnotationSet) → items_part s + set_part s ≤ set_weight s
set-cover [] = omega arith
set-cover (x ∷ xs) = omega (arith, four-each (x ∷ xs))

sets-cover : (ss : List AnnotationSet) → sum_by items_part ss + sum_by set_part ss ≤ sum_by set_weight ss
sets-cover [] = omega arith
sets-cover (s ∷ ss) = omega (arith, sum_by-cons items_part s ss, sum_by-cons set_part s ss, sum_by-cons set_weight s ss, set-cover s, sets-cover ss)

refs-cover : (ss : List AnnotationSet) → sum_by items_part ss + sum_by set_part ss + refs_part ss ≤ ref_list_weight ss
refs-cover [] = omega arith
refs-cover (s ∷ ss) = omega (arith, sets-cover (s ∷ ss))

-- ---- members

code-cover : (o : Option Code) → sum_by (λ c. sum_by debug_weight (option_to_list c.debug)) (option_to_list o) + sum_by code_weight (option_to_list o) ≤ sum_by (λ c. code_weight c + sum_by debug_weight (option_to_list c.debug)) (option_to_list o)
code-cover None = omega arith
code-cover (Some c) = omega arith

-- the parts of a method's sets
abbrev method_sum : (AnnotationSet → ℕ) → MethodDef → ℕ
method_sum f x = f x.annotations + sum_by f x.parameter_annotations

method-cover : (x : MethodDef) → 31 + debug_part x + code_part x + method_sum items_part x + method_sum set_part x + refs_part x.parameter_annotations ≤ method_weight x
method-cover x = omega (arith, code-cover x.code, set-cover x.annotations, refs-cover x.parameter_annotations)

methods-cover : (xs : List MethodDef) → 31 * length xs + sum_by debug_part xs + sum_by code_part xs + sum_by (method_sum items_part) xs + sum_by (method_sum set_part) xs + sum_by (λ x. refs_part x.parameter_annotations) xs ≤ sum_by method_weight xs
methods-cover [] = omega arith
methods-cover (x ∷ xs) = omega (arith, sum_by-cons {X = MethodDef}, method-cover x, methods-cover xs)

fields-cover : (fs : List FieldDef) → 18 * length fs + sum_by (λ f. items_part f.annotations) fs + sum_by (λ f. set_part f.annotations) fs ≤ sum_by field_weight fs
fields-cover [] = omega arith
fields-cover (f ∷ fs) = omega (arith, sum_by-cons {X = FieldDef}, set-cover f.annotations, fields-cover fs)

-- ---- classes

method_sets-sum : (f : AnnotationSet → ℕ) (xs : List MethodDef) → sum_by (λ x. sum_by f (method_sets x)) xs ≡ sum_by (method_sum f) xs
method_sets-sum f [] = refl
method_sets-sum f (x ∷ xs) =
    omega (arith, sum_by-cons (λ (y : MethodDef). sum_by f (method_sets y)) x xs, sum_by-cons (method_sum f) x xs, sum_by-cons f x.annotations x.parameter_annotations, method_sets-sum f xs)

class_sets-sum : (f : AnnotationSet → ℕ) (d : Definition) → sum_by f (class_sets d) ≡ f d.1.annotations + sum_by (λ x. f x.annotations) (declared_fields d.1) + sum_by (method_sum f) (declared_methods d.1)
class_sets-sum f d =
    let fields = sum_by-map f (λ (x : FieldDef). x.annotations) (declared_fields d.1) in
    omega (arith, sum_by-cons {X = AnnotationSet}, sum_by-append {X = AnnotationSet}, fields, sum_by-flat_map f method_sets (declared_methods d.1), method_sets-sum f (declared_methods d.1))

class-cover : (d : Definition)
    → 32 + list_part d.1.interfaces + sum_by items_part (class_sets d) + static_values_weight d.1.static_values + sum_by debug_part (declared_methods d.1) + sum_by code_part (declared_methods d.1)
    + data_part d + sum_by set_part (class_sets d) + sum_by (λ x. refs_part x.parameter_annotations) (declared_methods d.1) + directory_part d ≤ body_weight d.1
class-cover d =
    omega (arith, class_sets-sum items_part d, class_sets-sum set_part d, set-cover d.1.annotations, fields-cover (declared_fields d.1), methods-cover (declared_methods d.1))

-- rows, and all bytes of the classes in the sections
pub classes-cover : (cs : List Definition)
    → 32 * length cs + sum_by (λ d. list_part d.1.interfaces) cs + sum_by (λ d. sum_by items_part (class_sets d)) cs + sum_by (λ d. static_values_weight d.1.static_values) cs
    + sum_by (λ d. sum_by debug_part (declared_methods d.1)) cs + sum_by (λ d. sum_by code_part (declared_methods d.1)) cs + sum_by data_part cs + sum_by (λ d. sum_by set_part (class_sets d)) cs
    + sum_by (λ d. sum_by (λ x. refs_part x.parameter_annotations) (declared_methods d.1)) cs + sum_by directory_part cs ≤ sum_by (λ d. body_weight d.1) cs
classes-cover [] = omega arith
classes-cover (c ∷ cs) = omega (arith, sum_by-cons {X = Definition}, class-cover c, classes-cover cs)
