-- The offsets of the sets of classes, collected class by class.
use Rattle.dexlayout.proofs.Common.{◌≡◌, ℕ, ◌+◌, List, length, map, arith, flat_map, length-append, length-map, chunks, zip_with, Definition, declared_fields, declared_methods, SetOffsets, set_offsets_of, class_sets, method_sets, refl, ◌∙◌, Ordered, set_uses, offsets, unless_empty, same_set, set_items, set_section, set_offsets, length-items_offsets, numbers_offsets, ◌<◌, [], ◌∷◌, ◌++◌, get_or, take, drop, sym, ap, append_assoc, slice_index, append-nil, map-append, take-take, drop-take, drop-drop, get_or-take, MethodDef, FieldDef, Mentions, set_in, NumberedField, NumberedMembers, NumberedMethod, field_in, method_in, fields_of, methods_of, NumberedClass, definition_of, SetPlaces, sets_of_method, sets_of_class, parts_of_methods, parts_of_class, parts_of_classes, collect_own, collect_method, collect_methods, collect_class, collect_classes}
use Rattle.dexlayout.proofs.EncodedUses.{drop_next}

-- the offsets of the sets of classes
abbrev pub parts : List Definition → List ℕ → List SetOffsets
parts ds offs = zip_with set_offsets_of ds (chunks (map (λ d. length (class_sets d)) ds) offs)

-- how many sets a class has
pub class_count : (d : Definition) → length (class_sets d) ≡ 1 + (length (declared_fields d.1) + length (flat_map method_sets (declared_methods d.1)))
class_count d = omega (arith, length-append (map (λ f. f.annotations) (declared_fields d.1)) (flat_map method_sets (declared_methods d.1)), length-map (declared_fields d.1) (λ f. f.annotations))

-- ---- the offsets of all uses of sets

-- the offsets of all uses of sets
abbrev pub set_use_offsets : Ordered → List ℕ
set_use_offsets K = numbers_offsets (set_items K).numbers (offsets (set_section K))

-- as many as sets
pub length-set_use_offsets : (K : Ordered) → length (set_use_offsets K) ≡ length (flat_map class_sets K.classes)
length-set_use_offsets K = length-items_offsets K.sharing same_set (set_uses K) (offsets (set_section K)) ∙ length-map (flat_map class_sets K.classes) unless_empty

-- the offsets of the sets, class by class
pub set_offsets_are : (K : Ordered) → set_offsets K ≡ parts K.classes (set_use_offsets K)
unfolding set_offsets set_section
set_offsets_are K = refl

-- ---- what has been collected

-- of methods
pub collected_methods : (p : SetPlaces) (oss : List (List ℕ)) → collect_methods p oss ≡ record {
  own = p.own;
  fields = p.fields;
  methods = p.methods ++ map (λ os. slice_index os 0) oss;
  parameters = p.parameters ++ flat_map (drop 1) oss;
  written = p.written;
}
collected_methods p [] = λ i. record { own = p.own; fields = p.fields; methods = sym (append-nil p.methods) i; parameters = sym (append-nil p.parameters) i; written = p.written }
collected_methods p (os ∷ oss) =
    collected_methods (collect_method p os) oss ∙ (λ i. record {
      own = p.own;
      fields = p.fields;
      methods = append_assoc p.methods (slice_index os 0 ∷ []) (map (λ os. slice_index os 0) oss) i;
      parameters = append_assoc p.parameters (drop 1 os) (flat_map (drop 1) oss) i;
      written = p.written;
    })

-- of classes
pub collected_classes : (p : SetPlaces) (ss : List SetOffsets) → collect_classes p ss ≡ record {
  own = p.own ++ map (λ (s : SetOffsets). s.own) ss;
  fields = p.fields ++ flat_map (λ (s : SetOffsets). s.fields) ss;
  methods = p.methods ++ flat_map (λ (s : SetOffsets). map (λ os. slice_index os 0) s.methods) ss;
  parameters = p.parameters ++ flat_map (λ (s : SetOffsets). flat_map (drop 1) s.methods) ss;
  written = p.written;
}
collected_classes p [] = λ i. record {
  own = sym (append-nil p.own) i;
  fields = sym (append-nil p.fields) i;
  methods = sym (append-nil p.methods) i;
  parameters = sym (append-nil p.parameters) i;
  written = p.written;
}
collected_classes p (s ∷ ss) =
    let q = collect_own p s.own s.fields in
    let a = append_assoc p.own (s.own ∷ []) (map (λ (s : SetOffsets). s.own) ss) in
    let b = append_assoc p.fields s.fields (flat_map (λ (s : SetOffsets). s.fields) ss) in
    let c = append_assoc p.methods (map (λ os. slice_index os 0) s.methods) (flat_map (λ (s : SetOffsets). map (λ os. slice_index os 0) s.methods) ss) in
    ap (λ r. collect_classes r ss) (collected_methods q s.methods)
    ∙ collected_classes (record { own = q.own; fields = q.fields; methods = q.methods ++ map (λ os. slice_index os 0) s.methods; parameters = q.parameters ++ flat_map (drop 1) s.methods; written = q.written }) ss
    ∙ (λ i. record {
      own = a i;
      fields = b i;
      methods = c i;
      parameters = append_assoc p.parameters (flat_map (drop 1) s.methods) (flat_map (λ (s : SetOffsets). flat_map (drop 1) s.methods) ss) i;
      written = p.written;
    })

-- ---- the offsets that are left

module _ (xs : List NumberedMethod) (i : ℕ) (x : NumberedMethod) (lt : i < length xs) (is : get_or xs i x ≡ x) where
  pub next_parts : (p : SetPlaces) (offs : List ℕ) → collect_methods p (parts_of_methods (drop i xs) offs) ≡ collect_methods (collect_method p (take (length (sets_of_method x)) offs)) (parts_of_methods (drop (i + 1) xs) (drop (length (sets_of_method x)) offs))
  next_parts p offs = ap (λ l. collect_methods p (parts_of_methods l offs)) (drop_next xs i x lt is)

  pub next_count : length (flat_map sets_of_method (drop i xs)) ≡ length (sets_of_method x) + length (flat_map sets_of_method (drop (i + 1) xs))
  next_count = ap (λ l. length (flat_map sets_of_method l)) (drop_next xs i x lt is) ∙ length-append (sets_of_method x) (flat_map sets_of_method (drop (i + 1) xs))

-- how many sets a class has
pub class_sets_count : (c : NumberedClass) → length (sets_of_class c) ≡ 1 + (length (fields_of c.members) + length (flat_map sets_of_method (methods_of c.members)))
class_sets_count c = omega (arith, length-append (map (λ (f : NumberedField). f.annotations) (fields_of c.members)) (flat_map sets_of_method (methods_of c.members)), length-map (fields_of c.members) (λ (f : NumberedField). f.annotations))

-- those of a class: its own and its fields', and then its methods'
module _ (c : NumberedClass) (offs : List ℕ) {rest : List ℕ} (x : NumberedMembers) where
  pub collected_class : {fs : List ℕ} (p : SetPlaces) {p0 p1 : SetPlaces} → x ≡ c.members → fs ≡ take (length (fields_of c.members)) (drop 1 offs) → rest ≡ drop (length (fields_of c.members)) (drop 1 offs)
      → p0 ≡ collect_own p (slice_index offs 0) fs → p1 ≡ collect_methods p0 (parts_of_methods (methods_of x) rest) → p1 ≡ collect_class p (parts_of_class c offs)
  collected_class p members fields back own all = rw (all, own, fields, back, members) refl

  -- what is left after them
  pub left_of_class : {last : List ℕ} → x ≡ c.members → rest ≡ drop (length (fields_of c.members)) (drop 1 offs) → last ≡ drop (length (flat_map sets_of_method (methods_of x))) rest → last ≡ drop (length (sets_of_class c)) offs
  left_of_class members back left =
      let k = length (fields_of c.members) in
      let n = length (flat_map sets_of_method (methods_of c.members)) in
      rw (left, back, members) (ap (drop n) (drop-drop k 1 offs) ∙ drop-drop n (1 + k) offs ∙ ap (λ j. drop j offs) {x = 1 + k + n} {y = length (sets_of_class c)} (omega (arith, class_sets_count c)))

-- ---- they are those of the file

-- what a list is cut into does not hang on what follows
chunks_prefix : {X Y : Type 0} (f : X → List Y) (xs : List X) (zs : List ℕ) → chunks (map (λ x. length (f x)) xs) (take (length (flat_map f xs)) zs) ≡ chunks (map (λ x. length (f x)) xs) zs
chunks_prefix f [] zs = refl
chunks_prefix f (x ∷ xs) zs =
    let n = length (f x) in
    let r = length (flat_map f xs) in
    let all : length (f x ++ flat_map f xs) ≡ n + r = length-append (f x) (flat_map f xs) in
    λ i. take-take n (length (f x ++ flat_map f xs)) zs (omega (arith, all)) i ∷ (ap (chunks (map (λ x. length (f x)) xs)) (ap (λ k. drop n (take k zs)) all ∙ drop-take n r zs) ∙ chunks_prefix f xs (drop n zs)) i

module _ (m : Mentions) where
  -- the fields of a class
  pub fields_count : (c : NumberedClass) → length (declared_fields (definition_of m c).1) ≡ length (fields_of c.members)
  fields_count c = ap (λ (l : List FieldDef). length l) (sym (map-append (field_in m) c.members.static_fields c.members.instance_fields)) ∙ length-map (fields_of c.members) (field_in m)

  -- its methods
  pub methods_are : (c : NumberedClass) → declared_methods (definition_of m c).1 ≡ map (method_in m) (methods_of c.members)
  methods_are c = sym (map-append (method_in m) c.members.direct_methods c.members.virtual_methods)

  -- the sets of a method
  method_count : (x : NumberedMethod) → length (method_sets (method_in m x)) ≡ length (sets_of_method x)
  method_count x = length-map (sets_of_method x) (set_in m)

  method_counts : (xs : List NumberedMethod) → map (λ x. length (method_sets x)) (map (method_in m) xs) ≡ map (λ x. length (sets_of_method x)) xs
  method_counts [] = refl
  method_counts (x ∷ xs) = let here = method_count x in let rest = method_counts xs in λ i. here i ∷ rest i

  methods_count : (xs : List NumberedMethod) → length (flat_map method_sets (map (method_in m) xs)) ≡ length (flat_map sets_of_method xs)
  methods_count [] = refl
  methods_count (x ∷ xs) = omega (arith, length-append (method_sets (method_in m x)) (flat_map method_sets (map (method_in m) xs)), length-append (sets_of_method x) (flat_map sets_of_method xs), method_count x, methods_count xs)

  -- the sets of a class
  pub class_is_long : (c : NumberedClass) → length (class_sets (definition_of m c)) ≡ length (sets_of_class c)
  class_is_long c =
      let methods : length (flat_map method_sets (declared_methods (definition_of m c).1)) ≡ length (flat_map sets_of_method (methods_of c.members)) =
      ap (λ (l : List MethodDef). length (flat_map method_sets l)) (methods_are c) ∙ methods_count (methods_of c.members) in
      omega (arith, class_count (definition_of m c), class_sets_count c, fields_count c, methods)

  pub classes_are_long : (cs : List NumberedClass) → length (flat_map class_sets (map (definition_of m) cs)) ≡ length (flat_map sets_of_class cs)
  classes_are_long [] = refl
  classes_are_long (c ∷ cs) = omega (arith, length-append (class_sets (definition_of m c)) (flat_map class_sets (map (definition_of m) cs)), length-append (sets_of_class c) (flat_map sets_of_class cs), class_is_long c, classes_are_long cs)

  -- the offsets of the sets of a class
  class_parts : (c : NumberedClass) (offs : List ℕ) → set_offsets_of (definition_of m c) (take (length (class_sets (definition_of m c))) offs) ≡ parts_of_class c offs
  class_parts c offs =
      let d = definition_of m c in
      let n = length (class_sets d) in
      let k = length (fields_of c.members) in
      let kd = length (declared_fields d.1) in
      let xs = methods_of c.members in
      let q = length (flat_map method_sets (declared_methods d.1)) in
      let all : n ≡ 1 + (kd + q) = class_count d in
      let own : slice_index (take n offs) 0 ≡ slice_index offs 0 = get_or-take n offs 0 0 (omega (arith, all)) in
      let following : drop 1 (take n offs) ≡ take (kd + q) (drop 1 offs) = ap (λ j. drop 1 (take j offs)) all ∙ drop-take 1 (kd + q) offs in
      let fields : take kd (drop 1 (take n offs)) ≡ take k (drop 1 offs) = ap (take kd) following ∙ take-take kd (kd + q) (drop 1 offs) (omega arith) ∙ ap (λ j. take j (drop 1 offs)) (fields_count c) in
      let rest : drop (1 + kd) (take n offs) ≡ take q (drop (1 + kd) offs) = ap (λ j. drop (1 + kd) (take j offs)) (all ∙ omega arith) ∙ drop-take (1 + kd) q offs in
      let there : drop (1 + kd) offs ≡ drop k (drop 1 offs) = ap (λ j. drop (1 + j) offs) (fields_count c) ∙ sym (drop-drop k 1 offs) in
      let counts : map (λ x. length (method_sets x)) (declared_methods d.1) ≡ map (λ x. length (sets_of_method x)) xs = ap (map (λ x. length (method_sets x))) (methods_are c) ∙ method_counts xs in
      let methods : chunks (map (λ x. length (method_sets x)) (declared_methods d.1)) (drop (1 + kd) (take n offs)) ≡ parts_of_methods xs (drop k (drop 1 offs)) =
      ap (chunks (map (λ x. length (method_sets x)) (declared_methods d.1))) rest ∙ chunks_prefix method_sets (declared_methods d.1) (drop (1 + kd) offs) ∙ (λ i. chunks (counts i) (there i)) in
      λ i. record { own = own i; fields = fields i; methods = methods i }

  -- of all classes
  pub classes_parts : (cs : List NumberedClass) (offs : List ℕ) → parts (map (definition_of m) cs) offs ≡ parts_of_classes cs offs
  classes_parts [] offs = refl
  classes_parts (c ∷ cs) offs = λ i. class_parts c offs i ∷ (ap (λ k. parts (map (definition_of m) cs) (drop k offs)) (class_is_long c) ∙ classes_parts cs (drop (length (sets_of_class c)) offs)) i
