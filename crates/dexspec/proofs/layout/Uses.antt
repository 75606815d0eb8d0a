-- The offset of each use of an item in a file with this layout: it is 0 if the use has no item, and otherwise the item
-- is there. By class and method: type lists, static values, class data, code, debug programs, sets, ref lists and
-- directories.
use Rattle.dexspec.proofs.Common.{◌≡◌, ℕ, zero, suc, ◌+◌, ◌<◌, ◌≤◌, List, [], ◌∷◌, ◌++◌, length, get_or, map, take, drop, refl, sym, ap, subst, ◌∙◌, arith, slice_index, Option, Some, None, Bool, if◌then◌else◌, option_map, option_map_or, flat_map, zip, Contains, position_or_len, length-take, length-drop, length-append, length-map, get_or-map, get_or-take, get_or-drop, get_or_append_left, get_or-append-add, drop-drop, take_all, get_or-flat_map, Code, Debug, Mentions, length-flat_map-take}
use Rattle.dexspec.specs.{type_list_items, type_list_section, annotation_section, annotation_offsets, array_section, debug_items, debug_section, code_section, class_data_section, set_items, set_section, set_offsets, ref_list_section, directory_section, chunks, zip_with, present, distinct, Proto, Annotation, AnnotationSet, FieldDef, MethodDef, Definition, declared_fields, declared_methods, same_types, same_debug, same_set, code_bytes, debug_bytes, encoded_array_bytes, annotation_bytes, offsets_bytes, class_data_bytes, type_list_bytes, unless_empty, values_unless_empty, own_numbers, own_items, Items, shared_items, Sharing, EqualOnce, EachForItself, items_by, Placed, offsets, uses_offsets, Ordered, all_methods, by_class, is_empty_class, method_sets, class_sets, SetOffsets, set_offsets_of, type_list_uses, set_uses, debug_uses, code_uses, static_values_uses, class_data_uses, ref_list_uses, directory_uses, directory_bytes}
use Rattle.dexspec.proofs.layout.Places.{length-offsets_from}
use Rattle.dexspec.proofs.layout.Placements.{numbers_offsets, length-own_numbers, length-uses_offsets, length-items_offsets, length-chunks, length-by_class, length-zip, length-zip_with, length-set_offsets}
use Rattle.dexspec.proofs.lists.{distinct_has, IsEquality}
use Rattle.dexspec.proofs.sharing.Sharing.{present_has, position_is}
use Rattle.dexspec.proofs.sharing.Sameness.{types_decide, debug_decides, set_decides}
use Rattle.dexspec.proofs.layout.SectionPlaces.{ItemIsAt, SectionIsAt, Laid, get_or-zip_with, get_or-zip}

-- ---- items and their numbers

-- a use without an item has no number; another use has the number of its item
abbrev pub IsNumber : {X : Type 0} → Option X → Option ℕ → List X → Type 0
IsNumber None n xs = n ≡ None
IsNumber (Some x) n xs = (i : ℕ) × (i < length xs) × (n ≡ Some i) × (get_or xs i x ≡ x)

-- each use has this number
pub record AreNumbered {X : Type 0} (uses : List (Option X)) (its : Items X) : Type 0 where
  pub count : length its.numbers ≡ length uses
  pub each : (k : ℕ) → k < length uses → IsNumber (get_or uses k None) (get_or its.numbers k None) its.written

-- the same with numbers from n on
abbrev IsNumberFrom : {X : Type 0} → ℕ → Option X → Option ℕ → List X → Type 0
IsNumberFrom n None o xs = o ≡ None
IsNumberFrom n (Some x) o xs = (i : ℕ) × (i < length xs) × (o ≡ Some (n + i)) × (get_or xs i x ≡ x)

-- one item before the others
one_before : {X : Type 0} (n : ℕ) (y : X) (u : Option X) (o : Option ℕ) (xs : List X) → IsNumberFrom (n + 1) u o xs → IsNumberFrom n u o (y ∷ xs)
one_before n y None o xs h = h
one_before n y (Some x) o xs h = (suc h.0, omega (arith, h.1), h.2 ∙ ap Some (omega arith), h.3)

-- own items are numbered from n on
own_from : {X : Type 0} (n : ℕ) (uses : List (Option X)) (k : ℕ) → k < length uses → IsNumberFrom n (get_or uses k None) (get_or (own_numbers n uses) k None) (present uses)
own_from n [] k lt = absurd (omega arith)
own_from n (None ∷ uses) zero lt = refl
own_from n (None ∷ uses) (suc k) lt = own_from n uses k (omega arith)
own_from n (Some x ∷ uses) zero lt = (0, omega arith, ap Some (omega arith), refl)
own_from n (Some x ∷ uses) (suc k) lt = one_before n x (get_or uses k None) (get_or (own_numbers (n + 1) uses) k None) (present uses) (own_from (n + 1) uses k (omega arith))

-- from 0 on they are the numbers
from_zero : {X : Type 0} (u : Option X) (o : Option ℕ) (xs : List X) → IsNumberFrom 0 u o xs → IsNumber u o xs
from_zero None o xs h = h
from_zero (Some x) o xs h = (h.0, h.1, h.2 ∙ ap Some (omega arith), h.3)

-- own items have these numbers
pub own_numbered : {X : Type 0} (uses : List (Option X)) → AreNumbered uses (own_items uses)
own_numbered uses = record {
  count = length-own_numbers 0 uses;
  each = λ k lt. from_zero (get_or uses k None) (get_or (own_numbers 0 uses) k None) (present uses) (own_from 0 uses k lt);
}

-- the number of a use's item among shared items
shared_from : {X : Type 0} (same : X → X → Bool) → IsEquality same → (xs : List X) (u : Option X) → ((x : X) → u ≡ Some x → Contains xs x)
    → IsNumber u (option_map (λ x. position_or_len (λ y. same y x) xs) u) xs
shared_from same exact xs None has = refl
shared_from same exact xs (Some x) has =
    let is = position_is same exact xs x (has x refl) in
    (position_or_len (λ y. same y x) xs, is.0, refl, is.1)

-- items that equal uses share have these numbers, if the test decides equality
pub shared_numbered : {X : Type 0} (same : X → X → Bool) → IsEquality same → (uses : List (Option X)) → AreNumbered uses (shared_items same uses)
shared_numbered same exact uses =
    let items = distinct same (present uses) in
    let number = option_map (λ x. position_or_len (λ y. same y x) items) in
    record {
      count = length-map uses number;
      each = λ k lt. subst (λ n. IsNumber (get_or uses k None) n items) (sym (get_or-map number uses k None None lt))
          (shared_from same exact items (get_or uses k None) (λ x e. distinct_has same (λ y z. (exact y z).0) (present uses) x (present_has uses k x lt e)));
    }

-- items have these numbers for both kinds of sharing
pub items_numbered : {X : Type 0} (how : Sharing) (same : X → X → Bool) → IsEquality same → (uses : List (Option X)) → AreNumbered uses (items_by how same uses)
items_numbered EqualOnce same exact uses = shared_numbered same exact uses
items_numbered EachForItself same exact uses = own_numbered uses

-- ---- uses and offsets

-- the offset is 0 if there is no item, and otherwise the item is there
abbrev pub UseIsAt : {X : Type 0} → List ℕ → ℕ → (X → List ℕ) → Option X → ℕ → Type 0
UseIsAt b align g None o = o ≡ 0
UseIsAt b align g (Some x) o = ItemIsAt b align o (g x)

-- the offset of a number
pub number_offset : (its : List (Option ℕ)) (offs : List ℕ) (k : ℕ) → k < length its → slice_index (numbers_offsets its offs) k ≡ option_map_or (slice_index offs) (get_or its k None) 0
number_offset its offs k lt = get_or-map (λ n. option_map_or (slice_index offs) n 0) its k None 0 lt

-- case split on the use and its number
use_by : {X : Type 0} {b : List ℕ} (p : Placed) (g : X → List ℕ) (xs : List X) → p.items ≡ map g xs → SectionIsAt b p → (u : Option X) (n : Option ℕ) → IsNumber u n xs
    → UseIsAt b p.align g u (option_map_or (slice_index (offsets p)) n 0)
use_by p g xs is s None n h = ap (λ m. option_map_or (slice_index (offsets p)) m 0) h
use_by {b = b} p g xs is s (Some x) n h =
    let lt : h.0 < length p.items = omega (arith, ap length is, length-map xs g, h.1) in
    let item : get_or p.items h.0 (g x) ≡ g x = ap (λ l. get_or l h.0 (g x)) is ∙ get_or-map g xs h.0 x (g x) h.1 ∙ ap g h.3 in
    subst (λ y. ItemIsAt b p.align (option_map_or (slice_index (offsets p)) n 0) y) item
    (subst (λ m. ItemIsAt b p.align (option_map_or (slice_index (offsets p)) m 0) (get_or p.items h.0 (g x))) (sym h.2) (s h.0 (g x) lt))

-- each use's item is at its offset
pub use_encoded : {X : Type 0} {b : List ℕ} (p : Placed) (g : X → List ℕ) (its : Items X) (uses : List (Option X)) → AreNumbered uses its → p.items ≡ map g its.written → SectionIsAt b p
    → (k : ℕ) → k < length uses → UseIsAt b p.align g (get_or uses k None) (slice_index (numbers_offsets its.numbers (offsets p)) k)
use_encoded {b = b} p g its uses are is s k lt =
    subst (λ o. UseIsAt b p.align g (get_or uses k None) o) (sym (number_offset its.numbers (offsets p) k (omega (arith, are.count, lt))))
    (use_by p g its.written is s (get_or uses k None) (get_or its.numbers k None) (are.each k lt))

-- ---- parts of lists

-- the r-th part is that of the r-th member, after those of the members before
pub chunk_at : {X Y Z : Type 0} (f : X → List Y) (xs : List X) (zs : List Z) (r : ℕ) (d : X) → r < length xs
    → get_or (chunks (map (λ x. length (f x)) xs) zs) r [] ≡ take (length (f (get_or xs r d))) (drop (length (flat_map f (take r xs))) zs)
chunk_at f [] zs r d lt = absurd (omega arith)
chunk_at f (x ∷ xs) zs zero d lt = refl
chunk_at f (x ∷ xs) zs (suc r) d lt =
    chunk_at f xs (drop (length (f x)) zs) r d (omega arith)
    ∙ ap (take (length (f (get_or xs r d)))) (drop-drop (length (flat_map f (take r xs))) (length (f x)) zs ∙ ap (λ n. drop n zs) (sym (length-append (f x) (flat_map f (take r xs)))))

-- the j-th of the r-th part
pub chunk_item : {X Y Z : Type 0} (f : X → List Y) (xs : List X) (zs : List Z) (r : ℕ) (d : X) (j : ℕ) (e : Z) → r < length xs → j < length (f (get_or xs r d))
    → get_or (get_or (chunks (map (λ x. length (f x)) xs) zs) r []) j e ≡ get_or zs (length (flat_map f (take r xs)) + j) e
chunk_item f xs zs r d j e lt less =
    ap (λ l. get_or l j e) (chunk_at f xs zs r d lt) ∙ get_or-take (length (f (get_or xs r d))) (drop (length (flat_map f (take r xs))) zs) j e less
    ∙ get_or-drop (length (flat_map f (take r xs))) zs j e

-- it is within the whole
pub part_within : {X Y : Type 0} (f : X → List Y) (xs : List X) (r : ℕ) (d : X) (j : ℕ) → r < length xs → j < length (f (get_or xs r d)) → length (flat_map f (take r xs)) + j < length (flat_map f xs)
part_within f [] r d j lt less = absurd (omega arith)
part_within f (x ∷ xs) zero d j lt less = omega (arith, length-append (f x) (flat_map f xs), less)
part_within f (x ∷ xs) (suc r) d j lt less =
    omega (arith, length-append (f x) (flat_map f xs), length-append (f x) (flat_map f (take r xs)), part_within f xs r d j (omega arith) less)

-- ---- the methods of all classes

-- the place of the j-th method of class r among all methods
abbrev pub method_place : Ordered → ℕ → ℕ → ℕ
method_place K r j = length (all_methods (take r K.classes)) + j

-- the method is at this place
pub method_at : (K : Ordered) (r : ℕ) (d : Definition) (j : ℕ) (x : MethodDef) → r < length K.classes → j < length (declared_methods (get_or K.classes r d).1)
    → get_or (all_methods K.classes) (method_place K r j) x ≡ get_or (declared_methods (get_or K.classes r d).1) j x
method_at K r d j x lt less = get_or-flat_map (λ (d : Definition). declared_methods d.1) K.classes r j d x lt less

-- the place is less than the number of methods
pub method_within : (K : Ordered) (r : ℕ) (d : Definition) (j : ℕ) → r < length K.classes → j < length (declared_methods (get_or K.classes r d).1) → method_place K r j < length (all_methods K.classes)
method_within K r d j lt less = part_within (λ (d : Definition). declared_methods d.1) K.classes r d j lt less

-- a list for all methods, split by class
pub by_class_at : {X : Type 0} (K : Ordered) (xs : List X) (r : ℕ) (d : Definition) (j : ℕ) (e : X) → r < length K.classes → j < length (declared_methods (get_or K.classes r d).1)
    → get_or (get_or (by_class K xs) r []) j e ≡ get_or xs (method_place K r j) e
by_class_at K xs r d j e lt less = chunk_item (λ (d : Definition). declared_methods d.1) K.classes xs r d j e lt less

-- a debug program's offset for each method
pub length-debug_offsets : (K : Ordered) → length (uses_offsets (debug_section K)) ≡ length (all_methods K.classes)
unfolding debug_section
length-debug_offsets K = length-items_offsets K.sharing same_debug (debug_uses K) (offsets (debug_section K)) ∙ length-map (all_methods K.classes) _

-- an offset of code for each method
pub length-code_offsets : (K : Ordered) → length (uses_offsets (code_section K)) ≡ length (all_methods K.classes)
unfolding code_section
length-code_offsets K =
    length-uses_offsets (code_uses K (uses_offsets (debug_section K))) (offsets (code_section K)) ∙ length-zip_with _ (all_methods K.classes) (uses_offsets (debug_section K)) (length (all_methods K.classes)) refl (length-debug_offsets K)

-- ---- the uses of a file with this layout

-- the debug program of a method
abbrev pub debug_of : MethodDef → Option Debug
debug_of x = option_map_or (λ c. c.debug) x.code None

-- its code with the offset of the debug program
abbrev pub code_of_method : ℕ → MethodDef → Option (Code × ℕ)
code_of_method off x = option_map_or (λ c. Some (c, off)) x.code None

-- the class data of a class with the offsets of its methods' code
abbrev pub class_data_of : Definition → List ℕ → Option (Definition × List ℕ)
class_data_of d offs = if is_empty_class d.1 then None else Some (d, offs)

module _ {K : Ordered} {b : List ℕ} (h : Laid K b) where
  -- each type list
  type_list_use : (k : ℕ) → k < length (type_list_uses K) → UseIsAt b 4 (type_list_bytes K.pools) (get_or (type_list_uses K) k None) (slice_index (uses_offsets (type_list_section K)) k)
  unfolding type_list_section
  type_list_use k lt = use_encoded (type_list_section K) (type_list_bytes K.pools) (type_list_items K) (type_list_uses K) (items_numbered K.sharing same_types types_decide (type_list_uses K)) refl h.type_lists k lt

  -- the parameters of a proto
  pub parameters_encoded : (i : ℕ) (d : Proto) → i < length K.pools.protos → UseIsAt b 4 (type_list_bytes K.pools) (unless_empty (get_or K.pools.protos i d).parameters) (slice_index (uses_offsets (type_list_section K)) i)
  parameters_encoded i d lt =
      let f = λ (p : Proto). unless_empty p.parameters in
      let g = λ (d : Definition). unless_empty d.1.interfaces in
      let len : length (map f K.pools.protos) ≡ length K.pools.protos = length-map K.pools.protos f in
      subst (λ u. UseIsAt b 4 (type_list_bytes K.pools) u (slice_index (uses_offsets (type_list_section K)) i))
      (get_or_append_left (map f K.pools.protos) (map g K.classes) None i (omega (arith, len)) ∙ get_or-map f K.pools.protos i d None lt)
      (type_list_use i (omega (arith, len, length-append (map f K.pools.protos) (map g K.classes))))

  -- the interfaces of a class
  pub interfaces_encoded : (r : ℕ) (d : Definition) → r < length K.classes
      → UseIsAt b 4 (type_list_bytes K.pools) (unless_empty (get_or K.classes r d).1.interfaces) (slice_index (uses_offsets (type_list_section K)) (length K.pools.protos + r))
  interfaces_encoded r d lt =
      let f = λ (p : Proto). unless_empty p.parameters in
      let g = λ (d : Definition). unless_empty d.1.interfaces in
      let len : length (map f K.pools.protos) ≡ length K.pools.protos = length-map K.pools.protos f in
      let len2 : length (map g K.classes) ≡ length K.classes = length-map K.classes g in
      subst (λ u. UseIsAt b 4 (type_list_bytes K.pools) u (slice_index (uses_offsets (type_list_section K)) (length K.pools.protos + r)))
      (ap (λ n. get_or (map f K.pools.protos ++ map g K.classes) (n + r) None) (sym len) ∙ get_or-append-add (map f K.pools.protos) (map g K.classes) r None ∙ get_or-map g K.classes r d None lt)
      (type_list_use (length K.pools.protos + r) (omega (arith, len, len2, length-append (map f K.pools.protos) (map g K.classes))))

  -- the static values of a class
  pub static_values_encoded : (r : ℕ) (d : Definition) → r < length K.classes → UseIsAt b 1 (encoded_array_bytes K.pools) (values_unless_empty (get_or K.classes r d).1.static_values) (slice_index (uses_offsets (array_section K)) r)
  unfolding array_section
  static_values_encoded r d lt =
      let f = λ (d : Definition). values_unless_empty d.1.static_values in
      subst (λ u. UseIsAt b 1 (encoded_array_bytes K.pools) u (slice_index (uses_offsets (array_section K)) r)) (get_or-map f K.classes r d None lt)
      (use_encoded (array_section K) (encoded_array_bytes K.pools) (own_items (static_values_uses K)) (static_values_uses K) (own_numbered (static_values_uses K)) refl h.arrays r (omega (arith, lt, length-map K.classes f)))

  -- the debug program of a method
  debug_use : (k : ℕ) (x : MethodDef) → k < length (all_methods K.classes) → UseIsAt b 1 (debug_bytes K.pools) (debug_of (get_or (all_methods K.classes) k x)) (slice_index (uses_offsets (debug_section K)) k)
  unfolding debug_section
  debug_use k x lt =
      subst (λ u. UseIsAt b 1 (debug_bytes K.pools) u (slice_index (uses_offsets (debug_section K)) k)) (get_or-map debug_of (all_methods K.classes) k x None lt)
      (use_encoded (debug_section K) (debug_bytes K.pools) (debug_items K) (debug_uses K) (items_numbered K.sharing same_debug debug_decides (debug_uses K)) refl h.debugs k (omega (arith, lt, length-map (all_methods K.classes) debug_of)))

  -- the code of a method
  code_use : (k : ℕ) (x : MethodDef) → k < length (all_methods K.classes)
      → UseIsAt b 4 (λ (p : Code × ℕ). code_bytes K.pools p.1 p.0) (code_of_method (slice_index (uses_offsets (debug_section K)) k) (get_or (all_methods K.classes) k x)) (slice_index (uses_offsets (code_section K)) k)
  unfolding code_section
  code_use k x lt =
      let f : MethodDef → ℕ → Option (Code × ℕ) = λ x o. code_of_method o x in
      let g : Code × ℕ → List ℕ = λ p. code_bytes K.pools p.1 p.0 in
      let len : length (code_uses K (uses_offsets (debug_section K))) ≡ length (all_methods K.classes) = length-zip_with f (all_methods K.classes) (uses_offsets (debug_section K)) (length (all_methods K.classes)) refl (length-debug_offsets K) in
      subst (λ u. UseIsAt b 4 g u (slice_index (uses_offsets (code_section K)) k)) (get_or-zip_with f (all_methods K.classes) (uses_offsets (debug_section K)) k x 0 None lt (omega (arith, lt, length-debug_offsets K)))
      (use_encoded (code_section K) g (own_items (code_uses K (uses_offsets (debug_section K)))) (code_uses K (uses_offsets (debug_section K))) (own_numbered (code_uses K (uses_offsets (debug_section K)))) refl h.codes k (omega (arith, lt, len)))

  -- the debug program of the j-th method of class r
  pub debug_encoded : (r : ℕ) (d : Definition) (j : ℕ) (x : MethodDef) → r < length K.classes → j < length (declared_methods (get_or K.classes r d).1)
      → UseIsAt b 1 (debug_bytes K.pools) (debug_of (get_or (declared_methods (get_or K.classes r d).1) j x)) (slice_index (uses_offsets (debug_section K)) (method_place K r j))
  debug_encoded r d j x lt less =
      subst (λ y. UseIsAt b 1 (debug_bytes K.pools) (debug_of y) (slice_index (uses_offsets (debug_section K)) (method_place K r j))) (method_at K r d j x lt less)
      (debug_use (method_place K r j) x (method_within K r d j lt less))

  -- its code, at the offset that the class's data has for it
  pub code_encoded : (r : ℕ) (d : Definition) (j : ℕ) (x : MethodDef) → r < length K.classes → j < length (declared_methods (get_or K.classes r d).1)
      → UseIsAt b 4 (λ (p : Code × ℕ). code_bytes K.pools p.1 p.0) (code_of_method (slice_index (uses_offsets (debug_section K)) (method_place K r j)) (get_or (declared_methods (get_or K.classes r d).1) j x))
      (slice_index (get_or (by_class K (uses_offsets (code_section K))) r []) j)
  code_encoded r d j x lt less =
      let g : Code × ℕ → List ℕ = λ p. code_bytes K.pools p.1 p.0 in
      subst (λ o. UseIsAt b 4 g (code_of_method (slice_index (uses_offsets (debug_section K)) (method_place K r j)) (get_or (declared_methods (get_or K.classes r d).1) j x)) o) (sym (by_class_at K (uses_offsets (code_section K)) r d j 0 lt less))
      (subst (λ y. UseIsAt b 4 g (code_of_method (slice_index (uses_offsets (debug_section K)) (method_place K r j)) y) (slice_index (uses_offsets (code_section K)) (method_place K r j))) (method_at K r d j x lt less)
      (code_use (method_place K r j) x (method_within K r d j lt less)))

  -- the class data of a class
  pub class_data_encoded : (r : ℕ) (d : Definition) → r < length K.classes
      → UseIsAt b 1 (λ (p : Definition × List ℕ). class_data_bytes K.pools p.0 p.1) (class_data_of (get_or K.classes r d) (get_or (by_class K (uses_offsets (code_section K))) r [])) (slice_index (uses_offsets (class_data_section K)) r)
  unfolding class_data_section
  class_data_encoded r d lt =
      let g : Definition × List ℕ → List ℕ = λ p. class_data_bytes K.pools p.0 p.1 in
      let uses = class_data_uses K (uses_offsets (code_section K)) in
      let len : length uses ≡ length K.classes = length-zip_with class_data_of K.classes (by_class K (uses_offsets (code_section K))) (length K.classes) refl (length-by_class K (uses_offsets (code_section K))) in
      subst (λ u. UseIsAt b 1 g u (slice_index (uses_offsets (class_data_section K)) r))
      (get_or-zip_with class_data_of K.classes (by_class K (uses_offsets (code_section K))) r d [] None lt (omega (arith, lt, length-by_class K (uses_offsets (code_section K)))))
      (use_encoded (class_data_section K) g (own_items uses) uses (own_numbered uses) refl h.class_data r (omega (arith, lt, len)))

-- ---- annotation sets

-- an annotation_set_item is at the offset, and the annotations of the set are at the offsets in it
pub record SetItems (b : List ℕ) (m : Mentions) (o : ℕ) (x : AnnotationSet) : Type 0 where
  pub offs : List ℕ
  pub set : ItemIsAt b 4 o (offsets_bytes offs)
  pub count : length offs ≡ length x
  pub each : (j : ℕ) (d : Annotation) → j < length x → ItemIsAt b 1 (slice_index offs j) (annotation_bytes m (get_or x j d))

-- an empty set has offset 0
abbrev pub SetIsAt : List ℕ → Mentions → AnnotationSet → ℕ → Type 0
SetIsAt b m [] o = o ≡ 0
SetIsAt b m (a ∷ x) o = SetItems b m o (a ∷ x)

-- the offset of each set, of all classes
abbrev pub set_use_offsets : Ordered → List ℕ
set_use_offsets K = uses_offsets (set_section K)

-- no class
abbrev pub no_set_offsets : SetOffsets
no_set_offsets = record { own = 0; fields = []; methods = [] }

-- the offsets of the sets of class r
abbrev pub class_set_offsets : Ordered → ℕ → SetOffsets
class_set_offsets K r = get_or (set_offsets K) r no_set_offsets

-- all of them, in the order of the class's sets
abbrev class_chunk : Ordered → ℕ → List ℕ
class_chunk K r = get_or (chunks (map (λ d. length (class_sets d)) K.classes) (set_use_offsets K)) r []

-- separated
class_set_offsets_is : (K : Ordered) (r : ℕ) (d : Definition) → r < length K.classes → class_set_offsets K r ≡ set_offsets_of (get_or K.classes r d) (class_chunk K r)
unfolding set_offsets
class_set_offsets_is K r d lt =
    let parts = chunks (map (λ d. length (class_sets d)) K.classes) (set_use_offsets K) in
    let len : length parts ≡ length K.classes = length-chunks (map (λ d. length (class_sets d)) K.classes) (set_use_offsets K) ∙ length-map K.classes (λ d. length (class_sets d)) in
    get_or-zip_with set_offsets_of K.classes parts r d [] no_set_offsets lt (omega (arith, lt, len))

module _ {K : Ordered} {b : List ℕ} (h : Laid K b) where
  -- the i-th set of the section
  set_written : (i : ℕ) (x : AnnotationSet) → i < length (set_items K).written → get_or (set_items K).written i x ≡ x → SetItems b K.pools (slice_index (offsets (set_section K)) i) x
  unfolding annotation_offsets annotation_section set_section
  set_written i x lt is =
      let xs = (set_items K).written in
      let f : AnnotationSet → List Annotation = λ set. set in
      let zs = offsets (annotation_section K) in
      let all = flat_map f xs in
      let offs = get_or (annotation_offsets K) i [] in
      let len : length (annotation_offsets K) ≡ length xs = length-chunks (map (λ set. length set) xs) zs ∙ length-map xs (λ set. length set) in
      let total : length zs ≡ length all = length-offsets_from 1 (annotation_section K).from (annotation_section K).items ∙ length-map all (annotation_bytes K.pools) in
      let room : length (flat_map f (take i xs)) + length (get_or xs i x) ≤ length all = length-flat_map-take f xs i x lt in
      let same : length (get_or xs i x) ≡ length x = ap (λ (y : AnnotationSet). length y) is in
      let n = length (flat_map f (take i xs)) in
      record {
        offs = offs;
        set = subst (λ y. ItemIsAt b 4 (slice_index (offsets (set_section K)) i) y) (get_or-map offsets_bytes (annotation_offsets K) i [] (offsets_bytes []) (omega (arith, len, lt)))
            (h.sets i (offsets_bytes []) (omega (arith, len, lt, length-map (annotation_offsets K) offsets_bytes)));
        count = ap (λ (l : List ℕ). length l) (chunk_at f xs zs i x lt) ∙ length-take (length (get_or xs i x)) (drop n zs) ∙ omega (arith, length-drop n zs, total, room, same);
        each = λ j d less.
            let within : j < length (get_or xs i x) = omega (arith, same, less) in
            let place : n + j < length all = part_within f xs i x j lt within in
            let off : slice_index offs j ≡ slice_index zs (n + j) = chunk_item f xs zs i x j 0 lt within in
            let item : get_or (annotation_section K).items (n + j) [] ≡ annotation_bytes K.pools (get_or x j d) =
            get_or-map (annotation_bytes K.pools) all (n + j) d [] place ∙ ap (annotation_bytes K.pools) (get_or-flat_map f xs i j x d lt within ∙ ap (λ (y : AnnotationSet). get_or y j d) is) in
            subst (λ o. ItemIsAt b 1 o (annotation_bytes K.pools (get_or x j d))) (sym off)
            (subst (λ y. ItemIsAt b 1 (slice_index zs (n + j)) y) item (h.annotations (n + j) [] (omega (arith, place, length-map all (annotation_bytes K.pools)))));
      }

  -- a set by its number
  set_by : (x : AnnotationSet) (n : Option ℕ) → IsNumber (unless_empty x) n (set_items K).written → SetIsAt b K.pools x (option_map_or (slice_index (offsets (set_section K))) n 0)
  set_by [] n is = ap (λ m. option_map_or (slice_index (offsets (set_section K))) m 0) is
  set_by (a ∷ x) n is = subst (λ m. SetItems b K.pools (option_map_or (slice_index (offsets (set_section K))) m 0) (a ∷ x)) (sym is.2) (set_written is.0 (a ∷ x) is.1 is.3)

  -- each set of all classes
  set_use : (k : ℕ) → k < length (flat_map class_sets K.classes) → SetIsAt b K.pools (get_or (flat_map class_sets K.classes) k []) (slice_index (set_use_offsets K) k)
  unfolding set_section
  set_use k lt =
      let are = items_numbered K.sharing same_set set_decides (set_uses K) in
      let sets = flat_map class_sets K.classes in
      let within : k < length (set_uses K) = omega (arith, lt, length-map sets (unless_empty {X = Annotation})) in
      let number : IsNumber (unless_empty (get_or sets k [])) (get_or (set_items K).numbers k None) (set_items K).written =
      subst (λ u. IsNumber u (get_or (set_items K).numbers k None) (set_items K).written) (get_or-map (unless_empty {X = Annotation}) sets k [] None lt) (are.each k within) in
      subst (λ o. SetIsAt b K.pools (get_or sets k []) o) (sym (number_offset (set_items K).numbers (offsets (set_section K)) k (omega (arith, are.count, within)))) (set_by (get_or sets k []) (get_or (set_items K).numbers k None) number)

  -- the n-th set of class r
  class_set : (r : ℕ) (d : Definition) (n : ℕ) → r < length K.classes → n < length (class_sets (get_or K.classes r d)) → SetIsAt b K.pools (get_or (class_sets (get_or K.classes r d)) n []) (slice_index (class_chunk K r) n)
  class_set r d n lt less =
      let at = length (flat_map class_sets (take r K.classes)) + n in
      subst (λ o. SetIsAt b K.pools (get_or (class_sets (get_or K.classes r d)) n []) o) (sym (chunk_item class_sets K.classes (set_use_offsets K) r d n 0 lt less))
      (subst (λ x. SetIsAt b K.pools x (slice_index (set_use_offsets K) at)) (get_or-flat_map class_sets K.classes r n d [] lt less) (set_use at (part_within class_sets K.classes r d n lt less)))

  -- the class's own set
  pub own_set_encoded : (r : ℕ) (d : Definition) → r < length K.classes → SetIsAt b K.pools (get_or K.classes r d).1.annotations (class_set_offsets K r).own
  own_set_encoded r d lt =
      subst (λ (s : SetOffsets). SetIsAt b K.pools (get_or K.classes r d).1.annotations s.own) (sym (class_set_offsets_is K r d lt)) (class_set r d 0 lt (omega arith))

  -- the set of its j-th field
  pub field_set_encoded : (r : ℕ) (d : Definition) (j : ℕ) (f : FieldDef) → r < length K.classes → j < length (declared_fields (get_or K.classes r d).1)
      → SetIsAt b K.pools (get_or (declared_fields (get_or K.classes r d).1) j f).annotations (slice_index (class_set_offsets K r).fields j)
  field_set_encoded r d j f lt less =
      let c = get_or K.classes r d in
      let fs = declared_fields c.1 in
      let g : FieldDef → AnnotationSet = λ f. f.annotations in
      let rest = flat_map method_sets (declared_methods c.1) in
      let len : length (map g fs) ≡ length fs = length-map fs g in
      let set : get_or (class_sets c) (suc j) [] ≡ (get_or fs j f).annotations = get_or_append_left (map g fs) rest [] j (omega (arith, len, less)) ∙ get_or-map g fs j f [] less in
      let off : slice_index (take (length fs) (drop 1 (class_chunk K r))) j ≡ slice_index (class_chunk K r) (suc j) =
      get_or-take (length fs) (drop 1 (class_chunk K r)) j 0 less ∙ get_or-drop 1 (class_chunk K r) j 0 ∙ ap (slice_index (class_chunk K r)) (omega arith) in
      subst (λ (s : SetOffsets). SetIsAt b K.pools (get_or fs j f).annotations (slice_index s.fields j)) (sym (class_set_offsets_is K r d lt))
      (subst (λ o. SetIsAt b K.pools (get_or fs j f).annotations o) (sym off)
      (subst (λ x. SetIsAt b K.pools x (slice_index (class_chunk K r) (suc j))) set (class_set r d (suc j) lt (omega (arith, length-append (map g fs) rest, len, less)))))

  -- the i-th set of its j-th method: its own, then those of its parameters
  pub method_set_encoded : (r : ℕ) (d : Definition) (j : ℕ) (x : MethodDef) (i : ℕ) → r < length K.classes → j < length (declared_methods (get_or K.classes r d).1)
      → i < length (method_sets (get_or (declared_methods (get_or K.classes r d).1) j x))
      → SetIsAt b K.pools (get_or (method_sets (get_or (declared_methods (get_or K.classes r d).1) j x)) i []) (slice_index (get_or (class_set_offsets K r).methods j []) i)
  method_set_encoded r d j x i lt less within =
      let c = get_or K.classes r d in
      let fs = declared_fields c.1 in
      let xs = declared_methods c.1 in
      let set = get_or (method_sets (get_or xs j x)) i [] in
      let g : FieldDef → AnnotationSet = λ f. f.annotations in
      let rest = flat_map method_sets xs in
      let len : length (map g fs) ≡ length fs = length-map fs g in
      let n = length (flat_map method_sets (take j xs)) + i in
      let all = class_chunk K r in
      let is : get_or (class_sets c) (suc (length fs + n)) [] ≡ set =
      ap (λ k. get_or (map g fs ++ rest) (k + n) []) (sym len) ∙ get_or-append-add (map g fs) rest n [] ∙ get_or-flat_map method_sets xs j i x [] less within in
      let off : slice_index (get_or (chunks (map (λ x. length (method_sets x)) xs) (drop (1 + length fs) all)) j []) i ≡ slice_index all (suc (length fs + n)) =
      chunk_item method_sets xs (drop (1 + length fs) all) j x i 0 less within ∙ get_or-drop (1 + length fs) all n 0 ∙ ap (slice_index all) (omega arith) in
      subst (λ (s : SetOffsets). SetIsAt b K.pools set (slice_index (get_or s.methods j []) i)) (sym (class_set_offsets_is K r d lt))
      (subst (λ o. SetIsAt b K.pools set o) (sym off)
      (subst (λ y. SetIsAt b K.pools y (slice_index all (suc (length fs + n)))) is
      (class_set r d (suc (length fs + n)) lt (omega (arith, length-append (map g fs) rest, len, part_within method_sets xs j x i less within)))))

-- ---- ref lists and directories

-- equal counts for each member give equal counts before each
zip_starts : {X Y Z W V : Type 0} (f : X → List Y) (g : Z → List W) (put : X → V → Z) → ((x : X) (v : V) → length (g (put x v)) ≡ length (f x)) → (xs : List X) (vs : List V) → length vs ≡ length xs
    → (r : ℕ) → length (flat_map g (take r (zip_with put xs vs))) ≡ length (flat_map f (take r xs))
zip_starts f g put each [] vs e zero = refl
zip_starts f g put each [] vs e (suc r) = refl
zip_starts f g put each (x ∷ xs) [] e r = absurd (omega (arith, e))
zip_starts f g put each (x ∷ xs) (v ∷ vs) e zero = refl
zip_starts f g put each (x ∷ xs) (v ∷ vs) e (suc r) =
    length-append (g (put x v)) (flat_map g (take r (zip_with put xs vs)))
    ∙ omega (arith, each x v, zip_starts f g put each xs vs (omega (arith, e)) r, length-append (f x) (flat_map f (take r xs)))

-- the parameter sets of the methods of a class
abbrev ref_uses_of : SetOffsets → List (Option (List ℕ))
ref_uses_of s = map (λ offs. unless_empty (drop 1 offs)) s.methods

-- one for each method
length-ref_uses_of : (d : Definition) (offs : List ℕ) → length (ref_uses_of (set_offsets_of d offs)) ≡ length (declared_methods d.1)
length-ref_uses_of d offs =
    let xs = declared_methods d.1 in
    let parts = chunks (map (λ x. length (method_sets x)) xs) (drop (1 + length (declared_fields d.1)) offs) in
    length-map parts (λ offs. unless_empty (drop 1 offs)) ∙ length-chunks (map (λ x. length (method_sets x)) xs) (drop (1 + length (declared_fields d.1)) offs) ∙ length-map xs (λ x. length (method_sets x))

-- a method's place is the place of its ref list
ref_place : (K : Ordered) (r : ℕ) → length (flat_map ref_uses_of (take r (set_offsets K))) ≡ length (all_methods (take r K.classes))
unfolding set_offsets
ref_place K r =
    zip_starts (λ (d : Definition). declared_methods d.1) ref_uses_of set_offsets_of length-ref_uses_of K.classes (chunks (map (λ d. length (class_sets d)) K.classes) (set_use_offsets K))
    (length-chunks (map (λ d. length (class_sets d)) K.classes) (set_use_offsets K) ∙ length-map K.classes (λ d. length (class_sets d))) r

module _ {K : Ordered} {b : List ℕ} (h : Laid K b) where
  -- the ref list of the j-th method of class r
  pub ref_list_encoded : (r : ℕ) (d : Definition) (j : ℕ) → r < length K.classes → j < length (declared_methods (get_or K.classes r d).1)
      → UseIsAt b 4 offsets_bytes (unless_empty (drop 1 (get_or (class_set_offsets K r).methods j []))) (slice_index (get_or (by_class K (uses_offsets (ref_list_section K))) r []) j)
  unfolding ref_list_section
  ref_list_encoded r d j lt less =
      let sets = set_offsets K in
      let s = class_set_offsets K r in
      let uses = ref_list_uses K sets in
      let n = method_place K r j in
      let own : length (ref_uses_of s) ≡ length (declared_methods (get_or K.classes r d).1) =
      ap (λ (s : SetOffsets). length (ref_uses_of s)) (class_set_offsets_is K r d lt) ∙ length-ref_uses_of (get_or K.classes r d) (class_chunk K r) in
      let here : r < length sets = omega (arith, lt, length-set_offsets K) in
      let among : j < length (ref_uses_of s) = omega (arith, own, less) in
      let same : length (flat_map ref_uses_of (take r sets)) + j ≡ n = ap (λ k. k + j) (ref_place K r) in
      let within : n < length uses = omega (arith, same, part_within ref_uses_of sets r no_set_offsets j here among) in
      let one : get_or uses n None ≡ unless_empty (drop 1 (get_or s.methods j [])) =
      ap (λ k. get_or uses k None) (sym same) ∙ get_or-flat_map ref_uses_of sets r j no_set_offsets None here among
      ∙ get_or-map (λ offs. unless_empty (drop 1 offs)) s.methods j [] None (omega (arith, among, length-map s.methods (λ offs. unless_empty (drop 1 offs)))) in
      subst (λ o. UseIsAt b 4 offsets_bytes (unless_empty (drop 1 (get_or s.methods j []))) o) (sym (by_class_at K (uses_offsets (ref_list_section K)) r d j 0 lt less))
      (subst (λ u. UseIsAt b 4 offsets_bytes u (slice_index (uses_offsets (ref_list_section K)) n)) one (use_encoded (ref_list_section K) offsets_bytes (own_items uses) uses (own_numbered uses) refl h.ref_lists n within))

  -- the directory of class r
  pub directory_encoded : (r : ℕ) (d : Definition) → r < length K.classes
      → UseIsAt b 4 (λ (x : List ℕ). x) (directory_bytes K.pools (get_or K.classes r d) (class_set_offsets K r) (get_or (by_class K (uses_offsets (ref_list_section K))) r [])) (slice_index (uses_offsets (directory_section K)) r)
  unfolding directory_section
  directory_encoded r d lt =
      let sets = set_offsets K in
      let refs = by_class K (uses_offsets (ref_list_section K)) in
      let g : List ℕ → List ℕ = λ x. x in
      let put : Definition → SetOffsets × List ℕ → Option (List ℕ) = λ d p. directory_bytes K.pools d p.0 p.1 in
      let uses = directory_uses K sets (uses_offsets (ref_list_section K)) in
      let both : length (zip sets refs) ≡ length K.classes = length-zip sets refs (length K.classes) (length-set_offsets K) (length-by_class K (uses_offsets (ref_list_section K))) in
      let len : length uses ≡ length K.classes = length-zip_with put K.classes (zip sets refs) (length K.classes) refl both in
      let pair : get_or (zip sets refs) r (no_set_offsets, []) ≡ (class_set_offsets K r, get_or refs r []) =
      get_or-zip sets refs r no_set_offsets [] (omega (arith, lt, length-set_offsets K)) (omega (arith, lt, length-by_class K (uses_offsets (ref_list_section K)))) in
      let one : get_or uses r None ≡ put (get_or K.classes r d) (class_set_offsets K r, get_or refs r []) =
      get_or-zip_with put K.classes (zip sets refs) r d (no_set_offsets, []) None lt (omega (arith, lt, both)) ∙ ap (put (get_or K.classes r d)) pair in
      subst (λ u. UseIsAt b 4 g u (slice_index (uses_offsets (directory_section K)) r)) one
      (use_encoded (directory_section K) g (own_items uses) uses (own_numbered uses) refl h.directories r (omega (arith, lt, len)))

-- ---- counts

-- the r-th part is as long as the list of the r-th member
pub length_chunk : {X Y Z : Type 0} (f : X → List Y) (xs : List X) (zs : List Z) (r : ℕ) (d : X) → r < length xs → length zs ≡ length (flat_map f xs)
    → length (get_or (chunks (map (λ x. length (f x)) xs) zs) r []) ≡ length (f (get_or xs r d))
length_chunk f xs zs r d lt all =
    let n = length (flat_map f (take r xs)) in
    let len : length (get_or (chunks (map (λ x. length (f x)) xs) zs) r []) ≡ length (take (length (f (get_or xs r d))) (drop n zs)) = ap (λ l. length l) (chunk_at f xs zs r d lt) in
    omega (arith, len, length-take (length (f (get_or xs r d))) (drop n zs), length-drop n zs, all, length-flat_map-take f xs r d lt)

-- of a list for all methods, a class has as many as it has methods
pub length-class_part : {X : Type 0} (K : Ordered) (xs : List X) (r : ℕ) (d : Definition) → r < length K.classes → length xs ≡ length (all_methods K.classes)
    → length (get_or (by_class K xs) r []) ≡ length (declared_methods (get_or K.classes r d).1)
length-class_part K xs r d lt all = length_chunk (λ (d : Definition). declared_methods d.1) K.classes xs r d lt all

-- an offset of a ref list for each method
pub length-ref_list_offsets : (K : Ordered) → length (uses_offsets (ref_list_section K)) ≡ length (all_methods K.classes)
unfolding ref_list_section
length-ref_list_offsets K =
    let sets = set_offsets K in
    let every : take (length K.classes) sets ≡ sets = take_all (length K.classes) sets (omega (arith, length-set_offsets K)) in
    let classes : take (length K.classes) K.classes ≡ K.classes = take_all (length K.classes) K.classes (omega arith) in
    length-uses_offsets (ref_list_uses K sets) (offsets (ref_list_section K)) ∙ ap (λ l. length (flat_map ref_uses_of l)) (sym every) ∙ ref_place K (length K.classes)
    ∙ ap (λ l. length (all_methods l)) classes

-- there are as many offsets of sets as sets
length-set_use_offsets : (K : Ordered) → length (set_use_offsets K) ≡ length (flat_map class_sets K.classes)
unfolding set_section
length-set_use_offsets K =
    length-items_offsets K.sharing same_set (set_uses K) (offsets (set_section K))
    ∙ length-map (flat_map class_sets K.classes) (unless_empty {X = Annotation})

-- an offset for each set of a class
length-class_chunk : (K : Ordered) (r : ℕ) (d : Definition) → r < length K.classes → length (class_chunk K r) ≡ length (class_sets (get_or K.classes r d))
length-class_chunk K r d lt = length_chunk class_sets K.classes (set_use_offsets K) r d lt (length-set_use_offsets K)

-- of class r: an offset for each field's set
pub length-field_set_offsets : (K : Ordered) (r : ℕ) (d : Definition) → r < length K.classes → length (class_set_offsets K r).fields ≡ length (declared_fields (get_or K.classes r d).1)
length-field_set_offsets K r d lt =
    let c = get_or K.classes r d in
    let fs = declared_fields c.1 in
    let g : FieldDef → AnnotationSet = λ f. f.annotations in
    ap (λ (s : SetOffsets). length s.fields) (class_set_offsets_is K r d lt) ∙ length-take (length fs) (drop 1 (class_chunk K r))
    ∙ omega (arith, length-drop 1 (class_chunk K r), length-class_chunk K r d lt, length-append (map g fs) (flat_map method_sets (declared_methods c.1)), length-map fs g)

-- for each method a list
pub length-method_set_offsets : (K : Ordered) (r : ℕ) (d : Definition) → r < length K.classes → length (class_set_offsets K r).methods ≡ length (declared_methods (get_or K.classes r d).1)
length-method_set_offsets K r d lt =
    let xs = declared_methods (get_or K.classes r d).1 in
    let rest = drop (1 + length (declared_fields (get_or K.classes r d).1)) (class_chunk K r) in
    ap (λ (s : SetOffsets). length s.methods) (class_set_offsets_is K r d lt) ∙ length-chunks (map (λ x. length (method_sets x)) xs) rest ∙ length-map xs (λ x. length (method_sets x))

-- each list has as many offsets as the method has sets
pub length-one_method_set_offsets : (K : Ordered) (r : ℕ) (d : Definition) (j : ℕ) (x : MethodDef) → r < length K.classes → j < length (declared_methods (get_or K.classes r d).1)
    → length (get_or (class_set_offsets K r).methods j []) ≡ length (method_sets (get_or (declared_methods (get_or K.classes r d).1) j x))
length-one_method_set_offsets K r d j x lt less =
    let c = get_or K.classes r d in
    let fs = declared_fields c.1 in
    let xs = declared_methods c.1 in
    let g : FieldDef → AnnotationSet = λ f. f.annotations in
    let rest = drop (1 + length fs) (class_chunk K r) in
    let all : length rest ≡ length (flat_map method_sets xs) =
    length-drop (1 + length fs) (class_chunk K r) ∙ omega (arith, length-class_chunk K r d lt, length-append (map g fs) (flat_map method_sets xs), length-map fs g) in
    ap (λ (s : SetOffsets). length (get_or s.methods j [])) (class_set_offsets_is K r d lt) ∙ length_chunk method_sets xs rest j x less all
