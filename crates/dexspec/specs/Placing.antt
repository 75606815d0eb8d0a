-- The items, their order and their offsets: uses, items, sections and directories. This project's rule: the order of
-- uses, and that equal type lists, debug programs and annotation sets have one item.
use Rattle.std.specs.Prelude.{ℕ, ◌+◌, Bool, ◌==◌, if◌then◌else◌, List, [], ◌∷◌, ◌++◌, length, map, take, drop}
use Rattle.std.specs.Prelude.{slice_index, Option, Some, None}
use Rattle.std.specs.List.{flat_map, zip, position_or_len}
use Rattle.std.specs.Ordering.{nat_cmp}
use Rattle.std.specs.declared.cmp.Ordering.{Ordering}
use Rattle.std.specs.Option.{option_map, option_map_or}
use Rattle.dexspec.specs.Lists.{chunks, zip_with, present, distinct, in_order}
use Rattle.dexspec.specs.Bytes.{uint, round_up, padding}
use Rattle.dexspec.specs.Texts.{Text}
use Rattle.dexspec.specs.Sections.{Section}
use Rattle.dexspec.specs.Code.{Code}
use Rattle.dexspec.specs.Debug.{Debug}
use Rattle.dexspec.specs.Values.{Values, NoValues, ThenValue}
use Rattle.dexspec.specs.Annotations.{AnnotationSet}
use Rattle.dexspec.specs.Classes.{MethodDef, Body, Definition, declared_fields, declared_methods}
use Rattle.dexspec.specs.Mentions.{Mentions, field_of, method_of}
use Rattle.dexspec.specs.Spellings.{field_index, method_index}

-- ---- uses and items

-- The items of one kind, and for each use in turn the number of its item, if it has one. There are no numbers where no
-- use asks for one: offsets of annotations are cut into sets, and those of texts are in the order of the texts.
pub record Items (X : Type 0) : Type 0 where
  pub numbers : List (Option ℕ)
  pub written : List X

-- numbers from n on for the values that are present
abbrev pub own_numbers : {X : Type 0} → ℕ → List (Option X) → List (Option ℕ)
own_numbers n [] = []
own_numbers n (None ∷ uses) = None ∷ own_numbers n uses
own_numbers n (Some x ∷ uses) = Some n ∷ own_numbers (n + 1) uses

-- each use that is present has its own item
abbrev pub own_items : {X : Type 0} → List (Option X) → Items X
own_items uses = record { numbers = own_numbers 0 uses; written = present uses }

-- items that no use asks for by its number
abbrev pub unnumbered_items : {X : Type 0} → List X → Items X
unnumbered_items items = record { numbers = []; written = items }

-- equal uses by a test have one item, at the place of the first of them
abbrev pub shared_items : {X : Type 0} → (X → X → Bool) → List (Option X) → Items X
shared_items same uses =
    let items = distinct same (present uses) in
    record { numbers = map (option_map (λ x. position_or_len (λ y. same y x) items)) uses; written = items }

-- Type lists, debug programs and annotation sets: equal ones are written once, as in the canonical file, or once for
-- each use.
pub data Sharing : Type 0 where
  EqualOnce EachForItself : Sharing

-- the items of uses with this sharing
abbrev pub items_by : {X : Type 0} → Sharing → (X → X → Bool) → List (Option X) → Items X
items_by EqualOnce same uses = shared_items same uses
items_by EachForItself same uses = own_items uses

-- a list is an item unless it is empty
abbrev pub unless_empty : {X : Type 0} → List X → Option (List X)
unless_empty [] = None
unless_empty (x ∷ xs) = Some (x ∷ xs)

-- the same for an array of values
abbrev pub values_unless_empty : Values → Option Values
values_unless_empty NoValues = None
values_unless_empty (ThenValue v vs) = Some (ThenValue v vs)

-- ---- sections

-- A section: items of one kind in sequence from an offset on, each aligned, and for each use in turn the number of its
-- item, if it has one.
pub record Placed : Type 0 where
  pub kind : Section
  pub align : ℕ
  pub from : ℕ
  pub items : List (List ℕ)
  pub numbers : List (Option ℕ)

-- the bytes of items as a section of this kind, with this alignment, from this offset on
abbrev pub section : {X : Type 0} → Section → ℕ → ℕ → (X → List ℕ) → Items X → Placed
section kind align from bytes its =
    record { kind = kind; align = align; from = from; items = map bytes its.written; numbers = its.numbers }

-- the offsets of the items
abbrev pub offsets_from : ℕ → ℕ → List (List ℕ) → List ℕ
offsets_from align from [] = []
offsets_from align from (x ∷ xs) = round_up align from ∷ offsets_from align (round_up align from + length x) xs

-- the end of the items
abbrev pub end_from : ℕ → ℕ → List (List ℕ) → ℕ
end_from align from [] = from
end_from align from (x ∷ xs) = end_from align (round_up align from + length x) xs

-- the bytes of the items, with zeros for the alignment
abbrev pub bytes_from : ℕ → ℕ → List (List ℕ) → List ℕ
bytes_from align from [] = []
bytes_from align from (x ∷ xs) = padding align from ++ (x ++ bytes_from align (round_up align from + length x) xs)

-- the offsets of the items of a section
abbrev pub offsets : Placed → List ℕ
offsets p = offsets_from p.align p.from p.items

-- the end of the section
abbrev pub end : Placed → ℕ
end p = end_from p.align p.from p.items

-- the bytes of the section
abbrev pub section_bytes : Placed → List ℕ
section_bytes p = bytes_from p.align p.from p.items

-- the offset of each use's item, or 0 if it has none
abbrev pub uses_offsets : Placed → List ℕ
uses_offsets p = map (λ n. option_map_or (slice_index (offsets p)) n 0) p.numbers

-- ---- the uses, in the order of the file

-- classes in order, what they mention, and how equal items are written
pub record Ordered : Type 0 where
  pub classes : List Definition
  pub pools : Mentions
  pub sharing : Sharing

-- the methods of all classes
abbrev pub all_methods : List Definition → List MethodDef
all_methods cs = flat_map (λ d. declared_methods d.1) cs

-- the parameters of the protos, then the interfaces of the classes
abbrev pub type_list_uses : Ordered → List (Option (List Text))
type_list_uses C =
    map (λ p. unless_empty p.parameters) C.pools.protos ++ map (λ d. unless_empty d.1.interfaces) C.classes

-- a method's own set, then those of its parameters
abbrev pub method_sets : MethodDef → List AnnotationSet
method_sets x = x.annotations ∷ x.parameter_annotations

-- the class's own set, then those of its fields, then those of its methods
abbrev pub class_sets : Definition → List AnnotationSet
class_sets d =
    d.1.annotations ∷ (map (λ f. f.annotations) (declared_fields d.1) ++ flat_map method_sets (declared_methods d.1))

-- all sets
abbrev pub set_uses : Ordered → List (Option AnnotationSet)
set_uses C = map unless_empty (flat_map class_sets C.classes)

-- each method's debug program
abbrev pub debug_uses : Ordered → List (Option Debug)
debug_uses C = map (λ x. option_map_or (λ c. c.debug) x.code None) (all_methods C.classes)

-- each method's code with the offset of its debug program
abbrev pub code_uses : Ordered → List ℕ → List (Option (Code × ℕ))
code_uses C offs = zip_with (λ x o. option_map_or (λ c. Some (c, o)) x.code None) (all_methods C.classes) offs

-- each class's static values
abbrev pub static_values_uses : Ordered → List (Option Values)
static_values_uses C = map (λ d. values_unless_empty d.1.static_values) C.classes

-- a list for all methods, split by class
abbrev pub by_class : {X : Type 0} → Ordered → List X → List (List X)
by_class C xs = chunks (map (λ d. length (declared_methods d.1)) C.classes) xs

-- a class without members has no class data
abbrev pub is_empty_class : Body → Bool
is_empty_class c = length (declared_fields c) + length (declared_methods c) == 0

-- each class's members with the offsets of their code
abbrev pub class_data_uses : Ordered → List ℕ → List (Option (Definition × List ℕ))
class_data_uses C code_offs =
    zip_with (λ d offs. if is_empty_class d.1 then None else Some (d, offs)) C.classes (by_class C code_offs)

-- the offsets of a class's sets: of its own, of its fields, and for each method of the method
pub record SetOffsets : Type 0 where
  pub own : ℕ
  pub fields : List ℕ
  pub methods : List (List ℕ)

-- the offsets of a class's sets, separated
abbrev pub set_offsets_of : Definition → List ℕ → SetOffsets
set_offsets_of d offs = record {
  own = slice_index offs 0;
  fields = take (length (declared_fields d.1)) (drop 1 offs);
  methods = chunks (map (λ x. length (method_sets x)) (declared_methods d.1))
      (drop (1 + length (declared_fields d.1)) offs);
}

-- the same for all classes
abbrev pub set_offsets_by_class : Ordered → List ℕ → List SetOffsets
set_offsets_by_class C offs =
    zip_with set_offsets_of C.classes (chunks (map (λ d. length (class_sets d)) C.classes) offs)

-- each method's parameter sets, by their offsets
abbrev pub ref_list_uses : Ordered → List SetOffsets → List (Option (List ℕ))
ref_list_uses C sets = flat_map (λ s. map (λ offs. unless_empty (drop 1 offs)) s.methods) sets

-- ---- directories

-- by index
abbrev pub pair_cmp : ℕ × ℕ → ℕ × ℕ → Ordering
pair_cmp x y = nat_cmp x.0 y.0

-- pairs of an index and an offset by their index, without those with offset 0
abbrev pub pairs : List ℕ → List ℕ → List (ℕ × ℕ)
pairs indices offs = in_order pair_cmp (flat_map (λ p. if p.1 == 0 then [] else p ∷ []) (zip indices offs))

-- pairs of an index and an offset
abbrev pub pairs_bytes : List (ℕ × ℕ) → List ℕ
pairs_bytes ps = flat_map (λ p. uint p.0 ++ uint p.1) ps

-- the directory of a class with these sets and ref lists, if it has one
abbrev pub directory_bytes : Mentions → Definition → SetOffsets → List ℕ → Option (List ℕ)
directory_bytes m (name, c) sets ref_lists =
    let field_indices = map (λ f. field_index m (field_of name f)) (declared_fields c) in
    let method_indices = map (λ x. method_index m (method_of name x)) (declared_methods c) in
    let fields = pairs field_indices sets.fields in
    let methods = pairs method_indices (map (λ offs. slice_index offs 0) sets.methods) in
    let parameters = pairs method_indices ref_lists in
    if sets.own + (length fields + (length methods + length parameters)) == 0 then None
    else Some (uint sets.own ++ (uint (length fields) ++ (uint (length methods) ++ (uint (length parameters)
    ++ (pairs_bytes fields ++ (pairs_bytes methods ++ pairs_bytes parameters))))))

-- each class's directory
abbrev pub directory_uses : Ordered → List SetOffsets → List ℕ → List (Option (List ℕ))
directory_uses C sets ref_lists =
    zip_with (λ d p. directory_bytes C.pools d p.0 p.1) C.classes (zip sets (by_class C ref_lists))
