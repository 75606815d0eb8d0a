-- The sets of classes, class by class and method by method: their offsets.
use Rattle.std.specs.Prelude.{ℕ, List, [], ◌∷◌, ◌++◌, length, map, take, drop, slice_index}
use Rattle.std.specs.List.{flat_map}
use Rattle.dexspec.specs.Lists.{chunks}
use Rattle.dexspec.specs.Placing.{SetOffsets}
use Rattle.dexval.specs.Numbered.{NumberedSet}
use Rattle.dexmembers.specs.Numbered.{NumberedMethod, fields_of, methods_of}
use Rattle.dexclass.specs.Numbered.{NumberedClass}
use Rattle.dexlayout.specs.Places.{SetPlaces}

-- the sets of a method: its own, and those of its parameters
abbrev pub sets_of_method : NumberedMethod → List NumberedSet
sets_of_method x = x.annotations ∷ x.parameter_annotations

-- those of a class: its own, those of its fields, those of its methods
abbrev pub sets_of_class : NumberedClass → List NumberedSet
sets_of_class c =
    c.members.annotations
    ∷ (map (λ f. f.annotations) (fields_of c.members) ++ flat_map sets_of_method (methods_of c.members))

-- the offsets of the sets of methods, method by method
abbrev pub parts_of_methods : List NumberedMethod → List ℕ → List (List ℕ)
parts_of_methods xs offs = chunks (map (λ x. length (sets_of_method x)) xs) offs

-- the offsets of the sets of a class, split into its own, its fields' and its methods', whatever follows them
abbrev pub parts_of_class : NumberedClass → List ℕ → SetOffsets
parts_of_class c offs = record {
  own = slice_index offs 0;
  fields = take (length (fields_of c.members)) (drop 1 offs);
  methods = parts_of_methods (methods_of c.members) (drop (length (fields_of c.members)) (drop 1 offs));
}

-- those of classes
abbrev pub parts_of_classes : List NumberedClass → List ℕ → List SetOffsets
parts_of_classes [] offs = []
parts_of_classes (c ∷ cs) offs = parts_of_class c offs ∷ parts_of_classes cs (drop (length (sets_of_class c)) offs)

-- the offsets of one method more
abbrev pub collect_method : SetPlaces → List ℕ → SetPlaces
collect_method p os =
    record {
      own = p.own;
      fields = p.fields;
      methods = p.methods ++ slice_index os 0 ∷ [];
      parameters = p.parameters ++ drop 1 os;
      written = p.written;
    }

-- of more methods
abbrev pub collect_methods : SetPlaces → List (List ℕ) → SetPlaces
collect_methods p [] = p
collect_methods p (os ∷ oss) = collect_methods (collect_method p os) oss

-- the offsets of a class's own set and of those of its fields
abbrev pub collect_own : SetPlaces → ℕ → List ℕ → SetPlaces
collect_own p own fields =
    record {
      own = p.own ++ own ∷ [];
      fields = p.fields ++ fields;
      methods = p.methods;
      parameters = p.parameters;
      written = p.written;
    }

-- of one class more
abbrev pub collect_class : SetPlaces → SetOffsets → SetPlaces
collect_class p s = collect_methods (collect_own p s.own s.fields) s.methods

-- of more classes
abbrev pub collect_classes : SetPlaces → List SetOffsets → SetPlaces
collect_classes p [] = p
collect_classes p (s ∷ ss) = collect_classes (collect_class p s) ss
