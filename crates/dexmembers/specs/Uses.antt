-- The symbols that occur in what a class declares, with numbers and without.
use Rattle.std.specs.Prelude.{List, ◌∷◌, ◌++◌, option_to_list}
use Rattle.std.specs.List.{flat_map}
use Rattle.dexspec.specs.Texts.{Text}
use Rattle.dexspec.specs.Symbols.{Symbol}
use Rattle.dexspec.specs.Mentions.{set_symbols, field_symbols, method_symbols, values_symbols}
use Rattle.dexpool.specs.declared.symbols.SymbolKind.TheVariants as kinds
use Rattle.dexpool.specs.Uses.{Use}
use Rattle.dexval.specs.Uses.{values_uses, set_uses}
use Rattle.dexcode.specs.Renumbering.{item_uses}
use Rattle.dexmembers.specs.Numbered.{NumberedField, NumberedMethod, NumberedMembers, Members, fields_of, methods_of}

-- ---- by their numbers

-- a declared field, and what its set names
abbrev pub field_uses : NumberedField → List Use
field_uses f = record { kind = kinds.Field; number = f.number } ∷ set_uses f.annotations

-- a declared method, and what its code and its sets name
abbrev pub method_uses : NumberedMethod → List Use
method_uses x =
    record { kind = kinds.Method; number = x.number }
    ∷ (flat_map item_uses (option_to_list x.code)
    ++ (set_uses x.annotations ++ flat_map set_uses x.parameter_annotations))

-- those of the class's own set, of its fields, of its methods, and of what its static fields begin with
abbrev pub members_uses : NumberedMembers → List Use
members_uses x =
    set_uses x.annotations
    ++ (flat_map field_uses (fields_of x) ++ (flat_map method_uses (methods_of x) ++ values_uses x.static_values))

-- those of the class's own set, of its fields and of its methods, without the static values
abbrev pub declared_uses : NumberedMembers → List Use
declared_uses x = set_uses x.annotations ++ (flat_map field_uses (fields_of x) ++ flat_map method_uses (methods_of x))

-- ---- as symbols

-- the symbols that members of the class of this name name, in the same order
abbrev pub members_symbols : Text → Members → List Symbol
members_symbols name x =
    set_symbols x.annotations
    ++ (flat_map (field_symbols name) (x.static_fields ++ x.instance_fields)
    ++ (flat_map (method_symbols name) (x.direct_methods ++ x.virtual_methods) ++ values_symbols x.static_values))
