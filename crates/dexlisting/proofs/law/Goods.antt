-- All symbols that a well-formed class mentions are known.
use Rattle.dexspec.proofs.Common.{List, AllByRecursion, flat_map}
use Rattle.dexspec.specs.Names.{IsValueType}
use Rattle.dexspec.specs.Symbols.{Proto, IsProto, Symbol, TextSymbol, TypeSymbol, ProtoSymbol, FieldSymbol, MethodSymbol}
use Rattle.dexspec.specs.Classes.{Definition}
use Rattle.dexspec.specs.Mentions.{symbols_of, texts_in, proto_texts}
use Rattle.dexspec.specs.WellFormed.{IsText, IsSymbol, IsWellFormed}
use Rattle.dexlisting.proofs.law.Types.{known_class, known_value, known_reference}
use Rattle.dexlisting.proofs.law.Symbols.{KnownProto, KnownSymbol}
pub use Rattle.dexlisting.proofs.law.Lists.{each_append, each_flat_map, each_map, each_from_all, each_both, each_so}

-- all symbols are known
abbrev pub Knows : List Symbol → Type 0
Knows symbols = AllByRecursion KnownSymbol symbols

-- the types of a proto whose texts are texts
known_proto : (p : Proto) → IsProto p → AllByRecursion IsText (proto_texts p) → KnownProto p
known_proto p h texts = record {
  return_type = (h.return_type, texts.1.0.units);
  parameters = each_so (λ t. IsValueType t × IsText t) (λ t both. known_value t both.0 both.1.units) p.parameters
      (each_both IsValueType IsText p.parameters (each_from_all IsValueType p.parameters h.parameters) texts.1.1);
}

-- a symbol that a row can denote, whose texts are texts
pub known_symbol : (s : Symbol) → IsSymbol s → AllByRecursion IsText (texts_in s) → KnownSymbol s
known_symbol (TextSymbol s) h texts = h.units
known_symbol (TypeSymbol t) h texts = (h, texts.0.units)
known_symbol (ProtoSymbol p) h texts = known_proto p h texts
known_symbol (FieldSymbol f) h texts = record {
  class = known_class f.class h.class texts.0.units;
  name = texts.1.0.units;
  type = known_value f.type h.type texts.1.1.0.units;
}
known_symbol (MethodSymbol m) h texts = record {
  class = known_reference m.class h.class texts.0.units;
  name = texts.1.0.units;
  proto = known_proto m.proto h.proto texts.1.1;
}

-- the symbols of a class
pub known_symbols : (d : Definition) → IsWellFormed d → Knows (symbols_of d)
known_symbols d h = each_so (λ s. IsSymbol s × AllByRecursion IsText (texts_in s)) (λ s both. known_symbol s both.0 both.1) (symbols_of d)
    (each_both IsSymbol (λ s. AllByRecursion IsText (texts_in s)) (symbols_of d) (each_from_all IsSymbol (symbols_of d) h.symbols)
    (each_flat_map IsText texts_in (symbols_of d) (each_from_all IsText (flat_map texts_in (symbols_of d)) h.texts)))
