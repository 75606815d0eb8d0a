-- Symbols whose texts are their own.
use Rattle.dexspec.specs.Symbols.{Symbol, TextSymbol, TypeSymbol, ProtoSymbol, FieldSymbol, MethodSymbol}
use Rattle.dexpool.specs.declared.symbols.Symbol as declared
use Rattle.dexpool.specs.declared.symbols.Symbol.TheVariants as variants

-- the symbol that it is
abbrev pub symbol_of : declared.Symbol → Symbol
symbol_of (variants.Text s) = TextSymbol s
symbol_of (variants.Typ t) = TypeSymbol t
symbol_of (variants.Proto p) = ProtoSymbol p
symbol_of (variants.Field f) = FieldSymbol f
symbol_of (variants.Method m) = MethodSymbol m
