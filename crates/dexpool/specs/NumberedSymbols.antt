-- The symbol of a kind and a number.
use Rattle.std.specs.Prelude.{ℕ, [], slice_index_or}
use Rattle.dexspec.specs.Texts.{Text}
use Rattle.dexspec.specs.Symbols.{Proto, Field, Method, Symbol, TextSymbol, TypeSymbol, ProtoSymbol, FieldSymbol}
use Rattle.dexspec.specs.Symbols.{MethodSymbol}
use Rattle.dexspec.specs.Mentions.{Mentions}
use Rattle.dexpool.specs.declared.symbols.SymbolKind.{SymbolKind}
use Rattle.dexpool.specs.declared.symbols.SymbolKind.TheVariants as kinds

-- what a symbol of the kind names
abbrev pub Named : SymbolKind → Type 0
Named kinds.Text = Text
Named kinds.Typ = Text
Named kinds.Proto = Proto
Named kinds.Field = Field
Named kinds.Method = Method

-- the text of a number; a number of none has the empty one
abbrev pub text_at : Mentions → ℕ → Text
text_at m i = slice_index_or m.texts i []

-- the type of a number, likewise
abbrev pub type_at : Mentions → ℕ → Text
type_at m i = slice_index_or m.types i []

-- what is taken for the name of a number of none: one whose texts are empty
abbrev pub no_name : (kind : SymbolKind) → Named kind
no_name kinds.Text = []
no_name kinds.Typ = []
no_name kinds.Proto = record { return_type = []; parameters = [] }
no_name kinds.Field = record { class = []; name = []; type = [] }
no_name kinds.Method = record { class = []; name = []; proto = record { return_type = []; parameters = [] } }

-- what the symbol of a kind and a number names
abbrev pub name_at : Mentions → (kind : SymbolKind) → ℕ → Named kind
name_at m kinds.Text i = text_at m i
name_at m kinds.Typ i = type_at m i
name_at m kinds.Proto i = slice_index_or m.protos i (no_name kinds.Proto)
name_at m kinds.Field i = slice_index_or m.fields i (no_name kinds.Field)
name_at m kinds.Method i = slice_index_or m.methods i (no_name kinds.Method)

-- the symbol of a kind that names this
abbrev pub symbol_of : (kind : SymbolKind) → Named kind → Symbol
symbol_of kinds.Text s = TextSymbol s
symbol_of kinds.Typ t = TypeSymbol t
symbol_of kinds.Proto p = ProtoSymbol p
symbol_of kinds.Field f = FieldSymbol f
symbol_of kinds.Method x = MethodSymbol x

-- the symbol of a kind and a number
abbrev pub symbol_at : Mentions → SymbolKind → ℕ → Symbol
symbol_at m kind i = symbol_of kind (name_at m kind i)
