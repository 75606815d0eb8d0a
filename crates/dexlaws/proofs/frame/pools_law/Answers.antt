use Rattle.dexspec.proofs.Common.{ℕ, List}
use Rattle.dexspec.specs.Symbols.{Symbol, TextSymbol, TypeSymbol, ProtoSymbol, FieldSymbol, MethodSymbol}
use Rattle.dexspec.specs.Rows.{SymbolRow}
use Rattle.dexspec.specs.Files.{definitions}
use Rattle.dexspec.specs.Spellings.{symbol_index}
use Rattle.dexspec.specs.Placing.{Ordered}
use Rattle.dexspec.proofs.layout.SectionPlaces.{Laid}
use Rattle.dexspec.proofs.layout.HeaderLaws.{AreFew}
use Rattle.dexspec.proofs.layout.Frames.{fits_few, fitting_laid}
use Rattle.dexspec.proofs.layout.PoolsAreAt.{ArePools, text_row, type_row, proto_row, field_row, method_row}
use Rattle.dexspec.proofs.wellformed.Formed.{mentions-pools}
use Rattle.dexspec.proofs.layout.FileRows.{canonical_rows}
use Rattle.dexlaws.specs.{IsMentioned}
use Rattle.dexlaws.proofs.frame.pools_law.Goals as goal

-- each symbol in the row of its index
symbol_row : {K : Ordered} {b : List ℕ} → Laid K b → AreFew K → ArePools K.pools → (s : Symbol) → IsMentioned K.pools s → SymbolRow b (symbol_index K.pools s) s
symbol_row h few p (TextSymbol s) c = text_row h few p s c
symbol_row h few p (TypeSymbol t) c = type_row h few p t c
symbol_row h few p (ProtoSymbol q) c = proto_row h few p q c
symbol_row h few p (FieldSymbol f) c = field_row h few p f c
symbol_row h few p (MethodSymbol x) c = method_row h few p x c

pub returns : goal.returns
returns c = record { rows = canonical_rows; symbols = λ caps K s are fits formed is. symbol_row (fitting_laid caps K are fits) (fits_few caps K are fits) (mentions-pools (definitions K) formed) s is }
