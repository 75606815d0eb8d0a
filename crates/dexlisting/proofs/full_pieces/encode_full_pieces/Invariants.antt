use Rattle.std.proofs.Common.{◌+◌, ◌≤◌, length}
use Rattle.std.specs.Prelude.{All}
use Rattle.std.specs.List.{flat_map}
use Rattle.dexio.proofs.Encoded.{Completes}
use Rattle.dexspec.specs.Symbols.{MethodSymbol}
use Rattle.dexinsn.specs.Blank.{blank_units}
use Rattle.dexinsn.specs.Listing.{listed}
use Rattle.dexval.specs.Numbered.{method_at}
use Rattle.dexlisting.specs.Listing.{symbol_text}
use Rattle.dexlisting.specs.FullListing.{plain}
use Rattle.dexlisting.specs.internal.Known.{IsKnownKind}
use Rattle.dexlisting.specs.internal.FullPieces.{full_listed_line}
use Rattle.dexlisting.proofs.full_pieces.encode_full_pieces.Given as goal

abbrev pub invariant-loop-piece : goal.invariant-loop-piece
invariant-loop-piece g l = record {
  known : All (λ p. IsKnownKind l.numbering p.kind) l.piece-iterator;
  within : All (λ p. p.unit + p.units ≤ length (flat_map blank_units l.pieces.pieces)) l.piece-iterator;
  completes : Completes g.O.Output.gives (flat_map (full_listed_line l.numbering (symbol_text plain (MethodSymbol (method_at l.numbering l.method))) (flat_map blank_units l.pieces.pieces)) l.piece-iterator) l.out
      (flat_map (full_listed_line l.numbering (symbol_text plain (MethodSymbol (method_at l.numbering l.method))) (flat_map blank_units l.pieces.pieces)) (listed 0 l.pieces.pieces)) l.initial.out;
}
