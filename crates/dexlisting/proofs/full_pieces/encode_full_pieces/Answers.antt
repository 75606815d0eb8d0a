use Rattle.std.proofs.Common.{ℕ, ◌+◌, ◌≤◌, List, ap, subst, rules, length, map, arith}
use Rattle.std.specs.Prelude.{All}
use Rattle.std.specs.List.{flat_map}
use Rattle.std.proofs.lemmas.List.Elements.{All-head, All-tail}
use Rattle.dexio.proofs.Encoded.{completes_none, completes_all, completes_more}
use Rattle.dexout.proofs.Given.{last_part}
use Rattle.dexspec.specs.Symbols.{MethodSymbol}
use Rattle.dexinsn.specs.Blank.{blank_units}
use Rattle.dexinsn.specs.Listing.{listed}
use Rattle.dexinsn.specs.declared.listing.Piece.{Piece}
use Rattle.dexval.specs.Numbered.{method_at}
use Rattle.dexlisting.specs.Listing.{symbol_text}
use Rattle.dexlisting.specs.FullListing.{plain}
use Rattle.dexlisting.specs.internal.Known.{IsKnownKind}
use Rattle.dexlisting.specs.internal.FullPieces.{full_listed_line}
use Rattle.dexlisting.proofs.Shown.{listed_known}
use Rattle.dexlisting.proofs.Blanks.{listed_within, full_listed_shown}
use Rattle.dexlisting.proofs.full_pieces.encode_full_pieces.Goals as goal

pub loop-piece-init : goal.loop-piece-init
loop-piece-init g c =
    let m = c.args.numbering.now in
    let ps = c.args.pieces.now.pieces in
    let all = flat_map blank_units ps in
    let line = full_listed_line m (symbol_text plain (MethodSymbol (method_at m c.args.method))) all in
    record {
      known = rw (c.into_iter-piece-iterator.ensures.into_iter_gives, c.iter-piece-items.ensures) (listed_known m 0 ps c.requires.pieces);
      within = rw (c.into_iter-piece-iterator.ensures.into_iter_gives, c.iter-piece-items.ensures) (listed_within (length all) 0 ps (omega arith));
      completes = rw (c.into_iter-piece-iterator.ensures.into_iter_gives, c.iter-piece-items.ensures) (completes_none g.O.Output.gives (flat_map line (listed 0 ps)) c.args.out.now);
    }

pub encode_full_piece-requires-clause-kind : goal.encode_full_piece-requires-clause-kind
encode_full_piece-requires-clause-kind g c =
    All-head (λ (p : Piece). IsKnownKind c.args.numbering.now p.kind) c.in-Some.piece c.next.new.self (subst (All (λ (p : Piece). IsKnownKind c.args.numbering.now p.kind)) c.in-Some.ensures.steps c.loop-piece.invariant.known)

pub encode_full_piece-requires-clause-within : goal.encode_full_piece-requires-clause-within
encode_full_piece-requires-clause-within g c =
    let n = length (flat_map blank_units c.args.pieces.now.pieces) in
    All-head (λ (p : Piece). p.unit + p.units ≤ n) c.in-Some.piece c.next.new.self (subst (All (λ (p : Piece). p.unit + p.units ≤ n)) c.in-Some.ensures.steps c.loop-piece.invariant.within)

pub loop-piece-preserved : goal.loop-piece-preserved
loop-piece-preserved g c =
    let m = c.args.numbering.now in
    let ps = c.args.pieces.now.pieces in
    let all = flat_map blank_units ps in
    let n = length all in
    let line = full_listed_line m (symbol_text plain (MethodSymbol (method_at m c.args.method))) all in
    record {
      known = All-tail (λ (p : Piece). IsKnownKind m p.kind) c.in-Some.piece c.next.new.self (subst (All (λ (p : Piece). IsKnownKind m p.kind)) c.in-Some.ensures.steps c.loop-piece.invariant.known);
      within = All-tail (λ (p : Piece). p.unit + p.units ≤ n) c.in-Some.piece c.next.new.self (subst (All (λ (p : Piece). p.unit + p.units ≤ n)) c.in-Some.ensures.steps c.loop-piece.invariant.within);
      completes = completes_more g.O.Output.gives g.met.O.Output.both (line c.in-Some.piece) (flat_map line c.next.new.self) (flat_map line c.loop-piece.piece-iterator) (flat_map line (listed 0 ps))
          c.args.out.now c.loop-piece.out c.encode_full_piece.new.out (ap (flat_map line) c.in-Some.ensures.steps) c.loop-piece.invariant.completes c.encode_full_piece.ensures;
    }

pub returns : goal.returns
returns g c =
    let m = c.args.numbering.now in
    let ps = c.args.pieces.now.pieces in
    let method = symbol_text plain (MethodSymbol (method_at m c.args.method)) in
    let line = full_listed_line m method (flat_map blank_units ps) in
    last_part g.O.Output.gives g.met.O.Output.both (full_listed_shown m method ps)
    (completes_all g.O.Output.gives g.met.O.Output.nothing (flat_map line c.loop-piece.piece-iterator) (flat_map line (listed 0 ps)) c.args.out.now c.loop-piece.out
    (ap (flat_map line) c.in-None.ensures.steps.0) c.loop-piece.invariant.completes)
