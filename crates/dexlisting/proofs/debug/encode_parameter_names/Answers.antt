use Rattle.std.proofs.Common.{ℕ, List, Option, map, ap, subst, ◌++◌}
use Rattle.std.specs.Prelude.{All}
use Rattle.std.specs.List.{flat_map}
use Rattle.std.specs.Option.{option_map}
use Rattle.std.proofs.lemmas.List.Elements.{All-tail}
use Rattle.dexio.proofs.Encoded.{then_given, completes_more}
use Rattle.dexdebug.specs.Meaning.{IsKnownText}
use Rattle.dexpool.specs.NumberedSymbols.{text_at}
use Rattle.dexlisting.specs.FullListing.{parameter_name_line}
use Rattle.dexlisting.proofs.debug.encode_parameter_names.Goals as goal

pub loop-name-preserved : goal.loop-name-preserved
unfolding parameter_name_line
loop-name-preserved g c =
    let m = c.args.numbering.now in
    let G = g.O.Output.gives in
    let B = g.met.O.Output.both in
    let lines = λ (names : List (Option ℕ)). flat_map parameter_name_line (map (option_map (text_at m)) names) in
    record {
      known = All-tail (IsKnownText m) c.in-Some.name c.next.new.self (subst (All (IsKnownText m)) c.in-Some.ensures.steps c.loop-name.invariant.known);
      completes = completes_more G B (parameter_name_line (option_map (text_at m) c.in-Some.name)) (lines c.next.new.self) (lines c.loop-name.name-iterator) (lines c.args.names) c.args.out.now c.loop-name.out c.byte.new.self
          (ap lines c.in-Some.ensures.steps) c.loop-name.invariant.completes (then_given G B c.bytes.ensures (then_given G B c.encode_text_or_dash.ensures c.byte.ensures));
    }
