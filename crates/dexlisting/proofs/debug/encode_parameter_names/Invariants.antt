use Rattle.std.proofs.Common.{map}
use Rattle.std.specs.Prelude.{All}
use Rattle.std.specs.List.{flat_map}
use Rattle.std.specs.Option.{option_map}
use Rattle.dexio.proofs.Encoded.{Completes}
use Rattle.dexdebug.specs.Meaning.{IsKnownText}
use Rattle.dexpool.specs.NumberedSymbols.{text_at}
use Rattle.dexlisting.specs.FullListing.{parameter_name_line}
use Rattle.dexlisting.proofs.debug.encode_parameter_names.Given as goal

abbrev pub invariant-loop-name : goal.invariant-loop-name
invariant-loop-name g l = record {
  known : All (IsKnownText l.numbering) l.name-iterator;
  completes : Completes g.O.Output.gives (flat_map parameter_name_line (map (option_map (text_at l.numbering)) l.name-iterator)) l.out
      (flat_map parameter_name_line (map (option_map (text_at l.numbering)) l.fn.names)) l.initial.out;
}
