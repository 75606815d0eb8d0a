use Rattle.std.proofs.Common.{map, drop}
use Rattle.dexio.proofs.Encoded.{Completes}
use Rattle.dexmembers.specs.Numbered.{field_in}
use Rattle.dexlisting.specs.internal.Known.{field_lines}
use Rattle.dexlisting.proofs.Declared.{values_from}
use Rattle.dexlisting.proofs.full_lines.encode_full_fields.Given as goal

abbrev pub invariant-loop-i : goal.invariant-loop-i
invariant-loop-i g l = Completes g.O.Output.gives (field_lines l.words (map (field_in l.numbering) (drop l.i l.fields)) (values_from l.numbering (drop l.i l.values))) l.out
    (field_lines l.words (map (field_in l.numbering) l.fields) (values_from l.numbering l.values)) l.initial.out
