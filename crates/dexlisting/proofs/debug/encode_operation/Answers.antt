use Rattle.std.proofs.Common.{◌≡◌, ap, w64, to_z, of_z, rules}
use Rattle.std.specs.Prelude.{codes}
use Rattle.dexio.proofs.Encoded.{then_given}
use Rattle.dexout.proofs.Given.{next_part, last_part}
use Rattle.dexlisting.specs.FullListing.{signed_text}
use Rattle.dexlisting.proofs.debug.encode_operation.Goals as goal

pub returns-in-AdvanceLine : goal.returns-in-AdvanceLine
returns-in-AdvanceLine g c =
    let same : to_z w64 (of_z w64 c.from.result) ≡ c.in-AdvanceLine.line_diff = search rules in
    rw c.in-AdvanceLine.is (then_given g.O.Output.gives g.met.O.Output.both c.bytes.ensures (last_part g.O.Output.gives g.met.O.Output.both (ap signed_text same) c.encode_signed.ensures))

pub returns-in-StartLocal : goal.returns-in-StartLocal
returns-in-StartLocal g c = rw c.in-StartLocal.is (then_given g.O.Output.gives g.met.O.Output.both c.bytes-in-StartLocal.ensures c.encode_local.ensures)

pub returns-in-StartLocalExtended : goal.returns-in-StartLocalExtended
returns-in-StartLocalExtended g c =
    let G = g.O.Output.gives in
    let B = g.met.O.Output.both in
    rw c.in-StartLocalExtended.is (then_given G B c.bytes-in-StartLocalExtended.ensures (then_given G B c.encode_local-in-StartLocalExtended.ensures (then_given G B c.byte.ensures c.encode_text_or_dash.ensures)))

pub returns-in-EndLocal : goal.returns-in-EndLocal
returns-in-EndLocal g c = rw c.in-EndLocal.is (then_given g.O.Output.gives g.met.O.Output.both c.bytes-in-EndLocal.ensures c.encode_register.ensures)

pub returns-in-RestartLocal : goal.returns-in-RestartLocal
returns-in-RestartLocal g c = rw c.in-RestartLocal.is (then_given g.O.Output.gives g.met.O.Output.both c.bytes-in-RestartLocal.ensures c.encode_register-in-RestartLocal.ensures)

pub returns-in-SetPrologueEnd : goal.returns-in-SetPrologueEnd
returns-in-SetPrologueEnd g c = rw c.in-SetPrologueEnd.is c.bytes-in-SetPrologueEnd.ensures

pub returns-in-SetEpilogueBegin : goal.returns-in-SetEpilogueBegin
returns-in-SetEpilogueBegin g c = rw c.in-SetEpilogueBegin.is c.bytes-in-SetEpilogueBegin.ensures

pub returns-in-SetFile : goal.returns-in-SetFile
returns-in-SetFile g c = rw c.in-SetFile.is (then_given g.O.Output.gives g.met.O.Output.both c.bytes-in-SetFile.ensures c.encode_text_or_dash-in-SetFile.ensures)
