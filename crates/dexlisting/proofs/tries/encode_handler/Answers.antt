use Rattle.std.proofs.Common.{ap, ◌∙◌, []}
use Rattle.std.specs.List.{flat_map}
use Rattle.std.specs.Option.{option_map_or}
use Rattle.dexout.proofs.Given.{next_part, last_part}
use Rattle.dexcode.specs.declared.handlers.Catch.{Catch}
use Rattle.dexcode.specs.Numbered.{catch_meant}
use Rattle.dexlisting.specs.FullListing.{catch_line, catch_all_line}
use Rattle.dexlisting.proofs.Shown.{mapped}
use Rattle.dexlisting.proofs.tries.encode_handler.Goals as goal

pub encode_catches-requires : goal.encode_catches-requires
encode_catches-requires g c = rw c.catches.ensures c.requires

pub returns : goal.returns
returns g c =
    let m = c.args.numbering.now in
    let G = g.O.Output.gives in
    let B = g.met.O.Output.both in
    next_part G B (ap (flat_map (λ (x : Catch). catch_line (catch_meant m x))) c.catches.ensures ∙ mapped catch_line (catch_meant m) c.args.handler.now.catches) c.encode_catches.ensures
    (last_part G B (ap (λ o. option_map_or catch_all_line o []) c.catch_all_addr.ensures) c.encode_catch_all.ensures)
