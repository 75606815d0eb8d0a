use Rattle.dexruns.proofs.Common.{◌∙◌, ap, map, string_bytes}
use Rattle.dexruns.specs.Listings.{is_among}
use Rattle.dexruns.proofs.ClassesListed.{first_unknown, all_known}
use Rattle.dexruns.proofs.dumping.choose.Goals as goal

pub returns-in-Some : goal.returns-in-Some
returns-in-Some c =
    let names = map string_bytes c.args.names.now in
    let are = ap (map string_bytes) c.as_slice.ensures.value ∙ c.in_ok-classes.ensures in
    first_unknown names c.args.program.now (map string_bytes c.as_slice.result.now) c.as_slice-2.result.now are (c.as_slice-2.ensures.value ∙ c.in_ok-known.ensures) c.in-Some.i c.in-Some.ensures

pub returns : goal.returns
returns c =
    let names = map string_bytes c.args.names.now in
    let are = ap (map string_bytes) c.as_slice.ensures.value ∙ c.in_ok-classes.ensures in
    let others = ap (map string_bytes) c.as_slice-3.ensures.value ∙ c.in_ok-classes.ensures in (
      all_known names c.args.program.now (map string_bytes c.as_slice.result.now) c.as_slice-2.result.now are (c.as_slice-2.ensures.value ∙ c.in_ok-known.ensures) c.in_default.ensures,
      c.in_ok-flags.ensures ∙ ap (map (is_among names)) others,
    )
