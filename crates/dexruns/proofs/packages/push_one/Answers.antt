use Rattle.std.proofs.Common.{◌≡◌, ◌∙◌, [], ◌∷◌, ap, sym}
use Rattle.std.specs.Option.{option_copied}
use Rattle.std.specs.List.{flat_map}
use Rattle.std.specs.Prelude.{string_bytes}
use Rattle.std.proofs.lemmas.Result.{err_from_is_err_and}
use Rattle.dexspec.specs.Files.{definitions}
use Rattle.dexruns.proofs.Counted.{memory_alone}
use Rattle.dexruns.proofs.PackageRows.{one_row, only_one}
use Rattle.dexruns.proofs.packages.push_one.Goals as goal

pub returns-in_err-counts-clause-fault : goal.returns-in_err-counts-clause-fault
returns-in_err-counts-clause-fault c =
    let p = err_from_is_err_and c.from_residual.result c.from_residual.ensures.1 in
    rw (p.1, p.2) (memory_alone (flat_map definitions c.args.programs.now) c.requires.are.consistent c.requires.are.acyclic c.in_err-counts.field-0.0 c.in_err-counts.ensures.fault)

pub returns-clause-rows : goal.returns-clause-rows
returns-clause-rows c =
    let one : c.args.packages.now ≡ c.in-Some.name.now ∷ [] = only_one c.args.packages.now c.in-Some.name.now c.requires.few (sym c.first.ensures.value ∙ ap option_copied c.in-Some.is) in
    one_row (flat_map definitions c.args.programs.now) c.in-Some.name.now c.in_ok-counts.counts c.args.packages.now (string_bytes c.args.text.now) (string_bytes c.push_package_line.new.text) one c.requires.are c.in_ok-counts.ensures.counts c.in_ok-push_package_line.ensures
