use Rattle.std.proofs.Common.{rules, arith, ◌≡◌, get_or}
use Rattle.dexspec.specs.Depth.{in_class_order}
use Rattle.dexspec.specs.Files.{definitions}
use Rattle.dexruns.proofs.PackageRows.{packages_next}
use Rattle.dexruns.proofs.packages.class_packages.Goals as goal

pub loop-i-preserved : goal.loop-i-preserved
loop-i-preserved c =
    let names = c.in_ok-names.names.items in
    let name : c.index.result.now ≡ get_or names c.loop-i.i c.index.result.now = search rules in
    record { packages = packages_next (in_class_order (definitions c.args.program.now)) names c.loop-i.i c.index.result.now c.in_ok-of.field-0 c.loop-i.packages.items c.push.new.self.items c.in_ok-names.ensures (omega (arith, c.loop-i-test.true)) name c.in_ok-of.ensures c.loop-i.invariant.packages c.in_ok-push.ensures.items }
