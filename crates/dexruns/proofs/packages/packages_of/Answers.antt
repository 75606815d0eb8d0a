use Rattle.std.proofs.Common.{◌∙◌, subst, sym}
use Rattle.std.specs.Prelude.{◌↔◌}
use Rattle.std.specs.List.{Contains, flat_map}
use Rattle.dexspec.specs.Files.{definitions}
use Rattle.dexruns.specs.internal.Halves.{packages_of}
use Rattle.dexruns.proofs.PackageRows.{once_rise, once_members, package_members}
use Rattle.dexruns.proofs.packages.packages_of.Goals as goal

pub returns-clause-rise : goal.returns-clause-rise
returns-clause-rise c = once_rise c.in_ok-packages.packages.items c.sort_unstable.new.self.items c.dedup.new.self.items c.sort_unstable.ensures.permutation c.sort_unstable.ensures.sorted c.dedup.ensures.filtered

pub returns-clause-are : goal.returns-clause-are
returns-clause-are c = λ name.
    let all = c.in_ok-packages.packages.items in
    let same = once_members all c.sort_unstable.new.self.items c.dedup.new.self.items c.sort_unstable.ensures.permutation c.sort_unstable.ensures.sorted c.dedup.ensures.filtered name in
    let are = package_members c.args.programs.now name in (
      (λ h. are.0 (subst (λ l. Contains l name) c.in_ok-packages.ensures (same.0 h))),
      (λ h. same.1 (subst (λ l. Contains l name) (sym c.in_ok-packages.ensures) (are.1 h))),
    )
