use Rattle.std.proofs.Common.{◌∙◌, subst, sym}
use Rattle.std.specs.List.{Contains, flat_map}
use Rattle.std.specs.Prelude.{◌↔◌, string_bytes}
use Rattle.dexspec.specs.Files.{definitions}
use Rattle.dexspec.specs.Texts.{Text}
use Rattle.dexruns.specs.internal.Halves.{packages_of, AreOfPackages, AreRowsAdded}
use Rattle.dexmerge.specs.Counting.{AreCounts}
use Rattle.dexruns.proofs.PackageRows.{all_of_packages, lines_of_packages}
use Rattle.dexruns.proofs.packages.package_lines.Goals as goal
use Rattle.dexruns.proofs.packages.package_lines.Goals.{In_ok-packages}

-- the programs have numbers
counted : (c : In_ok-packages) → AreCounts (flat_map definitions c.args.programs.items) c.in_ok-counts_of.field-0
counted c = subst (λ Ks. AreCounts (flat_map definitions Ks) c.in_ok-counts_of.field-0) c.as_slice.ensures.value c.in_ok-counts_of.ensures.counts

-- and these are the packages of their classes
are : (c : In_ok-packages) (name : Text) → Contains c.in_ok-packages.packages.items name ↔ Contains (packages_of (flat_map definitions c.args.programs.items)) name
are c name = subst (λ Ks. Contains c.in_ok-packages.packages.items name ↔ Contains (packages_of (flat_map definitions Ks)) name) c.as_slice-2.ensures.value (c.in_ok-packages.ensures.are name)

pub push_packages-requires-clause-are : goal.push_packages-requires-clause-are
push_packages-requires-clause-are c =
    let here = (goal.at.push_packages-requires-clause-are c).In_ok-packages in
    subst (AreOfPackages (flat_map definitions c.args.programs.items)) (sym c.as_slice-3.ensures.value) (all_of_packages (flat_map definitions c.args.programs.items) c.in_ok-packages.packages.items c.in_ok-counts_of.field-0 (counted here) (are here))

pub returns-clause-lines : goal.returns-clause-lines
returns-clause-lines c =
    let here = (goal.at.returns-clause-lines c).In_ok-packages in
    lines_of_packages (flat_map definitions c.args.programs.items) c.in_ok-packages.packages.items (string_bytes c.new-text.result) (string_bytes c.push_packages.new.text) c.in_ok-counts_of.field-0 (counted here) c.in_ok-packages.ensures.rise (are here) c.new-text.ensures.bytes
    (subst (λ ps. AreRowsAdded (flat_map definitions c.args.programs.items) ps (string_bytes c.new-text.result) (string_bytes c.push_packages.new.text)) c.as_slice-3.ensures.value c.in_ok-push_packages.ensures.rows)
