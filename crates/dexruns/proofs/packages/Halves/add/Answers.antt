use Rattle.std.proofs.Common.{◌≡◌, ◌∙◌, ◌++◌, List, map, ap, not, subst, Result, Ok, Err}
use Rattle.std.specs.Prelude.{OnOk}
use Rattle.std.specs.List.{filter, flat_map}
use Rattle.dexspec.specs.Classes.{Definition}
use Rattle.dexspec.specs.Depth.{in_class_order}
use Rattle.dexspec.specs.Files.{definitions, AreSame}
use Rattle.dexpool.specs.Cut.{kept}
use Rattle.dexruns.specs.Packages.{package_of}
use Rattle.dexruns.specs.internal.Halves.{is_before}
use Rattle.dexruns.proofs.PackageRows.{before_kept, others_kept}
use Rattle.dexruns.proofs.packages.Halves.add.Goals as goal
use Rattle.dexruns.proofs.packages.Halves.add.Goals.{In_ok-before}

-- what is so is so where a result is right
on_ok_any : {T E P : Type 0} (r : Result T E) → P → OnOk r P
on_ok_any (Ok x) p = p
on_ok_any (Err e) p = tt

before_is : (c : In_ok-before) → c.in_ok-before.before ≡ filter (λ d. is_before c.args.bound.now (package_of d.0)) (in_class_order (definitions c.args.program))
before_is c =
    c.in_ok-before.ensures.chosen ∙ ap (λ l. kept l c.into_part.result) c.deref-2.ensures.value ∙ ap (kept c.in_ok-flags.flags.items) c.into_part.ensures
    ∙ before_kept c.args.bound.now (in_class_order (definitions c.args.program)) c.in_ok-packages.packages.items c.in_ok-flags.flags.items c.in_ok-packages.ensures (c.in_ok-flags.ensures ∙ ap (map (is_before c.args.bound.now)) c.deref.ensures.value)

others_are : (c : In_ok-before) → c.in_ok-before.others ≡ filter (λ d. not (is_before c.args.bound.now (package_of d.0))) (in_class_order (definitions c.args.program))
others_are c =
    c.in_ok-before.ensures.others ∙ ap (λ l. kept (map not l) c.into_part.result) c.deref-2.ensures.value ∙ ap (kept (map not c.in_ok-flags.flags.items)) c.into_part.ensures
    ∙ others_kept c.args.bound.now (in_class_order (definitions c.args.program)) c.in_ok-packages.packages.items c.in_ok-flags.flags.items c.in_ok-packages.ensures (c.in_ok-flags.ensures ∙ ap (map (is_before c.args.bound.now)) c.deref.ensures.value)

pub returns-clause-before : goal.returns-clause-before
returns-clause-before c =
    on_ok_any c.push_program-2.result (subst (λ (l : List Definition). AreSame (flat_map definitions c.push_program.new.programs.items) (flat_map definitions c.args.self.now.before.items ++ l)) (before_is (goal.at.returns-clause-before c).In_ok-before) c.in_ok-push_program.ensures)

pub returns-clause-others : goal.returns-clause-others
returns-clause-others c =
    subst (λ (l : List Definition). OnOk c.push_program-2.result (AreSame (flat_map definitions c.push_program-2.new.programs.items) (flat_map definitions c.args.self.now.others.items ++ l))) (others_are (goal.at.returns-clause-others c).In_ok-before) c.push_program-2.ensures
