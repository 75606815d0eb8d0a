use Rattle.std.proofs.Common.{map, sym, ap, ◌∙◌, subst}
use Rattle.std.proofs.lemmas.List.{length-map}
use Rattle.std.proofs.lemmas.Result.{err_from_is_err_and}
use Rattle.dexspec.specs.Canonical.{canonical}
use Rattle.dexmerge.specs.Plans.{plan_of}
use Rattle.dexruns.specs.Fans.{IsFanPlan}
use Rattle.dexruns.specs.Merges.{IsFileOf}
use Rattle.dexruns.proofs.Merged.{file_is}
use Rattle.dexkit_c.proofs.Reading.{fault_of_unread}
use Rattle.dexkit_c.proofs.Unmade.{fault_of_planned}
use Rattle.dexkit_c.proofs.merging.merged.Goals as goal

pub returns-in_err-programs-clause-fault : goal.returns-in_err-programs-clause-fault
returns-in_err-programs-clause-fault c =
    let p = err_from_is_err_and c.from_residual-in_err-programs.result c.from_residual-in_err-programs.ensures.1 in
    rw (p.1, p.2) (fault_of_unread _ (map (λ file. file.bytes.now) c.args.files.now) c.in_err-programs.field-0.0 c.in_err-programs.ensures.fault)

pub returns-in_err-whole-clause-fault : goal.returns-in_err-whole-clause-fault
returns-in_err-whole-clause-fault c =
    let p = err_from_is_err_and c.from_residual-in_err-whole.result c.from_residual-in_err-whole.ensures.1 in
    rw (p.1, p.2) (fault_of_planned c.args.options.now.caps c.in_err-whole.ensures.apart c.args.options.now.fan (map (λ file. file.bytes.now) c.args.files.now) c.in_ok-programs.programs.items (plan_of c.in_ok-plan.plan) c.in_err-whole.field-0.0 _
    (sym (length-map c.args.files.now (λ file. file.bytes.now))) c.in_ok-plan.ensures.fanned c.in_ok-plan.ensures.plan_for c.in_ok-programs.ensures.read c.in_err-whole.ensures.fault)

pub returns-clause-merged : goal.returns-clause-merged
returns-clause-merged c = record {
  collections = c.in_ok-programs.programs.items;
  read = c.in_ok-programs.ensures.read;
  plan = plan_of c.in_ok-plan.plan;
  fanned = subst (λ n. IsFanPlan n c.args.options.now.fan (plan_of c.in_ok-plan.plan)) (sym (length-map c.args.files.now (λ file. file.bytes.now))) c.in_ok-plan.ensures.fanned;
  whole = c.in_ok-whole.whole;
  merged = c.in_ok-whole.ensures.merged;
  read_back = subst IsFileOf c.in_ok-program.ensures (file_is c.normal_form.ensures.accepted c.normal_form.ensures.denotes _ c.is_good.ensures.good c.is_good.ensures.formed);
  written = c.in_ok-to_bytes.ensures.bytes ∙ ap canonical c.in_ok-program.ensures;
}
