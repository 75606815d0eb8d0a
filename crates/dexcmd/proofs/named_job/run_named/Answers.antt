use Rattle.std.proofs.Common.{◌≡◌, inl, inr, arith, false, List, [], ◌∷◌, Option, Some, None, Result, Ok, Err, suc, refl, length, map, string_bytes, sym, subst, ap, ◌∙◌}
use Rattle.std.specs.Prelude.{All, IfOk}
use Rattle.std.specs.Borrow.{Bor}
use Rattle.std.specs.List.{AllZip}
use Rattle.std.proofs.lemmas.List.{with_items_is}
use Rattle.std.proofs.lemmas.List.Elements.{All-get_or}
use Rattle.dexcmd.specs.declared.device_error.DeviceError.{DeviceError}
use Rattle.dexcmd.specs.declared.explaining.Reasons.{Reasons}
use Rattle.dexcmd.specs.declared.explaining.Remedies.{Remedies}
use Rattle.dexcmd.specs.declared.outcome_report.Report.{Report}
use Rattle.dexcmd.specs.Explaining.{IsExplainedOrPlain, AreReasonsOf}
use Rattle.dexcmd.specs.NamedJobs.{IsSaidAs}
use Rattle.dexcmd.proofs.named_job.run_named.Goals as goal

-- what goes side by side has one length
zip_length : {X Y : Type 0} (R : X → Y → Type 0) (xs : List X) (ys : List Y) → AllZip R xs ys → length xs ≡ length ys
zip_length R [] [] all = refl
zip_length R [] (y ∷ ys) all = absurd all
zip_length R (x ∷ xs) [] all = absurd all
zip_length R (x ∷ xs) (y ∷ ys) all = ap suc (zip_length R xs ys all.1)

-- so it goes where both lists are others
zip_same : {X Y : Type 0} (R : X → Y → Type 0) (xs us : List X) (ys vs : List Y) → xs ≡ us → vs ≡ ys → AllZip R xs ys → AllZip R us vs
zip_same R xs us ys vs left right all = subst (λ l. AllZip R l vs) left (subst (AllZip R xs) (sym right) all)

-- the plain report may be said
said_plain : (unread : List (Option DeviceError)) (unwritten : Option DeviceError) (remedies : Option (Bor Remedies)) (plain : Report) → IsSaidAs unread unwritten remedies plain plain
said_plain unread unwritten None plain = refl
said_plain unread unwritten (Some remedies) plain = inl refl

-- and with remedies one that is explained with reasons of the devices
said_more : {E : Type 0} (unread : List (Option DeviceError)) (unwritten : Option DeviceError) (given : Option (Bor Remedies)) (remedies : Bor Remedies) (reasons : Result Reasons E) (plain said : Report) →
    given ≡ Some remedies → IfOk reasons (AreReasonsOf unread unwritten) → IsExplainedOrPlain remedies.now reasons plain said → IsSaidAs unread unwritten given plain said
said_more unread unwritten given remedies (Ok reasons) plain said is are explained = subst (λ o. IsSaidAs unread unwritten o plain said) (sym is) (elim explained [
  | inl same ↦ inl same
  | inr more ↦ inr (record { reasons = reasons; reasons_are = are; explained = more })
])
said_more unread unwritten given remedies (Err error) plain said is are same = subst (λ o. IsSaidAs unread unwritten o plain said) (sym is) (inl same)

pub finish_job-requires-clause-count : goal.finish_job-requires-clause-count
finish_job-requires-clause-count g c =
    ap length (sym c.input_names.ensures) ∙ zip_length _ (map string_bytes c.input_names.result.now) c.in_ok-inputs.inputs.items c.in_ok-inputs.ensures.named
    ∙ ap length (sym c.as_mut_slice.ensures.value)

pub finish_job-requires-clause-inputs : goal.finish_job-requires-clause-inputs
finish_job-requires-clause-inputs g c k d lt =
    All-get_or (λ input. g.D.Input.Source.has_failed input ≡ false) c.as_mut_slice.result.now k d lt
    (subst (All (λ input. g.D.Input.Source.has_failed input ≡ false)) (sym c.as_mut_slice.ensures.value) c.in_ok-inputs.ensures.works)

pub returns-in_default : goal.returns-in_default
returns-in_default g c = record {
  done = record {
    inputs = c.as_mut_slice.result.now;
    left = c.finish_job.new.inputs;
    out = c.in_ok-out.out;
    finished = c.finish_job.new.out;
    plain = c.in_ok-report.report;
    inputs_named = zip_same (g.D.Inputs.is_input c.args.devices.now) _ _ _ _ c.input_names.ensures c.as_mut_slice.ensures.value c.in_ok-inputs.ensures.named;
    output_named = c.in_ok-out.ensures.named;
    is_finished = c.in_ok-report.ensures.done;
    unwritten = c.in_ok-report.ensures.left;
    placed = c.in_ok-report.ensures.placed;
    unplaced = c.in_ok-report.ensures.unplaced;
    said_as = said_plain _ _ c.args.remedies c.in_ok-report.report;
  };
}

pub returns : goal.returns
returns g c =
    let left = c.finish_job.new.inputs in
    let finished = c.finish_job.new.out in
    let all = with_items_is c.in_ok-inputs.inputs left (omega (arith, c.finish_job.auto.inputs, c.as_mut_slice.ensures.len)) in
    record {
      done = record {
        inputs = c.as_mut_slice.result.now;
        left = left;
        out = c.in_ok-out.out;
        finished = finished;
        plain = c.in_ok-report.report;
        inputs_named = zip_same (g.D.Inputs.is_input c.args.devices.now) _ _ _ _ c.input_names.ensures c.as_mut_slice.ensures.value c.in_ok-inputs.ensures.named;
        output_named = c.in_ok-out.ensures.named;
        is_finished = c.in_ok-report.ensures.done;
        unwritten = c.in_ok-report.ensures.left;
        placed = c.in_ok-report.ensures.placed;
        unplaced = c.in_ok-report.ensures.unplaced;
        said_as = said_more (map g.D.Inputs.error_of left) (g.D.JobOutputs.output_error finished) c.args.remedies c.in-Some.remedies c.reasons_of-reasons.result c.in_ok-report.report c.explained_or_plain.result c.in-Some.is
            (subst (λ l. IfOk c.reasons_of-reasons.result (AreReasonsOf (map g.D.Inputs.error_of l) (g.D.JobOutputs.output_error finished))) all c.reasons_of-reasons.ensures) c.explained_or_plain.ensures;
      };
    }
