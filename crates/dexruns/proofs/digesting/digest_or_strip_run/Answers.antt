use Rattle.dexruns.proofs.Common.{ap, ◌∙◌, digest_lines, err_from_is_err_and, bytes_read, stripped_if, ◌≡◌, subst, ExpectsAll, IsFrame}
use Rattle.dexruns.proofs.Digested.{accepted_file, written_is, prefix_is}
use Rattle.dexruns.proofs.OutOfMemory.{unread_memory, frame_memory, accepted_memory}
use Rattle.dexruns.proofs.Unread.{of_input}
use Rattle.std.specs.Prelude.{codes}
use Rattle.dexruns.specs.Names.{name_in_form}
use Rattle.dexruns.proofs.digesting.digest_or_strip_run.Goals as goal

pub returns-in_err-whole-clause-fault : goal.returns-in_err-whole-clause-fault
returns-in_err-whole-clause-fault g c =
    let p = err_from_is_err_and c.from_residual-in_err-whole.result c.from_residual-in_err-whole.ensures.1 in
    rw (p.1, p.2) (of_input (g.R.Source.reports c.args.input.now) (bytes_read (g.R.Source.to_come c.args.input.now)) c.as_slice.result.now c.in_err-whole.field-0.0
    (λ reads. c.as_slice.ensures.value ∙ c.in_ok-bytes.ensures.bytes reads) c.in_err-whole.ensures.fault)

pub returns-clause-written : goal.returns-clause-written
returns-clause-written g c = λ reads writes K denotes.
    written_is c.one_collection.ensures (stripped_if c.args.is_stripped) (name_in_form c.args.form c.args.name.now (codes "\n")) _ _ _ K _ _ _ _ (c.as_slice.ensures.value ∙ c.in_ok-bytes.ensures.bytes reads) c.in_ok-whole.ensures.accepted denotes c.in_ok-program.ensures
    (c.as_bytes.ensures.value ∙ c.in_ok-lines.ensures ∙ ap (λ file. digest_lines file c.in_ok-program.program) (c.as_str.ensures.value ∙ c.in_ok-file.ensures.named)) (c.in_ok-write_output.ensures.written writes)

pub returns-in_err-write_output-clause-left : goal.returns-in_err-write_output-clause-left
returns-in_err-write_output-clause-left g c =
    let p = err_from_is_err_and c.from_residual-in_err-write_output.result c.from_residual-in_err-write_output.ensures.1 in
    rw (p.1, p.2, c.in_err-write_output.ensures.fault) (λ reads. (
      accepted_file _ _ _ (c.as_slice.ensures.value ∙ c.in_ok-bytes.ensures.bytes reads) c.in_ok-whole.ensures.accepted,
      (λ writes K denotes.
          prefix_is c.one_collection.ensures (stripped_if c.args.is_stripped) (name_in_form c.args.form c.args.name.now (codes "\n")) _ _ _ K _ _ _ _ (c.as_slice.ensures.value ∙ c.in_ok-bytes.ensures.bytes reads) c.in_ok-whole.ensures.accepted denotes c.in_ok-program.ensures
          (c.as_bytes.ensures.value ∙ c.in_ok-lines.ensures ∙ ap (λ file. digest_lines file c.in_ok-program.program) (c.as_str.ensures.value ∙ c.in_ok-file.ensures.named)) (c.in_err-write_output.ensures.prefix writes)),
    ))

pub returns-in_err-bytes-clause-memory : goal.returns-in_err-bytes-clause-memory
returns-in_err-bytes-clause-memory g c =
    let p = err_from_is_err_and c.from_residual.result c.from_residual.ensures.1 in
    rw (p.1, p.2) (unread_memory (ExpectsAll g.R.Source.reports g.R.Source.to_come g.R.Source.expected_len c.args.input.now) (c.read_input.new.input ≡ c.args.input.now) (bytes_read (g.R.Source.to_come c.args.input.now)) c.in_err-bytes.field-0.0 c.in_err-bytes.ensures.memory)

pub returns-in_err-whole-clause-memory : goal.returns-in_err-whole-clause-memory
returns-in_err-whole-clause-memory g c =
    let p = err_from_is_err_and c.from_residual-in_err-whole.result c.from_residual-in_err-whole.ensures.1 in
    rw (p.1, p.2) (frame_memory (ExpectsAll g.R.Source.reports g.R.Source.to_come g.R.Source.expected_len c.args.input.now) (c.read_input.new.input ≡ c.args.input.now) (bytes_read (g.R.Source.to_come c.args.input.now)) c.in_err-whole.field-0.0
    (λ is expects. subst IsFrame (c.as_slice.ensures.value ∙ c.in_ok-bytes.ensures.bytes expects.0) (c.in_err-whole.ensures.memory is)))

pub returns-in_err-program-clause-memory : goal.returns-in_err-program-clause-memory
returns-in_err-program-clause-memory g c =
    accepted_memory (ExpectsAll g.R.Source.reports g.R.Source.to_come g.R.Source.expected_len c.args.input.now) (c.read_input.new.input ≡ c.args.input.now) (bytes_read (g.R.Source.to_come c.args.input.now)) _
    (λ expects. accepted_file _ _ _ (c.as_slice.ensures.value ∙ c.in_ok-bytes.ensures.bytes expects.0) c.in_ok-whole.ensures.accepted)

pub returns-in_err-file-clause-memory : goal.returns-in_err-file-clause-memory
returns-in_err-file-clause-memory g c =
    accepted_memory (ExpectsAll g.R.Source.reports g.R.Source.to_come g.R.Source.expected_len c.args.input.now) (c.read_input.new.input ≡ c.args.input.now) (bytes_read (g.R.Source.to_come c.args.input.now)) _
    (λ expects. accepted_file _ _ _ (c.as_slice.ensures.value ∙ c.in_ok-bytes.ensures.bytes expects.0) c.in_ok-whole.ensures.accepted)

pub returns-in_err-lines-clause-memory : goal.returns-in_err-lines-clause-memory
returns-in_err-lines-clause-memory g c =
    accepted_memory (ExpectsAll g.R.Source.reports g.R.Source.to_come g.R.Source.expected_len c.args.input.now) (c.read_input.new.input ≡ c.args.input.now) (bytes_read (g.R.Source.to_come c.args.input.now)) _
    (λ expects. accepted_file _ _ _ (c.as_slice.ensures.value ∙ c.in_ok-bytes.ensures.bytes expects.0) c.in_ok-whole.ensures.accepted)
