use Rattle.dexruns.proofs.Common.{◌∙◌, subst, err_from_is_err_and, bytes_read, map, string_bytes, ◌≡◌, ExpectsAll, IsFrame}
use Rattle.dexruns.specs.internal.Choices.{IsChoice}
use Rattle.dexruns.proofs.ClassesListed.{unknown_read, classes_written, left_by_classes}
use Rattle.dexruns.proofs.Digested.{accepted_file}
use Rattle.dexruns.proofs.OutOfMemory.{unread_memory, frame_memory, accepted_memory}
use Rattle.dexruns.proofs.Unread.{of_input}
use Rattle.dexruns.proofs.dumping.dump_classes_run.Goals as goal

pub returns-in_err-program-clause-fault : goal.returns-in_err-program-clause-fault
returns-in_err-program-clause-fault g c =
    let p = err_from_is_err_and c.from_residual-in_err-program.result c.from_residual-in_err-program.ensures.1 in
    rw (p.1, p.2) (of_input (g.R.Source.reports c.args.input.now) (bytes_read (g.R.Source.to_come c.args.input.now)) c.as_slice.result.now c.in_err-program.field-0.0
    (λ reads. c.as_slice.ensures.value ∙ c.in_ok-bytes.ensures.bytes reads) c.in_err-program.ensures.fault)

pub returns-in-NoClass-clause-listed : goal.returns-in-NoClass-clause-listed
returns-in-NoClass-clause-listed g c = λ reads K denotes.
    unknown_read c.one_collection.ensures (map string_bytes c.args.names.now) (bytes_read (g.R.Source.to_come c.args.input.now)) c.as_slice.result.now c.in_ok-program.program c.in_ok-program.ensures.accepted c.in-NoClass.i K
    (c.as_slice.ensures.value ∙ c.in_ok-bytes.ensures.bytes reads) denotes (subst (IsChoice (map string_bytes c.args.names.now) c.in_ok-program.program) c.in-NoClass.is c.in_ok-choice.ensures)

pub returns-clause-listed : goal.returns-clause-listed
returns-clause-listed g c = λ reads K denotes.
    let choice = subst (IsChoice (map string_bytes c.args.names.now) c.in_ok-program.program) c.in-Classes.is c.in_ok-choice.ensures in
    classes_written c.one_collection.ensures (map string_bytes c.args.names.now) (bytes_read (g.R.Source.to_come c.args.input.now)) c.as_slice.result.now c.in_ok-program.program c.in_ok-program.ensures.accepted
    c.as_slice-2.result.now choice.0 (c.as_slice-2.ensures.value ∙ choice.1) c.args.detail (g.W.Sink.reports c.args.out.now) (g.W.Sink.taken c.args.out.now) (g.W.Sink.taken c.write_listing_of.new.out) K
    (c.as_slice.ensures.value ∙ c.in_ok-bytes.ensures.bytes reads) denotes c.in_ok-write_listing_of.ensures.written

pub returns-in_err-write_listing_of-clause-left : goal.returns-in_err-write_listing_of-clause-left
returns-in_err-write_listing_of-clause-left g c =
    let choice = subst (IsChoice (map string_bytes c.args.names.now) c.in_ok-program.program) c.in-Classes.is c.in_ok-choice.ensures in
    let p = err_from_is_err_and c.from_residual-in_err-write_listing_of.result c.from_residual-in_err-write_listing_of.ensures.1 in
    rw (p.1, p.2) (left_by_classes c.one_collection.ensures (map string_bytes c.args.names.now) (bytes_read (g.R.Source.to_come c.args.input.now)) c.as_slice.result.now c.in_ok-program.program c.in_ok-program.ensures.accepted
    c.as_slice-2.result.now choice.0 (c.as_slice-2.ensures.value ∙ choice.1) c.args.detail (g.R.Source.reports c.args.input.now) (g.W.Sink.reports c.args.out.now) c.args.out.now c.write_listing_of.new.out g.W.Sink.taken c.in_err-write_listing_of.field-0.0
    (λ reads. c.as_slice.ensures.value ∙ c.in_ok-bytes.ensures.bytes reads) c.in_err-write_listing_of.ensures.left)

pub returns-in_err-bytes-clause-memory : goal.returns-in_err-bytes-clause-memory
returns-in_err-bytes-clause-memory g c =
    let p = err_from_is_err_and c.from_residual.result c.from_residual.ensures.1 in
    rw (p.1, p.2) (unread_memory (ExpectsAll g.R.Source.reports g.R.Source.to_come g.R.Source.expected_len c.args.input.now) (c.read_input.new.input ≡ c.args.input.now) (bytes_read (g.R.Source.to_come c.args.input.now)) c.in_err-bytes.field-0.0 c.in_err-bytes.ensures.memory)

pub returns-in_err-program-clause-memory : goal.returns-in_err-program-clause-memory
returns-in_err-program-clause-memory g c =
    let p = err_from_is_err_and c.from_residual-in_err-program.result c.from_residual-in_err-program.ensures.1 in
    rw (p.1, p.2) (frame_memory (ExpectsAll g.R.Source.reports g.R.Source.to_come g.R.Source.expected_len c.args.input.now) (c.read_input.new.input ≡ c.args.input.now) (bytes_read (g.R.Source.to_come c.args.input.now)) c.in_err-program.field-0.0
    (λ is expects. subst IsFrame (c.as_slice.ensures.value ∙ c.in_ok-bytes.ensures.bytes expects.0) (c.in_err-program.ensures.memory is)))

pub returns-in_err-choice-clause-memory : goal.returns-in_err-choice-clause-memory
returns-in_err-choice-clause-memory g c =
    accepted_memory (ExpectsAll g.R.Source.reports g.R.Source.to_come g.R.Source.expected_len c.args.input.now) (c.read_input.new.input ≡ c.args.input.now) (bytes_read (g.R.Source.to_come c.args.input.now)) _
    (λ expects. accepted_file _ _ _ (c.as_slice.ensures.value ∙ c.in_ok-bytes.ensures.bytes expects.0) c.in_ok-program.ensures.accepted)

pub returns-in_err-write_listing_of-clause-memory : goal.returns-in_err-write_listing_of-clause-memory
returns-in_err-write_listing_of-clause-memory g c =
    accepted_memory (ExpectsAll g.R.Source.reports g.R.Source.to_come g.R.Source.expected_len c.args.input.now) (c.read_input.new.input ≡ c.args.input.now) (bytes_read (g.R.Source.to_come c.args.input.now)) _
    (λ expects. accepted_file _ _ _ (c.as_slice.ensures.value ∙ c.in_ok-bytes.ensures.bytes expects.0) c.in_ok-program.ensures.accepted)
