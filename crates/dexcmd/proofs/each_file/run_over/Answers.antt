use Rattle.std.proofs.Common.{◌≡◌, arith, get_or, refl}
use Rattle.std.proofs.lemmas.Result.{IfErr-weaker}
use Rattle.std.specs.Prelude.{codes}
use Rattle.dexruns.specs.Inputs.{bytes_read}
use Rattle.dexruns.specs.Names.{name_in_form}
use Rattle.dexcmd.specs.EachFile.{IsFileDigested, IsFileCountedBy}
use Rattle.dexcmd.specs.declared.each_file.Task.TheVariants as task
use Rattle.dexcmd.proofs.Done.{check_named, input_named, ended_named}
use Rattle.dexcmd.proofs.EachFile.{of_one, one_checked, run_works}
use Rattle.dexcmd.proofs.each_file.run_over.Goals as goal

pub returns-in-Check-clause-ran : goal.returns-in-Check-clause-ran
returns-in-Check-clause-ran g c = rw c.in-Check.is (one_checked g.R.Source.reports g.R.Source.to_come g.R.Source.expected_len g.R.Source.has_failed g.W.Sink.reports g.W.Sink.taken g.W.Sink.has_failed (name_in_form c.in-Check.form c.args.file.now (codes ": ")) c.args.inputs.now c.check_run.new.inputs c.args.out.now c.check_run.new.out c.args.conditions.now c.check_run.new.conditions c.check_run.result
    c.requires.one (omega (arith, c.check_run.auto.inputs, c.requires.one))
    (record {
      lines = c.check_run.ensures.lines;
      begun = c.check_run.ensures.begun;
      no_further = c.check_run.ensures.no_further;
      goes_on_telling = c.check_run.ensures.reports;
      readers = c.check_run.ensures.readers;
      writer = c.check_run.ensures.writer;
      fault = c.check_run.ensures.fault;
    }))

pub returns-in-Check-clause-named : goal.returns-in-Check-clause-named
returns-in-Check-clause-named g c =
    IfErr-weaker c.check_run.result _ _ (check_named g.R.Source.has_failed c.check_run.new.inputs (g.W.Sink.has_failed c.check_run.new.out) 1 (omega (arith, c.check_run.auto.inputs, c.requires.one))) c.check_run.ensures.fault

pub returns-in-Digest-clause-ran : goal.returns-in-Digest-clause-ran
returns-in-Digest-clause-ran g c = rw c.in-Digest.is (of_one (λ input left. IsFileDigested g.R.Source.reports g.R.Source.to_come g.R.Source.expected_len g.R.Source.has_failed g.W.Sink.reports g.W.Sink.taken g.W.Sink.has_failed c.in-Digest.is_stripped (name_in_form c.in-Digest.form c.args.file.now (codes "\n")) input left c.args.out.now c.digest_or_strip_run.new.out c.done.result × (c.args.conditions.now ≡ c.args.conditions.now))
    c.args.inputs.now c.index-inputs-0.result c.digest_or_strip_run.new.input c.requires.one (
      record {
        ended = c.digest_or_strip_run.result;
        ran = record { accepted = c.digest_or_strip_run.ensures.accepted; lines = c.digest_or_strip_run.ensures.written; fault = c.digest_or_strip_run.ensures.fault; memory = c.digest_or_strip_run.ensures.memory; goes_on_telling = c.digest_or_strip_run.ensures.reports; unwritten = c.digest_or_strip_run.ensures.left; no_further = c.digest_or_strip_run.ensures.no_further; read = c.digest_or_strip_run.ensures.read; write = c.digest_or_strip_run.ensures.write };
        is = c.done.ensures;
      },
      refl,
    ))

pub returns-in-Digest-clause-named : goal.returns-in-Digest-clause-named
returns-in-Digest-clause-named g c =
    ended_named 1 _ (input_named (g.R.Source.reports (get_or c.args.inputs.now 0 c.index-inputs-0.result)) (bytes_read (g.R.Source.to_come (get_or c.args.inputs.now 0 c.index-inputs-0.result)))) c.digest_or_strip_run.result c.done.result c.done.ensures c.digest_or_strip_run.ensures.fault

pub returns-in-Digest-clause-works : goal.returns-in-Digest-clause-works
returns-in-Digest-clause-works g c = rw c.in-Digest.is (run_works (task.Digest c.in-Digest.form c.in-Digest.is_stripped) (g.W.Sink.has_failed c.digest_or_strip_run.new.out) c.digest_or_strip_run.result c.done.result refl c.done.ensures c.digest_or_strip_run.ensures.write)

pub returns-in-Count-clause-ran : goal.returns-in-Count-clause-ran
returns-in-Count-clause-ran g c = rw c.in-Count.is (of_one (λ input left. IsFileCountedBy g.R.Source.reports g.R.Source.to_come g.R.Source.expected_len g.R.Source.has_failed g.W.Sink.reports g.W.Sink.taken g.W.Sink.has_failed (name_in_form c.in-Count.form c.args.file.now (codes "\n")) input left c.args.out.now c.count_file_run.new.out c.done-in-Count.result × (c.args.conditions.now ≡ c.args.conditions.now))
    c.args.inputs.now c.index-inputs-0-in-Count.result c.count_file_run.new.input c.requires.one (
      record {
        ended = c.count_file_run.result;
        ran = record { accepted = c.count_file_run.ensures.accepted; counted = c.count_file_run.ensures.written; fault = c.count_file_run.ensures.fault; memory = c.count_file_run.ensures.memory; goes_on_telling = c.count_file_run.ensures.reports; unwritten = c.count_file_run.ensures.left; no_further = c.count_file_run.ensures.no_further; read = c.count_file_run.ensures.read; write = c.count_file_run.ensures.write };
        is = c.done-in-Count.ensures;
      },
      refl,
    ))

pub returns-in-Count-clause-named : goal.returns-in-Count-clause-named
returns-in-Count-clause-named g c =
    ended_named 1 _ (input_named (g.R.Source.reports (get_or c.args.inputs.now 0 c.index-inputs-0-in-Count.result)) (bytes_read (g.R.Source.to_come (get_or c.args.inputs.now 0 c.index-inputs-0-in-Count.result)))) c.count_file_run.result c.done-in-Count.result c.done-in-Count.ensures c.count_file_run.ensures.fault

pub returns-in-Count-clause-works : goal.returns-in-Count-clause-works
returns-in-Count-clause-works g c = rw c.in-Count.is (run_works (task.Count c.in-Count.form) (g.W.Sink.has_failed c.count_file_run.new.out) c.count_file_run.result c.done-in-Count.result refl c.done-in-Count.ensures c.count_file_run.ensures.write)
