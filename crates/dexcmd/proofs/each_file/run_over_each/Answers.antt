use Rattle.std.proofs.Common.{◌≡◌, true, false, [], ◌∷◌, ◌++◌, arith, length, drop, take, map, sym, subst, ap, ◌∙◌, ◌+◌, ◌<◌, string_bytes}
use Rattle.std.proofs.lemmas.List.{drop_all, length-map, length-set}
use Rattle.dexruns.specs.Runs.{AllWork}
use Rattle.dexruns.specs.Conditions.{no_conditions}
use Rattle.dexcmd.specs.Reports.{standard_name, outcome_lines}
use Rattle.dexcmd.specs.EachFile.{goes_on, IsFileRun, AreRunOver}
use Rattle.dexcmd.proofs.EachFile.{IsSoFar, next_name, work_ahead, part_at, part_put, one_more, one_last, at_start, at_end}
use Rattle.dexcmd.proofs.each_file.run_over_each.Goals as goal

pub loop-i-init : goal.loop-i-init
loop-i-init g c = record {
  count = sym c.requires.count;
  readers = c.requires.inputs;
  works = c.requires.out;
  so_far = at_start g.W.Output.is_closed (goes_on c.args.task) (IsFileRun g.R.Source.reports g.R.Source.to_come g.R.Source.expected_len g.R.Source.has_failed g.W.Sink.reports g.W.Sink.taken g.W.Sink.has_failed c.args.task) (map string_bytes c.args.files.now) c.args.inputs.now c.args.out.now
      c.of_status-report.result.status (map string_bytes c.of_status-report.result.lines.items) c.of_status-report.result.conditions c.of_status-report.ensures.report.exit c.of_status-report.ensures.report.printed c.of_status-report.ensures.unnoted;
  kinds = c.of_status-report.ensures.kinds;
}

pub loop-i-preserved : goal.loop-i-preserved
loop-i-preserved g c =
    let lt : c.loop-i.i < length c.args.files.now = omega arith in
    let within : c.loop-i.i < length c.loop-i.inputs = omega (arith, lt, c.loop-i.invariant.count) in
    let ran = c.run_over-outcome.ensures.ran in
    let on : goes_on c.args.task c.run_over-outcome.result ≡ true = sym c.goes_on-is_last.ensures ∙ c.if-is_last.false in
    let put = part_put c.loop-i.inputs c.run_over-outcome.new.inputs c.loop-i.i _ ran.input_left (omega arith) within ran.only_left in record {
      count = ap length put ∙ length-set c.loop-i.inputs c.loop-i.i ran.input_left ∙ c.loop-i.invariant.count;
      readers = subst (λ l. AllWork g.R.Source.has_failed (drop (c.loop-i.i + 1) l)) (sym put) (work_ahead g.R.Source.has_failed c.loop-i.inputs c.loop-i.i ran.input_left within c.loop-i.invariant.readers);
      works = c.run_over-outcome.ensures.works on;
      so_far = subst (λ l. IsSoFar g.W.Output.is_closed (goes_on c.args.task) (IsFileRun g.R.Source.reports g.R.Source.to_come g.R.Source.expected_len g.R.Source.has_failed g.W.Sink.reports g.W.Sink.taken g.W.Sink.has_failed c.args.task) (map string_bytes c.args.files.now) c.args.inputs.now c.args.out.now (drop (c.loop-i.i + 1) (map string_bytes c.args.files.now)) (take (c.loop-i.i + 1) l) (drop (c.loop-i.i + 1) l) c.run_over-outcome.new.out
          c.add_outcome.new.self.status (map string_bytes c.add_outcome.new.self.lines.items) c.add_outcome.new.self.conditions) (sym put)
          (one_more g.W.Output.is_closed (goes_on c.args.task) (IsFileRun g.R.Source.reports g.R.Source.to_come g.R.Source.expected_len g.R.Source.has_failed g.W.Sink.reports g.W.Sink.taken g.W.Sink.has_failed c.args.task) (map string_bytes c.args.files.now) c.args.inputs.now c.args.out.now (drop c.loop-i.i (map string_bytes c.args.files.now)) (drop (c.loop-i.i + 1) (map string_bytes c.args.files.now)) c.as_str-name.result.now
          c.loop-i.inputs c.loop-i.i ran.input ran.input_left c.loop-i.out c.run_over-outcome.new.out c.run_over-outcome.result c.loop-i.report.status (map string_bytes c.loop-i.report.lines.items) c.loop-i.report.conditions c.run_over-outcome.new.conditions
          (next_name string_bytes c.args.files.now c.loop-i.i c.index-files-i.result c.as_str-name.result.now lt c.index-files-i.is c.as_str-name.ensures.value) within (part_at c.loop-i.inputs c.loop-i.i _ ran.input (omega arith) within ran.only) ran.is c.loop-i.invariant.so_far
          c.add_outcome.new.self.status (map string_bytes c.add_outcome.new.self.lines.items) c.add_outcome.new.self.conditions on c.in_ok-add_outcome.ensures.status (c.in_ok-add_outcome.ensures.lines ∙ ap (λ b. map string_bytes c.loop-i.report.lines.items ++ outcome_lines (c.as_str-name.result.now ∷ []) standard_name b c.run_over-outcome.result) c.is_closed.ensures) c.in_ok-add_outcome.ensures.conditions);
      kinds = c.in_ok-add_outcome.ensures.kinds c.loop-i.invariant.kinds;
    }

pub returns-then-is_last : goal.returns-then-is_last
returns-then-is_last g c =
    let lt : c.loop-i.i < length c.args.files.now = omega arith in
    let within : c.loop-i.i < length c.loop-i.inputs = omega (arith, lt, c.loop-i.invariant.count) in
    let ran = c.run_over-outcome.ensures.ran in
    let off : goes_on c.args.task c.run_over-outcome.result ≡ false = sym c.goes_on-is_last.ensures ∙ c.if-is_last.true in
    let put = part_put c.loop-i.inputs c.run_over-outcome.new.inputs c.loop-i.i _ ran.input_left (omega arith) within ran.only_left in (
      subst (λ l. AreRunOver g.W.Output.is_closed (goes_on c.args.task) (IsFileRun g.R.Source.reports g.R.Source.to_come g.R.Source.expected_len g.R.Source.has_failed g.W.Sink.reports g.W.Sink.taken g.W.Sink.has_failed c.args.task) (map string_bytes c.args.files.now) c.args.inputs.now l c.args.out.now c.run_over-outcome.new.out 0 [] no_conditions c.add_outcome.new.self) (sym put)
          (one_last g.W.Output.is_closed (goes_on c.args.task) (IsFileRun g.R.Source.reports g.R.Source.to_come g.R.Source.expected_len g.R.Source.has_failed g.W.Sink.reports g.W.Sink.taken g.W.Sink.has_failed c.args.task) (map string_bytes c.args.files.now) c.args.inputs.now c.args.out.now (drop c.loop-i.i (map string_bytes c.args.files.now)) (drop (c.loop-i.i + 1) (map string_bytes c.args.files.now)) c.as_str-name.result.now
          c.loop-i.inputs c.loop-i.i ran.input ran.input_left c.loop-i.out c.run_over-outcome.new.out c.run_over-outcome.result c.loop-i.report.status (map string_bytes c.loop-i.report.lines.items) c.loop-i.report.conditions c.run_over-outcome.new.conditions
          (next_name string_bytes c.args.files.now c.loop-i.i c.index-files-i.result c.as_str-name.result.now lt c.index-files-i.is c.as_str-name.ensures.value) within (part_at c.loop-i.inputs c.loop-i.i _ ran.input (omega arith) within ran.only) ran.is c.loop-i.invariant.so_far c.add_outcome.new.self off c.in_ok-add_outcome.ensures.status (c.in_ok-add_outcome.ensures.lines ∙ ap (λ b. map string_bytes c.loop-i.report.lines.items ++ outcome_lines (c.as_str-name.result.now ∷ []) standard_name b c.run_over-outcome.result) c.is_closed.ensures) c.in_ok-add_outcome.ensures.conditions),
      c.in_ok-add_outcome.ensures.kinds c.loop-i.invariant.kinds,
    )

pub returns : goal.returns
returns g c = (
  at_end g.W.Output.is_closed (goes_on c.args.task) (IsFileRun g.R.Source.reports g.R.Source.to_come g.R.Source.expected_len g.R.Source.has_failed g.W.Sink.reports g.W.Sink.taken g.W.Sink.has_failed c.args.task) (map string_bytes c.args.files.now) c.args.inputs.now c.args.out.now (drop c.loop-i.i (map string_bytes c.args.files.now)) c.loop-i.inputs c.loop-i.i c.loop-i.out c.loop-i.report
      (omega (arith, c.loop-i.invariant.count)) (drop_all c.loop-i.i (map string_bytes c.args.files.now) (omega (arith, length-map c.args.files.now string_bytes))) c.loop-i.invariant.so_far,
  c.loop-i.invariant.kinds,
)
