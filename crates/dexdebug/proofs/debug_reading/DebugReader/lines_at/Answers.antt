use Rattle.dexdebug.proofs.Common.{ap, ◌∙◌}
use Rattle.std.specs.Result.{result_ok}
use Rattle.dexdebug.proofs.debug_reading.DebugReader.lines_at.Goals as goal

pub returns-clause-only : goal.returns-clause-only
returns-clause-only c = λ v n h. c.ok.ensures.value ∙ ap result_ok (c.read_s.ensures.only v n h)
