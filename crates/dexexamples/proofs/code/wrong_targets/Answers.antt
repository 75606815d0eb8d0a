use Rattle.dexexamples.proofs.Common.{refl, opcode_of, opcode_runs, has_right_targets}
use Rattle.dexexamples.proofs.code.wrong_targets.Goals as goal

pub returns-clause-inside : goal.returns-clause-inside
unfolding has_right_targets opcode_of opcode_runs
returns-clause-inside c = refl

pub returns-clause-outside : goal.returns-clause-outside
unfolding has_right_targets opcode_of opcode_runs
returns-clause-outside c = refl

pub returns-clause-other_kind : goal.returns-clause-other_kind
unfolding has_right_targets opcode_of opcode_runs
returns-clause-other_kind c = refl
