use Rattle.dexexamples.proofs.Common.{refl, opcode_of, opcode_runs}
use Rattle.dexexamples.proofs.code.opcodes.Goals as goal

pub returns-clause-formats : goal.returns-clause-formats
unfolding opcode_of opcode_runs
returns-clause-formats c = refl

pub returns-clause-indices : goal.returns-clause-indices
unfolding opcode_of opcode_runs
returns-clause-indices c = refl

pub returns-clause-mnemonics : goal.returns-clause-mnemonics
unfolding opcode_of opcode_runs
returns-clause-mnemonics c = refl
