use Rattle.dexruns.proofs.Unread.{memory_of_input}
use Rattle.dexruns.proofs.inputs.read_program.Goals as goal

pub returns-in-Err-clause-memory : goal.returns-in-Err-clause-memory
returns-in-Err-clause-memory c = rw c.fault_of_input.ensures (memory_of_input c.args.number c.in-Err.fault c.in-Err.ensures.memory)
