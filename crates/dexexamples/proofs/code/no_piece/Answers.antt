use Rattle.dexexamples.proofs.Common.{refl, arith, opcode_of, opcode_runs, piece_size, [], ◌∷◌}
use Rattle.dexexamples.specs.{cut}
use Rattle.dexexamples.proofs.code.no_piece.Goals as goal

pub returns-clause-odd_payload : goal.returns-clause-odd_payload
unfolding piece_size opcode_of opcode_runs
returns-clause-odd_payload c = record { cuts = cut 0 1 ∷ []; within = omega arith; cut = (refl, refl, refl); none = refl }

pub returns-clause-six_registers : goal.returns-clause-six_registers
unfolding piece_size opcode_of opcode_runs
returns-clause-six_registers c = refl

pub returns-clause-zero_byte : goal.returns-clause-zero_byte
unfolding piece_size opcode_of opcode_runs
returns-clause-zero_byte c = refl

pub returns-clause-unused : goal.returns-clause-unused
unfolding piece_size opcode_of opcode_runs
returns-clause-unused c = refl

pub returns-clause-cut_off : goal.returns-clause-cut_off
unfolding piece_size opcode_of opcode_runs
returns-clause-cut_off c = refl

pub returns-clause-width : goal.returns-clause-width
unfolding piece_size opcode_of opcode_runs
returns-clause-width c = refl

pub returns-clause-keys : goal.returns-clause-keys
unfolding piece_size opcode_of opcode_runs
returns-clause-keys c = refl
