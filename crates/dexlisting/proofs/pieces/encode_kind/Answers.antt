use Rattle.dexio.proofs.Encoded.{then_given}
use Rattle.dexlisting.proofs.pieces.encode_kind.Goals as goal

pub returns-in-Instruction : goal.returns-in-Instruction
returns-in-Instruction g c = rw c.in-Instruction.is (then_given g.O.Output.gives g.met.O.Output.both c.encode_mnemonic.ensures c.encode_named.ensures)

pub returns-in-PackedSwitch : goal.returns-in-PackedSwitch
returns-in-PackedSwitch g c = rw c.in-PackedSwitch.is c.encode_packed_switch.ensures

pub returns-in-SparseSwitch : goal.returns-in-SparseSwitch
returns-in-SparseSwitch g c = rw c.in-SparseSwitch.is c.encode_sparse_switch.ensures

pub returns-in-ArrayData : goal.returns-in-ArrayData
returns-in-ArrayData g c = rw c.in-ArrayData.is c.encode_array_data.ensures
