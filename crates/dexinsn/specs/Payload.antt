-- The kinds of payload of the code, as what they mean.
use Rattle.std.specs.Prelude.{ℕ}
use Rattle.dexspec.specs.Pieces.{packed_switch_ident, sparse_switch_ident, array_data_ident}
use Rattle.dexinsn.specs.declared.payload.PayloadKind.{PayloadKind}
use Rattle.dexinsn.specs.declared.payload.PayloadKind.TheVariants.{PackedSwitch, SparseSwitch, ArrayData}

-- the first unit of a payload of this kind
abbrev pub ident_of : PayloadKind → ℕ
ident_of PackedSwitch = packed_switch_ident
ident_of SparseSwitch = sparse_switch_ident
ident_of ArrayData = array_data_ident
