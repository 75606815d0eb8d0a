use Rattle.dexmembers.proofs.Common.{sym}
use Rattle.dexmembers.proofs.DataOfFile.{data_returned, refusal_returned}
use Rattle.dexmembers.proofs.class_data.read_class_data.Goals as goal

pub returns-clause-read : goal.returns-clause-read
returns-clause-read c = λ r row pools class.
    data_returned c.args.frame.now c.args.pools.now c.numbering.result.now r c.args.row.now.class_idx c.args.row.now.class_data_off c.bytes-bytes.result.now pools c.numbering.ensures c.is_numbering.ensures
    (sym row.class_is) (sym row.class_data_is) c.bytes-bytes.ensures.bytes c.if-off-eq0.false class (c.is_in_data.ensures.0 c.if-not-is_in_data.false) c.read_data.result c.read_data.ensures.«data»

pub returns-clause-refused : goal.returns-clause-refused
returns-clause-refused c = λ r row pools.
    refusal_returned c.args.frame.now c.args.pools.now c.numbering.result.now r c.args.row.now.class_idx c.args.row.now.class_data_off c.bytes-bytes.result.now pools c.numbering.ensures c.is_numbering.ensures
    (sym row.class_is) (sym row.class_data_is) c.bytes-bytes.ensures.bytes c.if-off-eq0.false c.bytes-bytes.ensures.frame c.read_data.result c.read_data.ensures.fault
