use Rattle.dexinsn.proofs.Common.{◌/◌, ◌+◌, ap, begins_instruction, is_noted}
use Rattle.dexinsn.proofs.Passed.{none_bits}
use Rattle.dexinsn.proofs.checking.check_units.Goals as goal

pub check_with-requires-clause-starts : goal.check_with-requires-clause-starts
check_with-requires-clause-starts c = none_bits begins_instruction c.of_bytes-units.result c.wipe.new.words.items (c.len.result / 64 + 2) (ap (λ n. n / 64 + 2) c.len.ensures.len) c.in_ok-wipe.ensures

pub check_with-requires-clause-noted : goal.check_with-requires-clause-noted
check_with-requires-clause-noted c = none_bits is_noted c.of_bytes-units.result c.wipe-2.new.words.items (c.len.result / 64 + 2) (ap (λ n. n / 64 + 2) c.len.ensures.len) c.in_ok-wipe-2.ensures
