use Rattle.dexstr.proofs.Common.{rules, get_or, IsAscii}
use Rattle.dexstr.proofs.Ascii.{one_ascii}
use Rattle.dexstr.proofs.units.after_ascii_unit.Goals as goal

pub returns-in-1-to-127 : goal.returns-in-1-to-127
returns-in-1-to-127 c =
    let first : IsAscii (get_or c.args.bytes.now 0 0) = search rules in
    one_ascii c.args.bytes.now c.in-1-to-127.len_at_least first
