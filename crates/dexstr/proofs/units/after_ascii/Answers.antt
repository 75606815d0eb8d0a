use Rattle.dexstr.proofs.Common.{rules, get_or, IsAscii}
use Rattle.dexstr.proofs.Ascii.{four_ascii}
use Rattle.dexstr.proofs.units.after_ascii.Goals as goal

pub returns-in-1-to-127 : goal.returns-in-1-to-127
returns-in-1-to-127 c =
    let first : IsAscii (get_or c.args.bytes.now 0 0) = search rules in
    let second : IsAscii (get_or c.args.bytes.now 1 0) = search rules in
    let third : IsAscii (get_or c.args.bytes.now 2 0) = search rules in
    let fourth : IsAscii (get_or c.args.bytes.now 3 0) = search rules in
    four_ascii c.args.bytes.now c.in-1-to-127.len_at_least first second third fourth
