use Rattle.std.proofs.Common.{◌≡◌, map, string_bytes}
use Rattle.std.specs.List.{filter}
use Rattle.dexargs.specs.Lists.{is_argument}
use Rattle.dexargs.proofs.lists.arguments_of_lines.Given as goal

-- the lines read so far that are not empty
abbrev pub invariant-loop-line : goal.invariant-loop-line
invariant-loop-line l =
    map string_bytes l.arguments.items ≡ filter is_argument (map (λ line. line.now) l.yielded)
