use Rattle.std.proofs.Common.{◌≡◌, map, string_bytes}
use Rattle.std.specs.List.{filter}
use Rattle.dexargs.specs.Lists.{is_argument}
use Rattle.dexargs.proofs.lists.arguments_between_zeros.Given as goal

-- the names read so far that are not empty
abbrev pub invariant-loop-name : goal.invariant-loop-name
invariant-loop-name l =
    map string_bytes l.arguments.items ≡ filter is_argument (map (λ name. name.now) l.yielded)
