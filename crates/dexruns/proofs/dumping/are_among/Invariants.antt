use Rattle.std.proofs.Common.{◌≡◌, map, take, string_bytes}
use Rattle.dexruns.specs.Listings.{is_among}
use Rattle.dexruns.proofs.dumping.are_among.Given as goal

-- the flags of the texts so far
abbrev pub invariant-loop-text : goal.invariant-loop-text
invariant-loop-text l = l.flags.items ≡ map (is_among (map string_bytes l.others)) (map string_bytes (take l.text-index l.texts))
