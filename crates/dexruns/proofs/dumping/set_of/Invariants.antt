use Rattle.std.proofs.Common.{◌≡◌, ℕ, List, map, take, string_bytes}
use Rattle.std.specs.List.{list_any}
use Rattle.std.specs.Ordering.{is_eq}
use Rattle.dexspec.specs.Texts.{text_cmp}
use Rattle.dexruns.specs.Listings.{is_among}
use Rattle.dexruns.proofs.dumping.set_of.Given as goal

-- the texts so far are there
abbrev pub invariant-loop-text : goal.invariant-loop-text
invariant-loop-text l = (text : List ℕ) → list_any (λ key. is_eq (text_cmp text key.now)) l.set.keys ≡ is_among (map string_bytes (take l.text-index l.texts)) text
