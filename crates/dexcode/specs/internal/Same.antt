-- What is equal once remapped: each side by a map of its own.
use Rattle.std.specs.Prelude.{◌≡◌, ℕ, ◌<◌, List, map, slice_index_or}
use Rattle.dexpool.specs.Numberings.{Maps}
use Rattle.dexcode.specs.declared.tries.Try.{Try}
use Rattle.dexcode.specs.Numbered.{NumberedHandler, no_handler}
use Rattle.dexcode.specs.Renumbering.{remapped_try, renumbered_handler}

-- two tries, each of whose handlers is in a list, are equal once remapped
abbrev pub EqualTries : Maps → List NumberedHandler → Try → Maps → List NumberedHandler → Try → Type 0
EqualTries r hs t s ks u = remapped_try r hs t ≡ remapped_try s ks u

-- two lists of tries are
abbrev pub SameTries : Maps → List NumberedHandler → List Try → Maps → List NumberedHandler → List Try → Type 0
SameTries r hs ts s ks us = map (remapped_try r hs) ts ≡ map (remapped_try s ks) us

-- the first `count` handlers of both lists are equal, one for one, once remapped
abbrev pub AreCompared : Maps → Maps → List NumberedHandler → List NumberedHandler → ℕ → Type 0
AreCompared r s hs ks count =
    (k : ℕ) → k < count
    → renumbered_handler r (slice_index_or hs k no_handler) ≡ renumbered_handler s (slice_index_or ks k no_handler)
