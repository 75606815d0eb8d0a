use Rattle.dexlayout.proofs.Common.{◌≡◌, map, drop, length, Some, string_data, none_from, place_uses}
use Rattle.dexlayout.proofs.data.place_strings.Given as goal

abbrev pub invariant-loop-i : goal.invariant-loop-i
invariant-loop-i l = place_uses 1 l.places (map (λ s. Some (length (string_data s))) (drop l.i l.numbering.texts)) ≡ place_uses 1 (none_from l.fn.from) (map (λ s. Some (length (string_data s))) l.numbering.texts)
