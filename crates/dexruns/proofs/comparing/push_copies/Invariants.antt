use Rattle.dexruns.proofs.Common.{◌≡◌, ◌++◌, ◌∷◌, map, take, string_bytes, flat_map}
use Rattle.dexruns.specs.Comparisons.{copy_line}
use Rattle.dexruns.proofs.comparing.push_copies.Given as goal

-- the lines of the first copy and of the others so far are there
abbrev pub invariant-loop-copy : goal.invariant-loop-copy
invariant-loop-copy l = record {
  printed : string_bytes l.text ≡ string_bytes l.fn.text ++ flat_map (copy_line l.form (map (λ file. file.now) l.files) l.name) (l.fn.copies.first ∷ take l.copy-index l.copies.others.items);
}
