use Rattle.std.proofs.Common.{◌≡◌, map, take, string_bytes}
use Rattle.dexargs.proofs.words.copies.Given as goal

-- the texts before this one are copied
abbrev pub invariant-loop-text : goal.invariant-loop-text
invariant-loop-text l = map string_bytes l.copies.items ≡ map (λ text. text.now) (take l.text-index l.fn.texts)
