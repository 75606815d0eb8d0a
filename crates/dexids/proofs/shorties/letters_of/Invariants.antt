use Rattle.dexids.proofs.Common.{◌≡◌, map, take, shorty_letter, text_of}
use Rattle.dexids.proofs.shorties.letters_of.Given as goal

abbrev pub invariant-loop-i : goal.invariant-loop-i
invariant-loop-i l = l.letters.items ≡ map (λ n. shorty_letter (text_of l.names.strings.now n)) (take l.i l.names.types.now)
