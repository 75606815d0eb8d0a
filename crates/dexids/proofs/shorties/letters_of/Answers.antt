use Rattle.dexids.proofs.Common.{ℕ, [], ◌∷◌, ◌++◌, map, ap, sym, ◌∙◌, map_more, take_all, shorty_letter, text_of}
use Rattle.dexids.proofs.shorties.letters_of.Goals as goal

pub loop-i-preserved : goal.loop-i-preserved
loop-i-preserved c = c.in_ok-push.ensures.items
    ∙ (λ k. c.loop-i.invariant k ++ c.byte_at.ensures k ∷ []) ∙ sym (map_more (λ (n : ℕ). shorty_letter (text_of c.args.names.now.strings.now n)) c.args.names.now.types.now c.loop-i.i 0 c.loop-i-test.true)

pub byte_at-requires-clause-row : goal.byte_at-requires-clause-row
byte_at-requires-clause-row c = c.loop-i-test.true

pub byte_at-requires-clause-names : goal.byte_at-requires-clause-names
byte_at-requires-clause-names c = c.requires

pub returns : goal.returns
returns c = c.loop-i.invariant ∙ ap (map (λ (n : ℕ). shorty_letter (text_of c.args.names.now.strings.now n))) (take_all c.loop-i.i c.args.names.now.types.now c.loop-i-test.false)
