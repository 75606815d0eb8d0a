use Rattle.dexids.proofs.Common.{◌∙◌, ap, arith, length, sym, length-map}
use Rattle.dexids.proofs.Spellings.{spell_more, spell_not}
use Rattle.dexids.proofs.shorties.are_letters.Goals as goal

pub loop-i-preserved : goal.loop-i-preserved
loop-i-preserved c = spell_more c.args.letters.now c.args.units.now c.args.numbers.now c.loop-i.i c.at.result c.loop-i-test.true (omega (arith, c.loop-i-test.true, c.if-units-len.false, c.len.ensures)) c.at.ensures
    c.is_letter.result c.is_letter.ensures c.if-not-is_letter.false c.loop-i.invariant

pub returns-then-not-is_letter : goal.returns-then-not-is_letter
returns-then-not-is_letter c = spell_not c.args.letters.now c.args.units.now c.args.numbers.now c.loop-i.i c.at.result c.loop-i-test.true (omega (arith, c.loop-i-test.true, c.if-units-len.false, c.len.ensures)) c.at.ensures
    c.is_letter.result c.is_letter.ensures c.if-not-is_letter.true c.loop-i.invariant

pub returns-then-units-len : goal.returns-then-units-len
returns-then-units-len c = (λ t. absurd cc, λ s. absurd (c.if-units-len.true (ap length s.units_are ∙ length-map c.args.numbers.now _ ∙ sym c.len.ensures)))
