use Rattle.dexinsn.proofs.Common.{◌/◌, refl, arith}
use Rattle.dexinsn.proofs.NextBits.{none_left, word_done, word_has}
use Rattle.dexinsn.proofs.start_bits.next_bit.Goals as goal

pub returns-then-rest-ne0 : goal.returns-then-rest-ne0
returns-then-rest-ne0 c = word_has c.args.words.now c.args.from c.loop-at.at _ c.loop-at.invariant refl (omega (arith, c.if-rest-ne0.true)) (omega (arith, c.type_inv.words (c.loop-at.at / 64)))

pub loop-at-preserved : goal.loop-at-preserved
loop-at-preserved c = word_done c.args.words.now c.args.from c.loop-at.at c.loop-at.invariant c.if-rest-ne0.false

pub returns : goal.returns
returns c = none_left c.args.words.now c.args.from c.loop-at.at c.loop-at.invariant (omega arith)
