use Rattle.dexinsn.proofs.Common.{◌%◌, ◌^◌, ◌<◌, slice_index, ◌/◌, rules, refl, arith}
use Rattle.dexinsn.proofs.StartBits.{bits_of_word, bits_of_words}
use Rattle.dexinsn.proofs.start_bits.bits_from.Goals as goal

pub returns-then-shift-eq0 : goal.returns-then-shift-eq0
returns-then-shift-eq0 c = λ i lt. bits_of_word c.args.words.now c.args.unit (c.args.unit % 64) i refl c.if-shift-eq0.true lt

pub returns-else-shift-eq0 : goal.returns-else-shift-eq0
returns-else-shift-eq0 c = λ i lt.
    let small : slice_index c.args.words.now (c.args.unit / 64) < 2 ^ 64 = search rules in bits_of_words c.args.words.now c.args.unit (c.args.unit % 64) i refl (omega arith) small lt
