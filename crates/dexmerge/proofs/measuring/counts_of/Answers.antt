use Rattle.dexmerge.proofs.Common.{arith}
use Rattle.dexmerge.specs.{classes_of}
use Rattle.dexmerge.proofs.Counting.{within_texts}
use Rattle.dexmerge.proofs.measuring.counts_of.Goals as goal

pub above_it-requires : goal.above_it-requires
above_it-requires c = omega (arith, within_texts c.args.numbering.now (classes_of c.args.classes.now) c.greatest_short_string.result c.requires.known c.greatest_short_string.ensures, c.count-strings.ensures)
