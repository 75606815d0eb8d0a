use Rattle.dexids.proofs.Common.{◌∙◌, ◌*◌, ◌-◌, ◌/◌, length, ap, take, arith, length-ushorts_at}
use Rattle.dexids.proofs.FileLists.{bytes_of_part}
use Rattle.dexids.proofs.lists.file_part.Goals as goal

pub overflow_mul-span : goal.overflow_mul-span
overflow_mul-span c = let b = c.args.bytes.now in omega (arith, c.requires.ordered, c.requires.within, length-ushorts_at b 0 (length b / 2))

pub split_at-requires : goal.split_at-requires
split_at-requires c = let b = c.args.bytes.now in omega (arith, c.requires.ordered, c.requires.within, length-ushorts_at b 0 (length b / 2))

pub overflow_mul-span-2 : goal.overflow_mul-span-2
overflow_mul-span-2 c = let b = c.args.bytes.now in omega (arith, c.requires.ordered, c.requires.within, length-ushorts_at b 0 (length b / 2))

pub split_at-requires-2 : goal.split_at-requires-2
split_at-requires-2 c = let b = c.args.bytes.now in omega (arith, c.requires.ordered, c.requires.within, length-ushorts_at b 0 (length b / 2), c.split_at.ensures.back_len)

pub returns : goal.returns
returns c = let s = c.args.span in bytes_of_part c.args.bytes.now c.split_at-2.result.0.now s c.requires (c.split_at-2.ensures.front ∙ ap (take (2 * (s.end - s.start))) c.split_at.ensures.back)
