use Rattle.dexrows.proofs.Common.{◌∙◌, ◌/◌, length, sym, ap, length-ushorts_at}
use Rattle.dexrows.specs.Listed.{numbers_in}
use Rattle.dexrows.proofs.type_numbers.TypeNumbers.len.Goals as goal

pub returns-in-Shorts : goal.returns-in-Shorts
returns-in-Shorts c =
    sym (length-ushorts_at c.in-Shorts.bytes.now 0 (length c.in-Shorts.bytes.now / 2)) ∙ ap length (sym (ap numbers_in c.in-Shorts.is) ∙ c.self.view_is)
