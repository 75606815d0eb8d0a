use Rattle.dexinsn.proofs.Common.{ap, ◌∙◌, is_noted}
use Rattle.dexinsn.proofs.Passed.{bits_put}
use Rattle.dexinsn.proofs.checking.note.Goals as goal

pub returns-clause-noted : goal.returns-clause-noted
returns-clause-noted c = λ cs n.
    bits_put is_noted c.args.units.now cs (record { unit = c.args.at; units = n }) c.args.noted.now.items c.put_bit-2.new.words.items c.is_noted.result (c.is_noted.ensures ∙ ap is_noted c.at-first.ensures.is) c.requires.within c.put_bit-2.ensures.len c.put_bit-2.ensures.set c.put_bit-2.ensures.others
