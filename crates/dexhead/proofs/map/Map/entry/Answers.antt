use Rattle.dexhead.proofs.Common.{◌∙◌, sym}
use Rattle.dexhead.proofs.Entries.{entry_of-entries, entry_is}
use Rattle.dexhead.proofs.map.Map.entry.Goals as goal

pub returns : goal.returns
returns c = entry_is c.u16_at.ensures c.u32_at.ensures c.u32_at-2.ensures ∙ sym (entry_of-entries c.args.self.now c.args.i c.requires)
