use Rattle.dexhead.proofs.Common.{arith, entries}
use Rattle.dexhead.proofs.Entries.{length-entries, not_above, begins_first}
use Rattle.dexhead.proofs.map.Map.begins_with_header.Goals as goal

pub returns-else-self-gt0 : goal.returns-else-self-gt0
returns-else-self-gt0 c = (λ x. absurd (not_above c.args.self.now.count c.if-self-gt0.false x), λ h. absurd (omega (arith, length-entries c.args.self.now, (begins_first (entries c.args.self.now) h).0)))
