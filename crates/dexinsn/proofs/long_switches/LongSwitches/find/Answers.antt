use Rattle.dexinsn.proofs.long_switches.LongSwitches.find.Goals as goal

pub note-requires-clause-piece : goal.note-requires-clause-piece
note-requires-clause-piece c = c.requires.noted.pieces c.in-Some.unit c.in-Some.ensures.has
