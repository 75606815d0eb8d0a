use Rattle.std.proofs.Common.{rules}
use Rattle.clap.specs.Matches.{found_of}
use Rattle.dexargs.proofs.MatchLemmas.{values_are, no_values}
use Rattle.dexargs.proofs.words.texts_of.Goals as goal

pub returns-in-Some : goal.returns-in-Some
returns-in-Some c = rw (values_are (found_of c.args.matches.now) c.args.id.now c.get_strs.result c.get_strs.ensures c.in-Some.texts c.in-Some.is) (search rules)

pub returns-in-None : goal.returns-in-None
returns-in-None c = rw (no_values (found_of c.args.matches.now) c.args.id.now c.get_strs.result c.get_strs.ensures c.in-None.is) (search rules)
