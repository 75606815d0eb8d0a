use Rattle.std.proofs.Common.{rules}
use Rattle.clap.specs.Matches.{found_of}
use Rattle.dexargs.proofs.MatchLemmas.{first_is, no_first}
use Rattle.dexargs.proofs.words.is_set.Goals as goal

pub returns-in-Some : goal.returns-in-Some
returns-in-Some c = rw (first_is (found_of c.args.matches.now) c.args.id.now c.get_str.result c.get_str.ensures c.in-Some.value c.in-Some.is) (search rules)

pub returns-in-None : goal.returns-in-None
returns-in-None c = rw (no_first (found_of c.args.matches.now) c.args.id.now c.get_str.result c.get_str.ensures c.in-None.is) (search rules)
