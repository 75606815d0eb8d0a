use Rattle.std.proofs.Common.{rules, ◌∙◌, sym, ap, Some}
use Rattle.clap.specs.Matches.{found_of}
use Rattle.dexargs.proofs.MatchLemmas.{first_is, no_first}
use Rattle.dexargs.proofs.words.text_of.Goals as goal

pub returns-in_ok-from_str-in-Some : goal.returns-in_ok-from_str-in-Some
returns-in_ok-from_str-in-Some c =
    first_is (found_of c.args.matches.now) c.args.id.now c.get_str.result c.get_str.ensures c.in-Some.text c.in-Some.is
    ∙ ap Some (search rules)

pub returns-in-None : goal.returns-in-None
returns-in-None c h = no_first (found_of c.args.matches.now) c.args.id.now c.get_str.result c.get_str.ensures c.in-None.is
