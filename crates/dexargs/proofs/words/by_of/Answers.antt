use Rattle.std.proofs.Common.{rules, ◌≡◌, ◌∙◌, Some, None, true, false, ap, codes, if◌then◌else◌}
use Rattle.std.specs.Option.{option_map_or}
use Rattle.std.specs.Str.{bytes_eq}
use Rattle.clap.specs.Matches.{found_of}
use Rattle.dexargs.specs.Asked.{by_value}
use Rattle.dexargs.proofs.MatchLemmas.{first_is, no_first}
use Rattle.dexargs.proofs.words.by_of.Goals as goal

pub returns-in-None : goal.returns-in-None
returns-in-None c = ap (λ o. option_map_or by_value o (Some false)) (no_first (found_of c.args.matches.now) (codes "by") c.get_str.result c.get_str.ensures c.in-None.is)

pub returns-in-Some-package : goal.returns-in-Some-package
returns-in-Some-package c =
    let is : bytes_eq c.in-Some-package.field-0.now (codes "package") ≡ true = search rules in
    ap (λ o. option_map_or by_value o (Some false)) (first_is (found_of c.args.matches.now) (codes "by") c.get_str.result c.get_str.ensures c.in-Some-package.field-0 c.in-Some-package.is)
    ∙ ap (λ b. if b then Some true else None) is

pub returns-in-Some : goal.returns-in-Some
returns-in-Some c = λ h.
    let other : bytes_eq c.in-Some.field-0.now (codes "package") ≡ false = search rules in
    ap (λ o. option_map_or by_value o (Some false)) (first_is (found_of c.args.matches.now) (codes "by") c.get_str.result c.get_str.ensures c.in-Some.field-0 c.in-Some.is)
    ∙ ap (λ b. if b then Some true else None) other
