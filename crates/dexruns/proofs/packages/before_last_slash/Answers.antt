use Rattle.std.proofs.Common.{◌≡◌, ◌∙◌, ◌++◌, ◌∷◌, ◌==◌, false, [], ap, arith, sym}
use Rattle.std.specs.Option.{unwrap_or}
use Rattle.std.specs.Prelude.{option_to_list}
use Rattle.std.proofs.lemmas.Bool.{ne_eqb}
use Rattle.dexruns.specs.Packages.{before_last_slash}
use Rattle.dexruns.proofs.PackageRows.{at_slash, past_other}
use Rattle.dexruns.proofs.packages.before_last_slash.Goals as goal
use Rattle.dexruns.proofs.packages.before_last_slash.Goals.{In-Some}

-- the units that are left, and the one that was last
whole : (c : In-Some) → c.loop-unit.units.items ≡ c.pop.new.self.items ++ c.in-Some.unit ∷ []
whole c = c.pop.ensures.items ∙ ap (λ o. c.pop.new.self.items ++ option_to_list o) c.in-Some.is

pub returns-then-unit-eq-SLASH : goal.returns-then-unit-eq-SLASH
returns-then-unit-eq-SLASH c =
    let slash : c.in-Some.unit ≡ 0x2f = omega (arith, c.if-unit-eq-SLASH.true) in
    ap (λ o. unwrap_or o []) (sym (ap before_last_slash (whole (goal.at.returns-then-unit-eq-SLASH c).In-Some) ∙ ap (λ u. before_last_slash (c.pop.new.self.items ++ u ∷ [])) slash ∙ at_slash c.pop.new.self.items)) ∙ c.loop-unit.invariant

pub loop-unit-preserved : goal.loop-unit-preserved
loop-unit-preserved c =
    let other : (c.in-Some.unit == 0x2f) ≡ false = ne_eqb c.in-Some.unit 0x2f (λ e. c.if-unit-eq-SLASH.false e) in
    ap (λ o. unwrap_or o []) (sym (ap before_last_slash (whole (goal.at.loop-unit-preserved c).In-Some) ∙ past_other c.pop.new.self.items c.in-Some.unit other)) ∙ c.loop-unit.invariant
