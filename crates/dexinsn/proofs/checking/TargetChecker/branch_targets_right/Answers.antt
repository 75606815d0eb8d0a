use Rattle.dexinsn.proofs.Common.{refl, rules, arith, SFits, w32, format_of, ident_of, begins_instruction}
use Rattle.dexinsn.proofs.RightTargets.{branches-payload, branches-other, place_is}
use Rattle.dexinsn.proofs.Placed.{test_is, format_other, format_switch}
use Rattle.dexinsn.proofs.checking.TargetChecker.branch_targets_right.Goals as goal

pub returns-in-Format31t : goal.returns-in-Format31t
returns-in-Format31t c = λ cs starts noted.
    let fits : SFits w32 c.in-Some.offset = search rules in
    branches-payload c.args.self.now.units.now cs c.args.at (format_of c.args.format) (ident_of c.payload_kind_of-kind.result) c.in-Some.offset _ c.payload_targets_right.result (format_switch c.args.format c.in-Format31t.is) c.in-Some.ensures
    (place_is c.args.at c.in-Some.offset c.in-Some.offset c.from.result (omega (arith, c.requires.small, c.requires.from)) fits refl c.from.ensures) (search rules)
    (c.payload_targets_right.ensures cs starts noted)

pub returns-in_default : goal.returns-in_default
returns-in_default c = λ cs starts noted.
    let fits : SFits w32 c.in-Some.offset = search rules in
    branches-other c.args.self.now.units.now cs c.args.at (format_of c.args.format) c.in-Some.offset _ c.has_place.result (format_other c.args.format c.in_default.not-Format31t) c.in-Some.ensures
    (place_is c.args.at c.in-Some.offset c.in-Some.offset c.from.result (omega (arith, c.requires.small, c.requires.from)) fits refl c.from.ensures)
    (test_is begins_instruction c.args.self.now.units.now cs c.args.self.now.starts.now _ c.has_place.result c.has_place.ensures starts)
