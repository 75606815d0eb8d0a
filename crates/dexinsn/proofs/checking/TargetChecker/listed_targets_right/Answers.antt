use Rattle.dexinsn.proofs.Common.{◌+◌, ◌-◌, ◌*◌, true, false, rules, sym, ◌∙◌, arith, SFits, w32, begins_instruction}
use Rattle.dexinsn.proofs.RightTargets.{do_target-more, place_is}
use Rattle.dexinsn.proofs.Placed.{test_is}
use Rattle.dexinsn.proofs.checking.TargetChecker.listed_targets_right.Goals as goal

pub returns-then-not-has_place : goal.returns-then-not-has_place
returns-then-not-has_place c = λ cs bits.
    let fits : SFits w32 c.int_at-offset.result = search rules in
    sym (c.loop-i.invariant cs bits
    ∙ do_target-more c.args.self.now.units.now cs c.args.at (c.args.first + 2 * c.loop-i.i) (c.args.first + 2 * (c.loop-i.i + 1)) (c.args.count - c.loop-i.i) (c.args.count - (c.loop-i.i + 1)) _ false (omega arith) (omega arith)
    (place_is c.args.at _ c.int_at-offset.result c.from.result (omega (arith, c.requires.small, c.requires.from)) fits c.int_at-offset.ensures c.from.ensures) (sym (test_is begins_instruction c.args.self.now.units.now cs c.args.self.now.starts.now _ c.has_place.result c.has_place.ensures bits) ∙ c.if-not-has_place.true))

pub loop-i-preserved : goal.loop-i-preserved
loop-i-preserved c = λ cs bits.
    let fits : SFits w32 c.int_at-offset.result = search rules in
    c.loop-i.invariant cs bits
    ∙ do_target-more c.args.self.now.units.now cs c.args.at (c.args.first + 2 * c.loop-i.i) (c.args.first + 2 * (c.loop-i.i + 1)) (c.args.count - c.loop-i.i) (c.args.count - (c.loop-i.i + 1)) _ true (omega arith) (omega arith)
    (place_is c.args.at _ c.int_at-offset.result c.from.result (omega (arith, c.requires.small, c.requires.from)) fits c.int_at-offset.ensures c.from.ensures) (sym (test_is begins_instruction c.args.self.now.units.now cs c.args.self.now.starts.now _ c.has_place.result c.has_place.ensures bits) ∙ c.if-not-has_place.false)
