use Rattle.dexstr.proofs.Common.{◌≡◌, ◌∙◌, length, min, arith}
use Rattle.dexstr.proofs.ByBytes.{ended, text_order}
use Rattle.dexstr.proofs.texts.TextOrd.cmp.Goals as goal

pub loop-i-init : goal.loop-i-init
loop-i-init c = c.after_common_groups.ensures ∙ text_order c.self.inside.bytes.now c.other.inside.bytes.now c.args.self.now c.args.other.now c.self.invariant.spelled c.other.invariant.spelled c.self.view_is c.other.view_is

pub returns : goal.returns
returns c =
    let left = c.after_common_groups.result.0.now in
    let right = c.after_common_groups.result.1.now in
    let end : c.loop-i.i ≡ min (length left) (length right) = omega arith in
    c.cmp-2.ensures ∙ ended left right c.loop-i.i end ∙ c.loop-i.invariant
