use Rattle.dexclass.proofs.Common.{ℕ, ◌∙◌, ◌*◌, ap, take, drop, length, arith, length-drop}
use Rattle.dexclass.proofs.Interfaces.{list_within, listed_within, none_listed, listed_bytes}
use Rattle.dexclass.proofs.interface_lists.listed_bytes.Goals as goal

pub returns-then-count-eq0 : goal.returns-then-count-eq0
returns-then-count-eq0 c = none_listed c.args.frame.now c.args.off c.args.count c.requires.list c.requires.count c.if-count-eq0.true

pub rest-requires : goal.rest-requires
rest-requires c = list_within c.args.frame.now c.args.off c.args.count c.requires.list c.requires.count

pub split_at-requires : goal.split_at-requires
split_at-requires c = omega (arith, ap length c.rest.ensures ∙ length-drop {A = ℕ} c.args.off c.args.frame.now, listed_within c.args.frame.now c.args.off c.args.count c.requires.list c.requires.count c.if-count-eq0.false)

pub split_at-requires-2 : goal.split_at-requires-2
split_at-requires-2 c = omega (arith, ap length c.rest.ensures ∙ length-drop {A = ℕ} c.args.off c.args.frame.now, listed_within c.args.frame.now c.args.off c.args.count c.requires.list c.requires.count c.if-count-eq0.false, c.split_at.ensures.back_len)

pub returns : goal.returns
returns c =
    listed_bytes c.args.frame.now c.args.off c.args.count c.requires.list c.requires.count c.split_at-2.result.0.now c.if-count-eq0.false
    (c.split_at-2.ensures.front ∙ ap (take (2 * c.args.count)) (c.split_at.ensures.back ∙ ap (drop 4) c.rest.ensures))
