use Rattle.std.proofs.Common.{rules}
use Rattle.std.specs.Prelude.{◌/◌}
use Rattle.dexclass.proofs.Common.{◌≡◌, ◌+◌, ◌-◌, List, ℕ, length, take, drop, ap, ◌∙◌, arith, ushorts_at}
use Rattle.dexclass.proofs.interface_lists.are_shorts_at.Goals as goal

pub returns : goal.returns
returns c = λ yes.
    let whole = c.args.whole.now in
    let list = c.args.list.now in
    let place = c.args.place in
    let part : list ≡ c.shorts_between.result.now = search rules in
    let count : place + length list / 2 - place ≡ length list / 2 = omega arith in
    ap (λ (l : List ℕ). ushorts_at l 0 (length l / 2)) part ∙ c.shorts_between.ensures ∙ (λ k. take (count k) (drop place (ushorts_at whole 0 (length whole / 2))))
