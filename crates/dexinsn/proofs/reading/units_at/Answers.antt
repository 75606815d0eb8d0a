use Rattle.dexinsn.proofs.Common.{◌≡◌, ◌+◌, ◌*◌, true, false, sym, ap, drop, subst, arith, ◌∙◌, IsInData}
use Rattle.dexinsn.proofs.CodeRead.{no_room, units_there}
use Rattle.dexinsn.proofs.reading.units_at.Goals as goal

pub returns-then-not-is_in_data-2 : goal.returns-then-not-is_in_data-2
returns-then-not-is_in_data-2 c =
    no_room c.args.frame.now c.args.off c.u32_at-count.result (rw c.rest-code.ensures at c.u32_at-count.ensures)
    (λ room. let yes : c.is_in_data-2.result ≡ true = c.is_in_data-2.ensures.1 (subst (λ n. IsInData c.args.frame.now c.args.off (16 + 2 * n)) (sym c.from.ensures) room) in
    let both : true ≡ false = sym yes ∙ c.if-not-is_in_data-2.true in cc)

pub returns : goal.returns
returns c =
    let room : IsInData c.args.frame.now c.args.off (16 + 2 * c.u32_at-count.result) = subst (λ n. IsInData c.args.frame.now c.args.off (16 + 2 * n)) c.from.ensures (c.is_in_data-2.ensures.0 c.if-not-is_in_data-2.false) in
    units_there c.args.frame.now c.args.off c.u32_at-count.result c.split_at.result.1.now c.split_at-2.result.0.now (rw c.rest-code.ensures at c.u32_at-count.ensures) (omega arith) (omega arith) room
    (c.split_at.ensures.back ∙ ap (drop 16) c.rest-code.ensures) c.split_at-2.ensures.front
