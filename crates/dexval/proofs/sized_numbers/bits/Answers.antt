use Rattle.dexval.proofs.Common.{◌∙◌, ℕ, ◌-◌, ◌*◌, ◌^◌, ◌<◌, length, arith, ap, subst, sym}
use Rattle.dexval.proofs.Spelled.{shifted, shifted_room}
use Rattle.dexval.proofs.sized_numbers.bits.Goals as goal

pub returns-clause-value : goal.returns-clause-value
returns-clause-value c =
    let n = length c.args.bytes.now in
    shifted c.args.width n c.unsigned.result c.requires.few c.requires.width (c.unsigned.ensures.room n (omega arith)) ∙ ap (λ (x : ℕ). 256 ^ (c.args.width - n) * x) c.unsigned.ensures.value

pub returns-clause-room : goal.returns-clause-room
returns-clause-room c =
    let n = length c.args.bytes.now in
    let lt = c.unsigned.ensures.room n (omega arith) in
    subst (λ (x : ℕ). x < 256 ^ c.args.width) (sym (shifted c.args.width n c.unsigned.result c.requires.few c.requires.width lt)) (shifted_room c.args.width n c.unsigned.result c.requires.few lt)
