use Rattle.dexrows.proofs.Common.{◌≡◌, ◌∙◌, ◌+◌, min, length, drop, get_or, sym, arith, nat_cmp, key_cmp}
use Rattle.dexrows.proofs.Shorts.{key_at, key_differs, key_agrees, key_ended}
use Rattle.dexrows.proofs.type_numbers.TypeNumbers.compare.Goals as goal

pub loop-i-preserved : goal.loop-i-preserved
loop-i-preserved c =
    let xs = c.args.self.now in
    let ys = c.args.other.now in
    let i = c.loop-i.i in
    sym (key_agrees (nat_cmp (get_or xs i 0) (get_or ys i 0)) (key_cmp (drop (i + 1) xs) (drop (i + 1) ys)) (sym (c.cmp.ensures ∙ (λ k. nat_cmp (c.at.ensures k) (c.at-in-loop-i.ensures k))) ∙ c.in-Equal.is)) ∙ sym (key_at xs ys i 0 (omega arith) (omega arith)) ∙ c.loop-i.invariant

pub returns-in_default : goal.returns-in_default
returns-in_default c =
    let xs = c.args.self.now in
    let ys = c.args.other.now in
    let i = c.loop-i.i in
    sym (key_differs (nat_cmp (get_or xs i 0) (get_or ys i 0)) c.cmp.result (key_cmp (drop (i + 1) xs) (drop (i + 1) ys)) (sym (c.cmp.ensures ∙ (λ k. nat_cmp (c.at.ensures k) (c.at-in-loop-i.ensures k)))) c.in_default.not-Equal) ∙ sym (key_at xs ys i 0 (omega arith) (omega arith)) ∙ c.loop-i.invariant

pub returns : goal.returns
returns c =
    let end : c.loop-i.i ≡ min (length c.args.self.now) (length c.args.other.now) = omega arith in
    c.cmp-2.ensures ∙ (λ k. nat_cmp (c.len-3.ensures k) (c.len-4.ensures k)) ∙ key_ended c.args.self.now c.args.other.now c.loop-i.i end ∙ c.loop-i.invariant
