use Rattle.dexids.proofs.Common.{◌≡◌, ◌∙◌, ◌+◌, ◌/◌, min, length, drop, get_or, sym, arith, nat_cmp, key_cmp, length-ushorts_at, key_at, key_differs, key_agrees, key_ended, file_numbers}
use Rattle.dexids.proofs.lists.compare_numbers.Goals as goal

pub loop-i-preserved : goal.loop-i-preserved
loop-i-preserved c =
    let xs = file_numbers c.args.left.now in
    let ys = file_numbers c.args.right.now in
    let xs_long = length-ushorts_at c.args.left.now 0 (length c.args.left.now / 2) in
    let ys_long = length-ushorts_at c.args.right.now 0 (length c.args.right.now / 2) in
    let i = c.loop-i.i in
    let order : c.cmp.result ≡ nat_cmp (get_or xs i 0) (get_or ys i 0) = c.cmp.ensures ∙ (λ k. nat_cmp (c.number_at.ensures k) (c.number_at-in-loop-i.ensures k)) in
    sym (key_agrees (nat_cmp (get_or xs i 0) (get_or ys i 0)) (key_cmp (drop (i + 1) xs) (drop (i + 1) ys)) (sym order ∙ c.in-Equal.is)) ∙ sym (key_at xs ys i 0 (omega (arith, c.loop-i-test.true, xs_long)) (omega (arith, c.loop-i-test.true, ys_long))) ∙ c.loop-i.invariant

pub returns-in_default : goal.returns-in_default
returns-in_default c =
    let xs = file_numbers c.args.left.now in
    let ys = file_numbers c.args.right.now in
    let xs_long = length-ushorts_at c.args.left.now 0 (length c.args.left.now / 2) in
    let ys_long = length-ushorts_at c.args.right.now 0 (length c.args.right.now / 2) in
    let i = c.loop-i.i in
    let order : c.cmp.result ≡ nat_cmp (get_or xs i 0) (get_or ys i 0) = c.cmp.ensures ∙ (λ k. nat_cmp (c.number_at.ensures k) (c.number_at-in-loop-i.ensures k)) in
    sym (key_differs (nat_cmp (get_or xs i 0) (get_or ys i 0)) c.cmp.result (key_cmp (drop (i + 1) xs) (drop (i + 1) ys)) (sym order) c.in_default.not-Equal) ∙ sym (key_at xs ys i 0 (omega (arith, c.loop-i-test.true, xs_long)) (omega (arith, c.loop-i-test.true, ys_long))) ∙ c.loop-i.invariant

pub returns : goal.returns
returns c =
    let xs = file_numbers c.args.left.now in
    let ys = file_numbers c.args.right.now in
    let xs_long = length-ushorts_at c.args.left.now 0 (length c.args.left.now / 2) in
    let ys_long = length-ushorts_at c.args.right.now 0 (length c.args.right.now / 2) in
    let end : c.loop-i.i ≡ min (length xs) (length ys) = omega (arith, c.loop-i-test.false, xs_long, ys_long) in
    c.cmp-2.ensures ∙ (λ k. nat_cmp (sym xs_long k) (sym ys_long k)) ∙ key_ended xs ys c.loop-i.i end ∙ c.loop-i.invariant
