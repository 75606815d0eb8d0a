use Rattle.dexpool.proofs.Common.{◌≡◌, ◌∙◌, sym, ap, ℕ, arith, min, length, get_or, nat_cmp, text_cmp}
use Rattle.dexpool.proofs.Ranking.{by_first, after_tie, cmp_at, cmp_ended}
use Rattle.dexpool.proofs.numbering.Numbering.compare_types.Goals as goal

pub returns-in_default : goal.returns-in_default
returns-in_default c = λ d.
    let here = c.compare_type.ensures d ∙ ap (λ (n : ℕ). text_cmp (get_or c.args.self.now.types n d) c.text.result) c.at.ensures ∙ ap (text_cmp (get_or c.args.self.now.types (get_or c.args.numbers.now c.loop-i.i 0) d)) (c.text.ensures ∙ c.index-descriptors-i.is) in
    by_first _ _ _ here c.in_default.not-Equal ∙ sym (cmp_at text_cmp (λ n. get_or c.args.self.now.types n d) c.args.numbers.now c.args.descriptors.now c.loop-i.i c.index-descriptors-i.result (omega arith) (omega arith)) ∙ c.loop-i.invariant d

pub loop-i-preserved : goal.loop-i-preserved
loop-i-preserved c = λ d.
    let here = c.compare_type.ensures d ∙ ap (λ (n : ℕ). text_cmp (get_or c.args.self.now.types n d) c.text.result) c.at.ensures ∙ ap (text_cmp (get_or c.args.self.now.types (get_or c.args.numbers.now c.loop-i.i 0) d)) (c.text.ensures ∙ c.index-descriptors-i.is) in
    sym (after_tie _ _ (sym here ∙ c.in-Equal.is)) ∙ sym (cmp_at text_cmp (λ n. get_or c.args.self.now.types n d) c.args.numbers.now c.args.descriptors.now c.loop-i.i c.index-descriptors-i.result (omega arith) (omega arith)) ∙ c.loop-i.invariant d

pub returns : goal.returns
returns c = λ d.
    let end : c.loop-i.i ≡ min (length c.args.numbers.now) (length c.args.descriptors.now) = omega arith in
    c.cmp.ensures ∙ ap (λ (n : ℕ). nat_cmp n (length c.args.descriptors.now)) c.len-2.ensures ∙ cmp_ended text_cmp (λ n. get_or c.args.self.now.types n d) c.args.numbers.now c.args.descriptors.now c.loop-i.i end ∙ c.loop-i.invariant d
