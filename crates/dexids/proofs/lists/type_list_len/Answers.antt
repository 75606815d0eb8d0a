use Rattle.dexids.proofs.Common.{◌≡◌, ℕ, ◌+◌, ◌*◌, List, drop, sym, ◌∙◌, subst, arith, false≢true, uint_at}
use Rattle.dexspec.specs.Sections.{IsInData}
use Rattle.std.specs.Prelude.{MatchOption}
use Rattle.dexids.specs.Reading.{HasRoom}
use Rattle.dexids.proofs.Tested.{by_test}
use Rattle.dexids.proofs.Bytes.{uint_at_rest}
use Rattle.dexids.proofs.lists.type_list_len.Goals as goal

count_is : (b rest : List ℕ) (off n : ℕ) → n ≡ uint_at rest 0 → rest ≡ drop off b → n ≡ uint_at b off
count_is b rest off n e is = e ∙ uint_at_rest b rest off 0 off is (omega arith)

pub returns : goal.returns
returns c =
    let count = count_is c.args.frame.now c.rest.result.now c.args.off _ c.u32_at-count.ensures c.rest.ensures in
    by_test (λ r. MatchOption r ((n : ℕ) → HasRoom c.args.frame.now c.args.off n → ⊥) (HasRoom c.args.frame.now c.args.off)) c.u32_at-count.result c.is_in_data-2.result c.then_some.result c.then_some.ensures
    (λ yes. record { count = count; in_data = subst (λ m. IsInData c.args.frame.now c.args.off (4 + 2 * m)) (c.from.ensures ∙ count) (c.is_in_data-2.ensures.0 yes); aligned = omega arith })
    (λ no n h. false≢true (sym no ∙ c.is_in_data-2.ensures.1 (subst (λ m. IsInData c.args.frame.now c.args.off (4 + 2 * m)) (sym (c.from.ensures ∙ count)) h.in_data)))
