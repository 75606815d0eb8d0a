use Rattle.dexinsn.proofs.Common.{◌≡◌, ◌+◌, ◌<◌, Bool, length, drop, get_or, ap, sym, ◌∙◌, subst, arith, is_wide_index, after_index, Follow, Agree, AgreeBeside}
use Rattle.dexinsn.specs.{units_in}
use Rattle.dexinsn.proofs.Halves.{length_from}
use Rattle.dexinsn.proofs.PutUnits.{Next, next_index}
use Rattle.dexinsn.proofs.SameSteps.{beside_next, beside_before, beside_last, last_beside}
use Rattle.dexinsn.proofs.same.agree_beside.Goals as goal

pub agree-requires-clause-within : goal.agree-requires-clause-within
agree-requires-clause-within c =
    let n : Next (units_in c.args.bytes.now) c.loop-index.from (get_or c.args.indices.now c.loop-index.index-index (record { unit = 0; number = 0 })) (drop (c.loop-index.index-index + 1) c.args.indices.now) = next_index (units_in c.args.bytes.now) c.loop-index.from c.args.indices.now c.loop-index.index-index (record { unit = 0; number = 0 }) c.loop-index-test.true c.loop-index.invariant.follow in
    omega (arith, n.inside, length_from c.args.bytes.now)

pub agree-requires-clause-others : goal.agree-requires-clause-others
agree-requires-clause-others c =
    let n : Next (units_in c.args.bytes.now) c.loop-index.from (get_or c.args.indices.now c.loop-index.index-index (record { unit = 0; number = 0 })) (drop (c.loop-index.index-index + 1) c.args.indices.now) = next_index (units_in c.args.bytes.now) c.loop-index.from c.args.indices.now c.loop-index.index-index (record { unit = 0; number = 0 }) c.loop-index-test.true c.loop-index.invariant.follow in
    omega (arith, n.inside, c.requires.count, length_from c.args.others.now)

pub is_wide_at-requires : goal.is_wide_at-requires
is_wide_at-requires c =
    let n : Next (units_in c.args.bytes.now) c.loop-index.from (get_or c.args.indices.now c.loop-index.index-index (record { unit = 0; number = 0 })) (drop (c.loop-index.index-index + 1) c.args.indices.now) = next_index (units_in c.args.bytes.now) c.loop-index.from c.args.indices.now c.loop-index.index-index (record { unit = 0; number = 0 }) c.loop-index-test.true c.loop-index.invariant.follow in
    subst (λ us. (get_or c.args.indices.now c.loop-index.index-index (record { unit = 0; number = 0 })).unit < length us) (sym c.of_bytes-units.ensures) (omega (arith, n.inside))

pub agree-requires-2-clause-within : goal.agree-requires-2-clause-within
agree-requires-2-clause-within c = omega (arith, length_from c.args.bytes.now, c.len.ensures.len ∙ ap length c.of_bytes-units.ensures)

pub agree-requires-2-clause-others : goal.agree-requires-2-clause-others
agree-requires-2-clause-others c = omega (arith, length_from c.args.others.now, c.requires.count, c.len.ensures.len ∙ ap length c.of_bytes-units.ensures)

pub loop-index-preserved : goal.loop-index-preserved
loop-index-preserved c =
    let n : Next (units_in c.args.bytes.now) c.loop-index.from (get_or c.args.indices.now c.loop-index.index-index (record { unit = 0; number = 0 })) (drop (c.loop-index.index-index + 1) c.args.indices.now) = next_index (units_in c.args.bytes.now) c.loop-index.from c.args.indices.now c.loop-index.index-index (record { unit = 0; number = 0 }) c.loop-index-test.true c.loop-index.invariant.follow in
    let w : c.is_wide_at.result ≡ is_wide_index (drop (get_or c.args.indices.now c.loop-index.index-index (record { unit = 0; number = 0 })).unit (units_in c.args.bytes.now)) = rw c.of_bytes-units.ensures at c.is_wide_at.ensures in
    let from : after_index (is_wide_index (drop (get_or c.args.indices.now c.loop-index.index-index (record { unit = 0; number = 0 })).unit (units_in c.args.bytes.now))) (get_or c.args.indices.now c.loop-index.index-index (record { unit = 0; number = 0 })).unit ≡ c.after_index-from.result =
    ap (λ (b : Bool). after_index b (get_or c.args.indices.now c.loop-index.index-index (record { unit = 0; number = 0 })).unit) (sym w) ∙ sym c.after_index-from.ensures in
    record {
      follow = subst (λ k. Follow (units_in c.args.bytes.now) k (drop (c.loop-index.index-index + 1) c.args.indices.now)) from n.later;
      onward = λ h. subst (λ k. AgreeBeside (units_in c.args.bytes.now) (units_in c.args.others.now) k (drop (c.loop-index.index-index + 1) c.args.indices.now)) from
          (beside_next (units_in c.args.bytes.now) (units_in c.args.others.now) c.loop-index.from c.args.indices.now c.loop-index.index-index (record { unit = 0; number = 0 }) c.loop-index-test.true (c.loop-index.invariant.onward h)).1;
      back = λ h. c.loop-index.invariant.back
          (beside_before (units_in c.args.bytes.now) (units_in c.args.others.now) c.loop-index.from c.args.indices.now c.loop-index.index-index (record { unit = 0; number = 0 }) c.loop-index-test.true (c.agree.ensures.0 c.if-not-agree.false)
          (subst (λ k. AgreeBeside (units_in c.args.bytes.now) (units_in c.args.others.now) k (drop (c.loop-index.index-index + 1) c.args.indices.now)) (sym from) h));
    }

pub returns-then-not-agree : goal.returns-then-not-agree
returns-then-not-agree c = (
  λ f. absurd cc,
  λ h. sym c.if-not-agree.true
      ∙ c.agree.ensures.1 (beside_next (units_in c.args.bytes.now) (units_in c.args.others.now) c.loop-index.from c.args.indices.now c.loop-index.index-index (record { unit = 0; number = 0 }) c.loop-index-test.true (c.loop-index.invariant.onward h)).0,
)

pub returns : goal.returns
returns c =
    let n : c.len.result ≡ length (units_in c.args.bytes.now) = c.len.ensures.len ∙ ap length c.of_bytes-units.ensures in (
      λ yes. c.loop-index.invariant.back
          (last_beside (units_in c.args.bytes.now) (units_in c.args.others.now) c.loop-index.from c.args.indices.now c.loop-index.index-index c.loop-index-test.false
          (subst (Agree (units_in c.args.bytes.now) (units_in c.args.others.now) c.loop-index.from) n (c.agree-2.ensures.0 yes))),
      λ h. c.agree-2.ensures.1
          (subst (Agree (units_in c.args.bytes.now) (units_in c.args.others.now) c.loop-index.from) (sym n)
          (beside_last (units_in c.args.bytes.now) (units_in c.args.others.now) c.loop-index.from c.args.indices.now c.loop-index.index-index c.loop-index-test.false (c.loop-index.invariant.onward h))),
    )
