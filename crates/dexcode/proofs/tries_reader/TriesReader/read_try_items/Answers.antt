use Rattle.dexcode.proofs.Common.{◌≡◌, ◌∷◌, [], ◌++◌, ◌+◌, ◌*◌, refl, sym, subst, ◌∙◌, arith, length-append, Sequence, one_after, ListedTryAt}
use Rattle.dexcode.proofs.Prefixes.{stuck}
use Rattle.dexcode.proofs.TryTables.{one_listed_try, apart_more, overlap}
use Rattle.dexcode.proofs.tries_reader.TriesReader.read_try_items.Goals as goal

pub returns-in_default-clause-fault : goal.returns-in_default-clause-fault
returns-in_default-clause-fault c = (
  refl,
  λ ts n to many h apart. let at = ListedTryAt c.args.units c.args.numbers.now in
      stuck at (one_listed_try c.args.units c.args.numbers.now) c.args.self.now.bytes.now c.args.at c.loop.tries.items ts (8 * c.loop.counter) n
      (omega (arith, many, c.loop.invariant.2.many, c.loop-test.true)) c.loop.invariant.2.are_encoded
      (λ t k there. c.in_default.ensures.none t k (subst (λ i. at c.args.self.now.bytes.now i t k) (sym c.loop.invariant.0) there)) h,
)

pub returns-then-item-end-clause-fault : goal.returns-then-item-end-clause-fault
returns-then-item-end-clause-fault c = (
  refl,
  λ ts n to many h apart. let at = ListedTryAt c.args.units c.args.numbers.now in
      overlap c.args.units c.args.numbers.now c.args.self.now.bytes.now c.args.at c.loop.tries.items c.in-Some.item ts (8 * c.loop.counter) n c.loop.end to
      (omega (arith, many, c.loop.invariant.2.many, c.loop-test.true)) c.loop.invariant.2.are_encoded
      (subst (λ i. at c.args.self.now.bytes.now i c.in-Some.item 8) c.loop.invariant.0 c.in-Some.ensures.some) c.loop.invariant.2.apart (omega arith) h apart,
)

pub push_reserved-requires : goal.push_reserved-requires
push_reserved-requires c = omega (arith, c.loop.invariant.2.many, c.loop.invariant.3, c.loop.tries.ok.0, c.loop-test.true)

pub loop-preserved : goal.loop-preserved
loop-preserved c =
    let at = ListedTryAt c.args.units c.args.numbers.now in
    let pushed = c.push_reserved.ensures.items in
    let next : c.in-Some.item.start_addr + c.from-in-loop.result ≡ c.in-Some.item.start_addr + c.in-Some.item.insn_count = omega arith in
    let size : 8 * c.loop.counter + 8 ≡ 8 * (c.loop.counter + 1) = omega arith in
    let are_encoded = subst (λ n. Sequence at c.args.self.now.bytes.now c.args.at (c.loop.tries.items ++ c.in-Some.item ∷ []) n) size
    (one_after at c.args.self.now.bytes.now c.args.at c.loop.tries.items c.in-Some.item (8 * c.loop.counter) 8 c.loop.invariant.2.are_encoded
    (subst (λ i. at c.args.self.now.bytes.now i c.in-Some.item 8) c.loop.invariant.0 c.in-Some.ensures.some)) in
    let apart = apart_more 0 c.loop.end c.loop.tries.items c.in-Some.item c.loop.invariant.2.apart (omega arith) in (
      omega (arith, c.loop.invariant.0),
      omega (arith, next, c.in-Some.ensures.some.within),
      record {
        are_encoded = rw pushed are_encoded;
        many = rw pushed (omega (arith, length-append c.loop.tries.items (c.in-Some.item ∷ []), c.loop.invariant.2.many));
        apart = rw pushed (rw next apart);
      },
      c.push_reserved.ensures.capacity ∙ c.loop.invariant.3,
    )
