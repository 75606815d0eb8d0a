use Rattle.dexcode.proofs.Common.{◌≡◌, ℕ, length, ap, sym, subst, Sequence, Uleb128At, ◌∷◌, [], ◌++◌, ◌+◌, ◌-◌, refl, rules, arith, HandlerAt, IsNumberPut}
use Rattle.dexcode.proofs.Prefixes.{stuck}
use Rattle.dexcode.proofs.HandlersRead.{one_handler}
use Rattle.dexcode.proofs.Listed.{one_handler_more}
use Rattle.dexcode.proofs.tries_reader.TriesReader.read_list.Goals as goal

pub returns-in_default-handler_len-clause-fault : goal.returns-in_default-handler_len-clause-fault
returns-in_default-handler_len-clause-fault c = (
  refl,
  λ hs size n count h. let read = c.loop-number.invariant.1 in
      let e = c.in-Ok.ensures.only (length hs) size count in
      let p : (c.in-Ok.count, c.in-Ok.count_size) ≡ (length hs, size) = cc in
      let at = HandlerAt c.args.self.now.starts.now c.args.self.now.types in
      stuck at (one_handler c.args.self.now.starts.now c.args.self.now.types) c.args.self.now.bytes.now (c.args.at + c.in-Ok.count_size) c.loop-number.invariant.0 hs c.loop-number.size n
      (omega (arith, ap (λ (x : ℕ × ℕ). x.0) p, read.many, c.loop-number-test.true)) read.are_encoded c.in_default-handler_len.ensures.none (subst (λ (k : ℕ). Sequence at c.args.self.now.bytes.now (c.args.at + k) hs n) (sym (ap (λ (x : ℕ × ℕ). x.1) p)) h),
)

pub loop-number-preserved : goal.loop-number-preserved
loop-number-preserved c =
    let put : IsNumberPut ((c.args.at + c.in-Ok.count_size) + c.loop-number.size - c.args.at) c.loop-number.number c.loop-number.numbers.items c.put_number.new.numbers.items = search rules in (
      c.loop-number.invariant.0 ++ c.in-Some.ensures.some.handler ∷ [],
      one_handler_more c.args.self.now.starts.now c.args.self.now.types c.args.self.now.bytes.now c.args.at (c.args.at + c.in-Ok.count_size) c.loop-number.number c.loop-number.size c.in-Some.len c.loop-number.invariant.0 c.loop-number.numbers.items c.put_number.new.numbers.items (omega arith) c.loop-number.invariant.1 c.in-Some.ensures.some put,
    )

pub returns-clause-list : goal.returns-clause-list
returns-clause-list c =
    let read = c.loop-number.invariant.1 in
    record {
      handlers = c.loop-number.invariant.0;
      is = record {
        count_size = c.in-Ok.count_size;
        size = c.loop-number.size;
        count_is = subst (λ (k : ℕ). Uleb128At c.args.self.now.bytes.now c.args.at k c.in-Ok.count_size) (omega (arith, read.many, c.loop-number-test.false)) c.in-Ok.ensures.found;
        are_encoded = read.are_encoded;
        numbered = read.numbered;
      };
    }
