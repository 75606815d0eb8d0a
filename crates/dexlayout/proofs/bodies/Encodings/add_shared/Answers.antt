use Rattle.dexlayout.proofs.Common.{◌+◌, ◌<◌, ◌++◌, ◌∙◌, ap, arith, length, subst, sym, take, take_all, same_bytes, HasUses, debug_encoding, debug_encodings}
use Rattle.std.proofs.lemmas.List.{get_or_default}
use Rattle.dexlayout.proofs.SharedEncodings.{earlier_use, no_method, uses_before, uses_more}
use Rattle.dexlayout.proofs.bodies.Encodings.add_shared.Goals as goal
use Rattle.dexlayout.proofs.bodies.Encodings.add_shared.Goals.{then-place-i+in_ok-add_again, else-place-i+in_ok-add_method}

pub loop-i-preserved : goal.loop-i-preserved
loop-i-preserved c =
    let xs = c.args.methods.now in
    let i = c.loop-i.i in
    let lt : i < length xs = omega (arith, c.loop-i-test.true, c.requires.many) in
    elim c.if-place-i.branch [
      | then-place-i+in_ok-add_again w ↦
          let more = ap (λ s. length s.sharing.numbers.items) w.self-is in
          record {
            before = c.loop-i.invariant.before;
            more = omega (arith, more, w.in_ok-add_again.ensures.more, c.loop-i.invariant.more);
            uses = λ us h.
                let taken = earlier_use xs c.args.places.now c.requires us i lt c.len-before.result (c.loop-i.invariant.before ∙ uses_before h) w.if-place-i.true in
                subst (λ s. HasUses same_bytes (us ++ debug_encodings (take (i + 1) xs)) s.sharing) (sym w.self-is)
                (subst (λ vs. HasUses same_bytes vs w.add_again.new.self) (uses_more xs c.args.places.now c.requires us i lt _ taken) (w.in_ok-add_again.ensures.added (us ++ debug_encodings (take i xs)) (c.loop-i.invariant.uses us h)));
          }
      | else-place-i+in_ok-add_method w ↦
          let more = ap (λ s. length s.sharing.numbers.items) w.self-is in
          record {
            before = c.loop-i.invariant.before;
            more = omega (arith, more, w.in_ok-add_method.ensures.more, c.loop-i.invariant.more);
            uses = λ us h.
                let taken = ap debug_encoding (w.get.ensures ∙ get_or_default xs i w.get.result no_method lt) in
                subst (λ s. HasUses same_bytes (us ++ debug_encodings (take (i + 1) xs)) s.sharing) (sym w.self-is)
                (subst (λ vs. HasUses same_bytes vs w.add_method.new.self.sharing) (uses_more xs c.args.places.now c.requires us i lt _ taken) (w.in_ok-add_method.ensures.added (us ++ debug_encodings (take i xs)) (c.loop-i.invariant.uses us h)));
          }
    ]

pub returns : goal.returns
returns c = λ uses h.
    let all = take_all c.loop-i.i c.args.methods.now (omega (arith, c.loop-i-test.false, c.requires.many)) in
    subst (λ xs. HasUses same_bytes (uses ++ debug_encodings xs) c.loop-i.self.sharing) all (c.loop-i.invariant.uses uses h)
