use Rattle.dexcode.proofs.Common.{ℕ, List, Option, None, ◌≡◌, ◌+◌, ◌<◌, length, get_or, sym, ap, subst, ◌∙◌, arith, insert_key, insert_grows, same_handler, no_handler, handler_decides, IsHandlerAt}
use Rattle.std.proofs.lemmas.Option.{get_or_from_slice_get}
use Rattle.dexcode.proofs.Named.{insert_there, known_more}
use Rattle.dexcode.proofs.tries_reader.TriesReader.number_of.Goals as goal

pub returns-in-Some : goal.returns-in-Some
returns-in-Some c = λ h there known.
    let at = known.each c.args.off c.in-Some.number (ap (λ (ns : List (Option ℕ)). get_or ns c.args.off None) (sym c.deref.ensures.value) ∙ sym c.number_at.ensures ∙ c.in-Some.is) in
    let is = at.1 h there in record { known = known; keys = sym (insert_there c.args.handlers.now.keys h no_handler c.in-Some.number at.0 is); number = at.0; is = is }

pub build_handler-requires-clause-there : goal.build_handler-requires-clause-there
build_handler-requires-clause-there c = rw c.from.ensures c.requires.there

pub returns : goal.returns
returns c = λ h there known.
    let old = c.args.handlers.now.keys in
    let new = c.insert_full.new.self.keys in
    let put = c.in_ok-number.ensures in
    let same : c.in_ok-handler.handler ≡ h = c.in_ok-handler.ensures h (subst (λ k. IsHandlerAt c.args.self.now.starts.now c.args.self.now.types c.args.self.now.bytes.now (c.args.list + k) h) (sym c.from.ensures) there) in
    let keys : new ≡ insert_key same_handler old h = put.keys ∙ ap (insert_key same_handler old) same in
    let is : get_or new c.in_ok-number.number no_handler ≡ h =
    get_or_from_slice_get new c.in_ok-number.number put.stored.0 no_handler put.stored.1 ∙ sym ((handler_decides c.in_ok-handler.handler put.stored.0).0 put.stored.2) ∙ same in
    let grows = insert_grows same_handler old h in
    let number : c.in_ok-number.number < length new = omega (arith, put.within) in
    record {
      known = known_more c.args.self.now.starts.now c.args.self.now.types c.args.self.now.bytes.now c.args.list h there old new grows.0 c.args.numbers.now.items c.put_at.new.numbers.items c.in_ok-number.number known (keys ∙ grows.1) c.in_ok-put_at.ensures number is;
      keys = keys;
      number = number;
      is = is;
    }
