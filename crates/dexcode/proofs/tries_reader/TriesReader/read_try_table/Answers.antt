use Rattle.dexcode.proofs.Common.{Result, Ok, Err, IfOk, IfErr, ◌≡◌, ◌+◌, ◌*◌, ◌<◌, sym, subst, arith, err_from_is_err_and, most_handlers, all_named, handlers_of, handlers_weight, TriesRead, TryItemsAt, IsTriesFault, HasList, NoTries}
use Rattle.dexcode.proofs.HandlersRead.{fault_so}
use Rattle.dexcode.proofs.TryTables.{found_tries, found_listed, no_tries, too_heavy}
use Rattle.dexcode.specs.internal.TriesReading.{HaveLightHandlers, NoTryItems}
use Rattle.dexcode.proofs.tries_reader.TriesReader.read_try_table.Goals as goal

pub returns-in_err-items-clause-fault : goal.returns-in_err-items-clause-fault
returns-in_err-items-clause-fault c =
    let p = err_from_is_err_and c.from_residual-in_err-items.result c.from_residual-in_err-items.ensures.1 in
    let list = subst (λ n. HasList c.args.self.now.starts.now c.args.self.now.types c.args.self.now.bytes.now (c.args.at + 8 * n) c.in_ok-numbers.numbers.items) c.from-size.ensures c.in_ok-numbers.ensures.list in
    let fault = subst (λ ns. IsTriesFault (NoTries c.args.units ns c.args.self.now.bytes.now c.args.at c.args.count) c.in_err-items.field-0.0) c.deref.ensures.value c.in_err-items.ensures.fault in
    rw (p.1, p.2) (fault_so (no_tries c.args.self.now.starts.now c.args.self.now.types c.args.units c.args.self.now.bytes.now c.args.at c.args.count c.are_bytes.ensures list.handlers c.in_ok-numbers.numbers.items list.is) c.in_err-items.field-0.0 fault)

pub named-requires-clause-listed : goal.named-requires-clause-listed
named-requires-clause-listed c =
    let ts = c.in_ok-items.items.items in
    let to = c.in_ok-items.ensures.tries.0 in
    let list = subst (λ n. HasList c.args.self.now.starts.now c.args.self.now.types c.args.self.now.bytes.now (c.args.at + 8 * n) c.in_ok-numbers.numbers.items) c.from-size.ensures c.in_ok-numbers.ensures.list in
    let read = subst (λ ns. TriesRead c.args.units ns c.args.self.now.bytes.now c.args.at c.args.count ts to) c.deref.ensures.value c.in_ok-items.ensures.tries.1 in
    rw c.from-size.ensures (record { handlers = list.handlers; are = (found_listed c.args.self.now.starts.now c.args.self.now.types c.args.units c.args.self.now.bytes.now c.args.at c.args.count list.handlers c.in_ok-numbers.numbers.items ts to list.is read) })

pub named-requires-clause-few : goal.named-requires-clause-few
named-requires-clause-few c = omega (arith, c.in_ok-items.ensures.tries.1.many, c.ranges.count)

pub named-requires-clause-room : goal.named-requires-clause-room
named-requires-clause-room c = omega (arith, c.in_ok-items.ensures.tries.1.many)

both_so : {T E : Type 0} (P R Q : T → Type 0) (r : Result T E) → ((x : T) → P x → R x → Q x) → IfOk r P → IfOk r R → IfOk r Q
both_so P R Q (Ok x) so p q = so x p q
both_so P R Q (Err e) so p q = tt

err_so : {T E : Type 0} (P Q : E → Type 0) (r : Result T E) → ((e : E) → P e → Q e) → IfErr r P → IfErr r Q
err_so P Q (Ok x) so p = tt
err_so P Q (Err e) so p = so e p

pub returns-clause-tries : goal.returns-clause-tries
returns-clause-tries c =
    let ts = c.in_ok-items.items.items in
    let to = c.in_ok-items.ensures.tries.0 in
    let list = subst (λ n. HasList c.args.self.now.starts.now c.args.self.now.types c.args.self.now.bytes.now (c.args.at + 8 * n) c.in_ok-numbers.numbers.items) c.from-size.ensures c.in_ok-numbers.ensures.list in
    let read = subst (λ ns. TriesRead c.args.units ns c.args.self.now.bytes.now c.args.at c.args.count ts to) c.deref.ensures.value c.in_ok-items.ensures.tries.1 in
    let hs = list.handlers in
    let listed = found_listed c.args.self.now.starts.now c.args.self.now.types c.args.units c.args.self.now.bytes.now c.args.at c.args.count hs c.in_ok-numbers.numbers.items ts to list.is read in
    both_so (λ tries. tries ≡ all_named hs ts) HaveLightHandlers (TryItemsAt c.args.self.now.starts.now c.args.self.now.types c.args.units c.args.self.now.bytes.now c.args.at c.args.count) c.named.result
    (λ tries is light. subst (TryItemsAt c.args.self.now.starts.now c.args.self.now.types c.args.units c.args.self.now.bytes.now c.args.at c.args.count) (sym is)
    (found_tries c.args.self.now.starts.now c.args.self.now.types c.args.units c.args.self.now.bytes.now c.args.at c.args.count hs c.in_ok-numbers.numbers.items ts to list.is read (subst HaveLightHandlers is light)))
    (c.named.ensures.some hs (rw c.from-size.ensures listed)) c.named.ensures.light

pub returns-clause-fault : goal.returns-clause-fault
returns-clause-fault c =
    let list = subst (λ n. HasList c.args.self.now.starts.now c.args.self.now.types c.args.self.now.bytes.now (c.args.at + 8 * n) c.in_ok-numbers.numbers.items) c.from-size.ensures c.in_ok-numbers.ensures.list in
    let read = subst (λ ns. TriesRead c.args.units ns c.args.self.now.bytes.now c.args.at c.args.count c.in_ok-items.items.items c.in_ok-items.ensures.tries.0) c.deref.ensures.value c.in_ok-items.ensures.tries.1 in
    let listed = found_listed c.args.self.now.starts.now c.args.self.now.types c.args.units c.args.self.now.bytes.now c.args.at c.args.count list.handlers c.in_ok-numbers.numbers.items c.in_ok-items.items.items c.in_ok-items.ensures.tries.0 list.is read in
    err_so _ (IsTriesFault (NoTryItems c.args.self.now.starts.now c.args.self.now.types c.args.units c.args.self.now.bytes.now c.args.at c.args.count)) c.named.result
    (fault_so (λ heavy.
    let weighs : most_handlers < handlers_weight (handlers_of (all_named list.handlers c.in_ok-items.items.items)) = heavy list.handlers (rw c.from-size.ensures listed) in
    too_heavy c.args.self.now.starts.now c.args.self.now.types c.args.units c.args.self.now.bytes.now c.args.at c.args.count c.are_bytes.ensures list.handlers c.in_ok-numbers.numbers.items c.in_ok-items.items.items c.in_ok-items.ensures.tries.0 list.is read weighs))
    c.named.ensures.heavy
