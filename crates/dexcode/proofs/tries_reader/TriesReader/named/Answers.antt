use Rattle.dexcode.proofs.Common.{◌≡◌, true, false, Option, Some, None, set, take_more_set, length-set, get_or_default, ◌∷◌, [], ◌++◌, ◌+◌, ◌*◌, ◌<◌, ◌≤◌, ℕ, length, get_or, take, refl, sym, ap, subst, ◌∙◌, arith, rules, All, take_all, All-get_or, ushort_at, most_handlers, Try, IsFormedHandler, no_handler, all_named, handlers_of, handlers_weight, IsHandlerAt}
use Rattle.std.specs.Option.{MatchOption, is_some}
use Rattle.dexcode.proofs.Named.{names_more, next_try, none_named, tries_after}
use Rattle.dexcode.proofs.TryTables.{begins_within}
use Rattle.dexcode.proofs.Whole.{formed_more}
use Rattle.dexcode.proofs.tries_reader.TriesReader.named.Goals as goal

-- used instead of a try that is not there
abbrev none : Try
none = record { start_addr = 0; insn_count = 0; handler = 0 }

pub number_of-requires-clause-within : goal.number_of-requires-clause-within
number_of-requires-clause-within c =
    let i = c.loop-i.i in
    let off : ushort_at c.args.self.now.bytes.now (c.args.at + 8 * i + 6) ≡ c.u16_at-off.result = rw c.loop-i.invariant.reached at (sym c.u16_at-off.ensures) in
    let there = c.requires.listed.are.each i none (omega (arith, c.loop-i-test.true, c.loop-i.invariant.size)) in
    omega (arith, off, begins_within c.args.self.now.starts.now c.args.self.now.types c.args.self.now.bytes.now (c.args.list + ushort_at c.args.self.now.bytes.now (c.args.at + 8 * i + 6)) (get_or c.requires.listed.handlers (get_or c.args.tries.items i none).handler no_handler) there)

pub number_of-requires-clause-there : goal.number_of-requires-clause-there
number_of-requires-clause-there c =
    let off : ushort_at c.args.self.now.bytes.now (c.args.at + 8 * c.loop-i.i + 6) ≡ c.u16_at-off.result = rw c.loop-i.invariant.reached at (sym c.u16_at-off.ensures) in
    let h = get_or c.requires.listed.handlers (get_or c.args.tries.items c.loop-i.i none).handler no_handler in
    (h, (subst (λ (p : ℕ). IsHandlerAt c.args.self.now.starts.now c.args.self.now.types c.args.self.now.bytes.now (c.args.list + p) h) off (c.requires.listed.are.each c.loop-i.i none (omega (arith, c.loop-i-test.true, c.loop-i.invariant.size)))))

pub loop-i-init : goal.loop-i-init
loop-i-init c = record {
  reached = omega arith;
  size = refl;
  rest = refl;
  so_far = λ all listed. none_named c.args.self.now.starts.now c.args.self.now.types c.args.self.now.bytes.now c.args.list all _ _ _ _ (search rules) (search rules) refl refl;
}

pub loop-i-preserved : goal.loop-i-preserved
loop-i-preserved c =
    let i = c.loop-i.i in
    let old = c.loop-i.tries.items in
    let t = get_or c.args.tries.items i none in
    let new : Try = record { start_addr = c.index.result.now.start_addr; insn_count = c.index.result.now.insn_count; handler = c.in_ok-handler.handler } in
    let lt : i < length c.args.tries.items = omega (arith, c.loop-i-test.true, c.loop-i.invariant.size) in
    let within : i < length old = omega (arith, lt, c.loop-i.invariant.size) in
    let same : c.index.result.now ≡ t = c.index.ensures ∙ get_or_default old i c.index.result.now none within ∙ next_try old c.args.tries.items i none c.loop-i.invariant.rest in
    record {
      reached = omega (arith, c.loop-i.invariant.reached);
      size = length-set old i new ∙ c.loop-i.invariant.size;
      rest = tries_after old c.args.tries.items i new c.loop-i.invariant.rest;
      so_far = λ all listed.
          let h = get_or all t.handler no_handler in
          let had = c.loop-i.invariant.so_far all listed in
          let off : ushort_at c.args.self.now.bytes.now (c.args.at + 8 * i + 6) ≡ c.u16_at-off.result = rw c.loop-i.invariant.reached at (sym c.u16_at-off.ensures) in
          let one = c.in_ok-handler.ensures h (subst (λ (p : ℕ). IsHandlerAt c.args.self.now.starts.now c.args.self.now.types c.args.self.now.bytes.now (c.args.list + p) h) off (listed.each i none lt)) had.known in
          let numbered = take_more_set old i new within ∙ ap (λ (x : Try). take i old ++ record { start_addr = x.start_addr; insn_count = x.insn_count; handler = c.in_ok-handler.handler } ∷ []) same in
          let more = names_more all c.loop-i.handlers.keys c.number_of.new.handlers.keys c.args.tries.items (take i old) (take (i + 1) (set old i new)) i c.in_ok-handler.handler none
          lt one.keys one.number one.is had.used had.names had.within numbered in
          record {
            known = one.known;
            used = more.0;
            names = more.1;
            within = more.2;
            formed = formed_more all c.loop-i.handlers.keys c.number_of.new.handlers.keys t.handler (All-get_or (λ (t : Try). t.handler < length all) c.args.tries.items i none lt listed.within) listed.formed had.formed one.keys;
          };
    }

none_so : {X N : Type 0} (S : X → Type 0) (r : Option X) → MatchOption r N S → is_some r ≡ false → N
none_so S None h e = h
none_so S (Some x) h e = absurd cc

light_so : (N : Type 0) (weight : ℕ) (r : Option ℕ) → MatchOption r N (λ w. (w ≡ weight) × (w ≤ most_handlers)) → is_some r ≡ true → weight ≤ most_handlers
light_so N weight None h e = absurd cc
light_so N weight (Some w) h e = subst (λ (k : ℕ). k ≤ most_handlers) h.0 h.1

pub returns-then-is_none-clause-heavy : goal.returns-then-is_none-clause-heavy
returns-then-is_none-clause-heavy c = (
  refl,
  λ all listed.
      let used : c.deref.result.now ≡ handlers_of (all_named all c.args.tries.items) = c.deref.ensures.value ∙ c.in_ok-handlers.ensures ∙ (c.loop-i.invariant.so_far all listed).used ∙ ap (λ ts. handlers_of (all_named all ts)) (take_all c.loop-i.i c.args.tries.items (omega (arith, c.loop-i-test.false, c.loop-i.invariant.size))) in
      subst (λ hs. most_handlers < handlers_weight hs) used (none_so _ c.handlers_weight.result c.handlers_weight.ensures c.if-is_none.ensures),
)

pub returns-clause-some : goal.returns-clause-some
returns-clause-some c = λ all listed.
    let had = c.loop-i.invariant.so_far all listed in
    ap (λ hs. all_named hs c.loop-i.tries.items) c.in_ok-handlers.ensures ∙ ap (all_named c.loop-i.handlers.keys) (sym (take_all c.loop-i.i c.loop-i.tries.items (omega arith))) ∙ had.names ∙ ap (all_named all) (take_all c.loop-i.i c.args.tries.items (omega (arith, c.loop-i-test.false, c.loop-i.invariant.size)))

pub returns-clause-light : goal.returns-clause-light
returns-clause-light c =
    let all = c.requires.listed.handlers in
    let had = c.loop-i.invariant.so_far all c.requires.listed.are in
    let whole : take c.loop-i.i c.args.tries.items ≡ c.args.tries.items = take_all c.loop-i.i c.args.tries.items (omega (arith, c.loop-i-test.false, c.loop-i.invariant.size)) in
    let names : all_named c.in_ok-handlers.handlers.items c.loop-i.tries.items ≡ all_named all c.args.tries.items = returns-clause-some c all c.requires.listed.are in
    subst (λ hs. handlers_weight hs ≤ most_handlers) ((c.deref.ensures.value ∙ c.in_ok-handlers.ensures ∙ had.used ∙ ap (λ ts. handlers_of (all_named all ts)) whole) ∙ ap handlers_of (sym names)) (light_so _ _ c.handlers_weight.result c.handlers_weight.ensures c.if-is_none.ensures)

pub invariant_of-result : goal.invariant_of-result
invariant_of-result c =
    let all = c.requires.listed.handlers in
    let had = c.loop-i.invariant.so_far all c.requires.listed.are in
    let whole : take c.loop-i.i c.args.tries.items ≡ c.args.tries.items = take_all c.loop-i.i c.args.tries.items (omega (arith, c.loop-i-test.false, c.loop-i.invariant.size)) in
    let numbered : take c.loop-i.i c.loop-i.tries.items ≡ c.loop-i.tries.items = take_all c.loop-i.i c.loop-i.tries.items (omega arith) in
    let names : all_named c.in_ok-handlers.handlers.items c.loop-i.tries.items ≡ all_named all c.args.tries.items = ap (λ hs. all_named hs c.loop-i.tries.items) c.in_ok-handlers.ensures ∙ ap (all_named c.loop-i.handlers.keys) (sym numbered) ∙ had.names ∙ ap (all_named all) whole in
    record {
      within = subst (λ hs. All (λ t. t.handler < length hs) c.loop-i.tries.items) (sym c.in_ok-handlers.ensures) (subst (All (λ t. t.handler < length c.loop-i.handlers.keys)) numbered had.within);
      used = (c.in_ok-handlers.ensures ∙ had.used ∙ ap (λ ts. handlers_of (all_named all ts)) whole) ∙ ap handlers_of (sym names);
      few = omega (arith, c.loop-i.invariant.size, c.requires.few);
      light = subst (λ hs. handlers_weight hs ≤ most_handlers) c.deref.ensures.value (light_so _ _ c.handlers_weight.result c.handlers_weight.ensures c.if-is_none.ensures);
      formed = subst (All IsFormedHandler) (sym c.in_ok-handlers.ensures) had.formed;
    }
