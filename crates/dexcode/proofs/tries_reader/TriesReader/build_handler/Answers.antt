use Rattle.dexcode.proofs.Common.{◌+◌, ap, sym, subst, ◌∙◌, refl, w32, nat_abs, to_z-of_z, CatchAllAt}
use Rattle.std.specs.Result.{IsOk}
use Rattle.dexcode.proofs.HandlersRead.{there_is, its_catches, its_catch_all, one_catch_all}
use Rattle.dexcode.proofs.tries_reader.TriesReader.build_handler.Goals as goal

pub unwrap-count-requires : goal.unwrap-count-requires
unwrap-count-requires c = let at = c.requires.there.1.encodes in subst IsOk (sym (c.read_s.ensures.only at.count at.count_size at.count_is)) refl

pub build_catches-requires-clause-there : goal.build_catches-requires-clause-there
build_catches-requires-clause-there c =
    let read = rw c.unwrap-count.ensures at c.read_s.ensures.found in
    let own = its_catches c.args.self.now.starts.now c.args.self.now.types c.args.self.now.bytes.now c.args.at c.unwrap-count.result.0 c.unwrap-count.result.1 read c.requires.there.0 c.requires.there.1.size c.requires.there.1.encodes in
    (c.requires.there.0.catches, c.requires.there.1.encodes.catches_size, own.0 ∙ sym (c.unsigned_abs-many.ensures.value ∙ ap nat_abs (to_z-of_z w32 c.unwrap-count.result.0 read.spelled.in_range)), own.1)

pub unwrap-catch_all_addr-requires : goal.unwrap-catch_all_addr-requires
unwrap-catch_all_addr-requires c = there_is c.read_catch_all.result c.read_catch_all.ensures.none (λ none.
    let read = rw c.unwrap-count.ensures at c.read_s.ensures.found in
    let there = c.requires.there in
    let same = to_z-of_z w32 c.unwrap-count.result.0 read.spelled.in_range in
    let own = its_catches c.args.self.now.starts.now c.args.self.now.types c.args.self.now.bytes.now c.args.at c.unwrap-count.result.0 c.unwrap-count.result.1 read there.0 there.1.size there.1.encodes in
    let built = c.in_ok-catches.ensures.built there.0.catches there.1.encodes.catches_size (own.0 ∙ sym (c.unsigned_abs-many.ensures.value ∙ ap nat_abs same)) own.1 in
    let all = its_catch_all c.args.self.now.starts.now c.args.self.now.types c.args.self.now.bytes.now c.args.at c.unwrap-count.result.0 c.unwrap-count.result.1 read there.0 there.1.size there.1.encodes c.in_ok-catches.size built.1 in
    none there.0.catch_all_addr there.1.encodes.all_size (subst (λ z. CatchAllAt c.args.self.now.starts.now z c.args.self.now.bytes.now (c.args.at + c.unwrap-count.result.1 + c.in_ok-catches.size) there.0.catch_all_addr there.1.encodes.all_size) (sym same) all))

pub returns : goal.returns
returns c = λ h there.
    let read = rw c.unwrap-count.ensures at c.read_s.ensures.found in
    let same = to_z-of_z w32 c.unwrap-count.result.0 read.spelled.in_range in
    let own = its_catches c.args.self.now.starts.now c.args.self.now.types c.args.self.now.bytes.now c.args.at c.unwrap-count.result.0 c.unwrap-count.result.1 read h there.size there.encodes in
    let built = c.in_ok-catches.ensures.built h.catches there.encodes.catches_size (own.0 ∙ sym (c.unsigned_abs-many.ensures.value ∙ ap nat_abs same)) own.1 in
    let all = its_catch_all c.args.self.now.starts.now c.args.self.now.types c.args.self.now.bytes.now c.args.at c.unwrap-count.result.0 c.unwrap-count.result.1 read h there.size there.encodes c.in_ok-catches.size built.1 in
    let place = c.args.at + c.unwrap-count.result.1 + c.in_ok-catches.size in
    let some = subst (λ z. CatchAllAt c.args.self.now.starts.now z c.args.self.now.bytes.now place c.unwrap-catch_all_addr.result.0 c.unwrap-catch_all_addr.result.1) same (rw c.unwrap-catch_all_addr.ensures at c.read_catch_all.ensures.some) in
    λ i. record { catches = built.0 i; catch_all_addr = (one_catch_all c.args.self.now.starts.now c.unwrap-count.result.0 c.args.self.now.bytes.now place c.unwrap-catch_all_addr.result.0 h.catch_all_addr c.unwrap-catch_all_addr.result.1 there.encodes.all_size some all).0 i }
