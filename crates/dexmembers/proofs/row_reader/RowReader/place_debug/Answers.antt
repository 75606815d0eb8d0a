use Rattle.dexmembers.proofs.Common.{ℕ, Option, sym, subst, IsPlaceIn}
use Rattle.dexcode.specs.Reading.{IsDebugOrNone}
use Rattle.dexmembers.specs.{item_at}
use Rattle.dexmembers.proofs.MethodLists.{kept_already, kept_at, kept_itself}
use Rattle.dexmembers.proofs.KeptCodes.{noted_more}
use Rattle.dexmembers.proofs.row_reader.RowReader.place_debug.Goals as goal

pub returns-in-Some-clause-kept : goal.returns-in-Some-clause-kept
returns-in-Some-clause-kept c = kept_already c.args.kept.now.items.items c.in-Some.place (c.requires.places c.args.off c.in-Some.place c.in-Some.ensures)

pub returns-in-Some-clause-read : goal.returns-in-Some-clause-read
returns-in-Some-clause-read c = λ pools. c.requires.known pools c.args.off c.in-Some.place c.in-Some.ensures

pub returns-clause-places : goal.returns-clause-places
returns-clause-places c =
    let old = c.args.kept.now.items.items in
    let new = c.keep.new.self.items.items in
    let at = kept_at c.in_ok-debug.debug old new c.in_ok-place.place c.in_ok-place.ensures.kept in
    noted_more (λ (q : ℕ) (p : Option ℕ). IsPlaceIn old p) (λ (q : ℕ) (p : Option ℕ). IsPlaceIn new p) c.args.kept.now c.keep.new.self c.args.off c.in_ok-place.place (λ q p held. (at.still p held).0) c.requires.places c.in_ok-place.ensures.noted at.held

pub returns-clause-known : goal.returns-clause-known
returns-clause-known c = λ pools.
    let b = c.args.self.now.frame.now in
    let m = c.args.self.now.pools.now in
    let old = c.args.kept.now.items.items in
    let new = c.keep.new.self.items.items in
    let at = kept_at c.in_ok-debug.debug old new c.in_ok-place.place c.in_ok-place.ensures.kept in
    noted_more (λ (q : ℕ) (p : Option ℕ). IsPlaceIn old p × IsDebugOrNone b q m (item_at old p)) (λ (q : ℕ) (p : Option ℕ). IsDebugOrNone b q m (item_at new p)) c.args.kept.now c.keep.new.self c.args.off c.in_ok-place.place
    (λ q p was. subst (IsDebugOrNone b q m) (sym (at.still p was.0).1) was.1) (λ q p noted. (c.requires.places q p noted, c.requires.known pools q p noted)) c.in_ok-place.ensures.noted
    (subst (IsDebugOrNone b c.args.off m) (sym at.is) (c.in_ok-debug.ensures.read pools))

pub returns-clause-kept : goal.returns-clause-kept
returns-clause-kept c = kept_itself (kept_at c.in_ok-debug.debug c.args.kept.now.items.items c.keep.new.self.items.items c.in_ok-place.place c.in_ok-place.ensures.kept)

pub returns-clause-read : goal.returns-clause-read
returns-clause-read c = λ pools.
    let at = kept_at c.in_ok-debug.debug c.args.kept.now.items.items c.keep.new.self.items.items c.in_ok-place.place c.in_ok-place.ensures.kept in
    subst (IsDebugOrNone c.args.self.now.frame.now c.args.off c.args.self.now.pools.now) (sym at.is) (c.in_ok-debug.ensures.read pools)
