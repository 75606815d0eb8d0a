use Rattle.dexmembers.proofs.Common.{ℕ, Option, sym, subst, IsPlaceIn}
use Rattle.dexmembers.specs.{item_at}
use Rattle.dexmembers.specs.internal.MethodCodes.{IsCodeOrNone, kept_codes}
use Rattle.dexmembers.proofs.MethodLists.{kept_already, kept_itself}
use Rattle.dexmembers.proofs.KeptCodes.{codes_kept_at, noted_more, stored_more}
use Rattle.dexmembers.proofs.row_reader.RowReader.place_code.Goals as goal

pub returns-in-Some-clause-kept : goal.returns-in-Some-clause-kept
returns-in-Some-clause-kept c = kept_already (kept_codes c.args.kept.now) c.in-Some.place (c.requires.places.codes_placed c.args.off c.in-Some.place c.in-Some.ensures)

pub returns-in-Some-clause-read : goal.returns-in-Some-clause-read
returns-in-Some-clause-read c = λ pools. (c.requires.known pools).codes_read c.args.off c.in-Some.place c.in-Some.ensures

-- ---- where it is read

pub returns-clause-places : goal.returns-clause-places
returns-clause-places c =
    let old = kept_codes c.args.kept.now in
    let new = kept_codes (record { codes = c.keep.new.self; debugs = c.code_or_none.new.debugs }) in
    let at = codes_kept_at _ _ _ _ c.in_ok-place.place c.requires.places.stored c.in_ok-code.code c.in_ok-code.ensures.kept c.in_ok-place.ensures.kept in
    record {
      codes_placed = noted_more (λ (q : ℕ) (p : Option ℕ). IsPlaceIn old p) (λ (q : ℕ) (p : Option ℕ). IsPlaceIn new p) c.args.kept.now.codes c.keep.new.self c.args.off c.in_ok-place.place (λ q p held. (at.still p held).0) c.requires.places.codes_placed c.in_ok-place.ensures.noted at.held;
      debugs_placed = c.in_ok-code.ensures.places;
      stored = stored_more _ _ _ _ c.in_ok-place.place c.requires.places.stored c.in_ok-code.code c.in_ok-code.ensures.kept c.in_ok-place.ensures.kept;
    }

pub returns-clause-known : goal.returns-clause-known
returns-clause-known c = λ pools.
    let b = c.args.self.now.frame.now in
    let m = c.args.self.now.pools.now in
    let old = kept_codes c.args.kept.now in
    let new = kept_codes (record { codes = c.keep.new.self; debugs = c.code_or_none.new.debugs }) in
    let at = codes_kept_at _ _ _ _ c.in_ok-place.place c.requires.places.stored c.in_ok-code.code c.in_ok-code.ensures.kept c.in_ok-place.ensures.kept in
    record {
      codes_read = noted_more (λ (q : ℕ) (p : Option ℕ). IsPlaceIn old p × IsCodeOrNone b q m (item_at old p)) (λ (q : ℕ) (p : Option ℕ). IsCodeOrNone b q m (item_at new p)) c.args.kept.now.codes c.keep.new.self c.args.off c.in_ok-place.place
          (λ q p was. subst (IsCodeOrNone b q m) (sym (at.still p was.0).1) was.1) (λ q p noted. (c.requires.places.codes_placed q p noted, (c.requires.known pools).codes_read q p noted)) c.in_ok-place.ensures.noted
          (subst (IsCodeOrNone b c.args.off m) (sym at.is) (c.in_ok-code.ensures.read pools));
      debugs_read = c.in_ok-code.ensures.known pools;
    }

pub returns-clause-kept : goal.returns-clause-kept
returns-clause-kept c = kept_itself (codes_kept_at _ _ _ _ c.in_ok-place.place c.requires.places.stored c.in_ok-code.code c.in_ok-code.ensures.kept c.in_ok-place.ensures.kept)

pub returns-clause-read : goal.returns-clause-read
returns-clause-read c = λ pools.
    let at = codes_kept_at _ _ _ _ c.in_ok-place.place c.requires.places.stored c.in_ok-code.code c.in_ok-code.ensures.kept c.in_ok-place.ensures.kept in
    subst (IsCodeOrNone c.args.self.now.frame.now c.args.off c.args.self.now.pools.now) (sym at.is) (c.in_ok-code.ensures.read pools)
