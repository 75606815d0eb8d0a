use Rattle.dexpool.proofs.Common.{◌≡◌, ℕ, ◌<◌, ◌≤◌, ◌++◌, List, length, get_or, map, take, refl, sym, ap, ◌∙◌, subst, arith, All, All-more, All-weaker, All-map, All-contains, length-map, take_all, get_or_default, IsImage, ProtoEntry, Span, HasSpans, numbers_of, numbers_in, lists_in}
use Rattle.std.specs.Global.{Vec}
use Rattle.dexpool.specs.declared.renumbering.Protos.{Protos}
use Rattle.dexpool.specs.internal.Joining.{proto_key}
use Rattle.dexpool.specs.internal.SharedLists.{HasParametersOf, AreImages, HaveParameters}
use Rattle.dexpool.proofs.Pairs.{zip_seen, zip_length, within_other}
use Rattle.dexpool.proofs.JoinedLists.{are_images, parameters_grown, has_image}
use Rattle.dexpool.proofs.renumbering.stored_together.Goals as goal

pub index-requires : goal.index-requires
index-requires c = within_other (IsImage proto_key c.args.joined.now.rows.items) numbers_in (λ (v : Vec ℕ). v.items) c.args.tables.now c.args.joined.now.images.items c.loop-i.i _ c.args.joined.now.images.ok.0 c.requires.joined.parts_in c.loop-i-test.true

pub place_rows-requires-clause-count : goal.place_rows-requires-clause-count
place_rows-requires-clause-count c =
    let table = c.index-tables-i-in-loop-i.result in
    let is = zip_seen (IsImage proto_key c.args.joined.now.rows.items) numbers_in (λ (v : Vec ℕ). v.items) c.args.tables.now c.args.joined.now.images.items c.loop-i.i table c.index.result.now c.requires.joined.parts_in c.loop-i-test.true c.index-tables-i-in-loop-i.is c.index.ensures in
    ap (λ (l : List ℕ). length l) c.deref-in-loop-i-2.ensures.value ∙ is.count ∙ length-map table.rows.items (numbers_of table.parameters.items) ∙ ap (λ (t : Protos). length t.rows.items) c.index-tables-i-in-loop-i.is ∙ sym (ap (λ (l : List ProtoEntry). length l) c.deref-in-loop-i.ensures.value)

pub place_rows-requires-clause-within : goal.place_rows-requires-clause-within
place_rows-requires-clause-within c =
    let table = c.index-tables-i-in-loop-i.result in
    let image = c.index.result.now.items in
    let is = zip_seen (IsImage proto_key c.args.joined.now.rows.items) numbers_in (λ (v : Vec ℕ). v.items) c.args.tables.now c.args.joined.now.images.items c.loop-i.i table c.index.result.now c.requires.joined.parts_in c.loop-i-test.true c.index-tables-i-in-loop-i.is c.index.ensures in
    subst (All (λ (n : ℕ). n < length c.loop-i.places.items)) (sym c.deref-in-loop-i-2.ensures.value) (λ k d lt. omega (arith, get_or_default image k d 0 lt, is.within k (omega (arith, lt, is.count)), c.loop-i.invariant.count))

pub loop-i-preserved : goal.loop-i-preserved
loop-i-preserved c =
    let tables = c.args.tables.now in
    let joined = c.args.joined.now.rows.items in
    let images = c.args.joined.now.images.items in
    let i = c.loop-i.i in
    let h = c.loop-i.invariant in
    let table = c.index-tables-i-in-loop-i.result in
    let vector = c.index.result.now in
    let is = zip_seen (IsImage proto_key joined) numbers_in (λ (v : Vec ℕ). v.items) tables images i table vector c.requires.joined.parts_in c.loop-i-test.true c.index-tables-i-in-loop-i.is c.index.ensures in
    let same = get_or_default tables i c.index-tables-i.result table c.loop-i-test.true ∙ sym c.index-tables-i-in-loop-i.is in
    let rows = c.deref-in-loop-i.ensures.value ∙ sym (ap (λ (t : Protos). t.rows.items) c.index-tables-i-in-loop-i.is) in
    let old = c.loop-i.parameters.items in
    let new = c.extend_from_slice.new.self.items in
    let own = table.parameters.items in
    let grown : new ≡ old ++ own = c.in_ok-extend_from_slice.ensures.items ∙ ap (λ (l : List ℕ). old ++ l) (c.deref.ensures.value ∙ ap (λ (t : Protos). t.parameters.items) same) in
    let base : c.len-base.result ≡ length old = omega (arith, c.len-base.ensures, c.loop-i.parameters.ok.0) in
    let spans = subst HasSpans (sym c.index-tables-i-in-loop-i.is) (c.requires.spans i table c.loop-i-test.true) in
    let are : AreImages new joined c.len-base.result c.deref-in-loop-i.result.now c.deref-in-loop-i-2.result.now = rw (grown, base, rows, c.deref-in-loop-i-2.ensures.value) (are_images old table joined vector.items spans is) in
    let Old : ℕ → Type 0 = λ k. (e : Span) → HasParametersOf old joined k (get_or c.loop-i.places.items k e) in
    let New : ℕ → Type 0 = λ k. (e : Span) → HasParametersOf new joined k (get_or c.place_rows.new.places.items k e) in
    let kept : (k : ℕ) → Old k → New k = λ k has e.
    c.place_rows.ensures.kept new joined are k e (subst (λ (l : List ℕ). HasParametersOf l joined k (get_or c.loop-i.places.items k e)) (sym grown) (parameters_grown old own joined k (get_or c.loop-i.places.items k e) (has e))) in
    let placed : All New vector.items = subst (All New) c.deref-in-loop-i-2.ensures.value (c.place_rows.ensures.placed new joined are) in
    record {
      count = c.place_rows.ensures.count ∙ h.count;
      placed = All-more (λ (v : Vec ℕ). All New v.items) images i vector (within_other (IsImage proto_key joined) numbers_in (λ (v : Vec ℕ). v.items) tables images i _ refl c.requires.joined.parts_in c.loop-i-test.true)
          (All-weaker (λ (v : Vec ℕ). All Old v.items) (λ (v : Vec ℕ). All New v.items) (λ v all. All-weaker Old New kept v.items all) (take i images) h.placed)
          (subst (λ (v : Vec ℕ). All New v.items) c.index.ensures placed);
    }

pub placed-requires-clause-places : goal.placed-requires-clause-places
placed-requires-clause-places c =
    let tables = c.args.tables.now in
    let joined = c.args.joined.now.rows.items in
    let images = c.args.joined.now.images.items in
    let ps = c.loop-i.parameters.items in
    let places = c.loop-i.places.items in
    let Has : ℕ → Type 0 = λ k. (e : Span) → HasParametersOf ps joined k (get_or places k e) in
    let less : length images ≤ c.loop-i.i = omega (arith, c.loop-i-test.false, zip_length (IsImage proto_key joined) (map numbers_in tables) (lists_in images) c.requires.joined.parts_in, length-map tables numbers_in, length-map images (λ (v : Vec ℕ). v.items)) in
    let all : All (All Has) (lists_in images) = All-map (All Has) (λ (v : Vec ℕ). v.items) images (subst (All (λ (v : Vec ℕ). All Has v.items)) (take_all c.loop-i.i images less) c.loop-i.invariant.placed) in
    let have : HaveParameters ps joined places = λ k e lt.
    let at = has_image (map numbers_in tables) joined (lists_in images) c.requires.joined k (omega (arith, lt, c.loop-i.invariant.count)) in
    All-contains Has at.0 k (All-contains (All Has) (lists_in images) at.0 all at.1) at.2 e in
    rw (c.deref-3.ensures.value, c.deref-2.ensures.value) have
