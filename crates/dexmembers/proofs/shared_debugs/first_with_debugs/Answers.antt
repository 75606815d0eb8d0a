use Rattle.dexmembers.proofs.Common.{◌≡◌, ◌∙◌, ap, arith, get_or, get_or_default, sym}
use Rattle.dexmembers.specs.{StoredMethod, item_at}
use Rattle.dexmembers.specs.internal.DebugPlaces.{debug_place}
use Rattle.dexmembers.proofs.SharedDebugs.{all_same, firsts_more, none_same, no_firsts, placed_debug, same_more, stored_place}
use Rattle.dexmembers.proofs.shared_debugs.first_with_debugs.Goals as goal

pub loop-i-init : goal.loop-i-init
loop-i-init g c =
    let items = c.args.items.now in
    record {
      same = λ debugs. rw c.in_ok-places.ensures.items (none_same (placed_debug debugs items) (stored_place items) c.args.methods.now);
      known = λ debugs. rw c.in_ok-firsts.ensures.items (no_firsts (placed_debug debugs items) (stored_place items) c.args.methods.now);
    }

pub loop-i-preserved : goal.loop-i-preserved
loop-i-preserved g c =
    let items = c.args.items.now in
    let place_of = stored_place items in
    let xs = c.args.methods.now in
    let i = c.loop-i.i in
    let debug = c.debug_place-debug.result in
    let own : place_of c.index-methods-i.result ≡ debug = ap place_of (sym c.method.view_is) ∙ sym c.debug_place-debug.ensures in
    let here : (d : StoredMethod) → place_of (get_or xs i d) ≡ debug = λ d. ap place_of (get_or_default xs i d c.index-methods-i.result c.loop-i-test.true ∙ sym c.index-methods-i.is) ∙ own in
    record {
      same = λ debugs. rw c.in_ok-push.ensures.items (same_more (placed_debug debugs items) place_of xs i c.loop-i.firsts.items (c.loop-i.invariant.known debugs) debug here (λ x y e. ap (item_at debugs) e) c.loop-i.places.items (c.loop-i.invariant.same debugs) c.in_ok-first_of.field-0 c.in_ok-first_of.ensures.first);
      known = λ debugs. firsts_more (placed_debug debugs items) place_of xs i c.loop-i.firsts.items (c.loop-i.invariant.known debugs) debug here c.first_of.new.firsts.items c.in_ok-first_of.ensures.known;
    }

pub returns : goal.returns
returns g c = λ debugs.
    let items = c.args.items.now in
    all_same (placed_debug debugs items) (stored_place items) c.args.methods.now c.loop-i.i c.loop-i.places.items (omega (arith, c.loop-i-test.false, c.loop-i.auto.i-end)) (c.loop-i.invariant.same debugs)
