use Rattle.dexlayout.proofs.Common.{◌≡◌, ◌+◌, ◌<◌, ◌++◌, List, length, get_or, drop, arith, refl, ap, sym, subst, ◌∙◌, drop_all, get_or_append_left, length-append, length-drop, NumberedMethod, methods_of, drop_at, NumberedClass, ItemPlaces, EncodedItems, AreKept, ordered_of, code_items, encode_uses, no_items_from}
use Rattle.dexlayout.proofs.CodeItems.{CodesLeftOf, codes_laid, codes_left, kept_in, methods_in_all, next_fits, next_left, next_methods, none_left, one_short}
use Rattle.dexlayout.proofs.Ends.{end_in_file}
use Rattle.dexlayout.proofs.codes.place_codes.Goals as goal
use Rattle.dexlayout.proofs.codes.place_codes.Goals.{After-method_at}

-- all of the code
abbrev all_codes : List NumberedClass → ItemPlaces → EncodedItems
all_codes cs debugs = encode_uses 4 (no_items_from debugs.end) (code_items (methods_in_all cs) debugs.offsets)

pub loop-class-init : goal.loop-class-init
loop-class-init c = record {
  items = no_items_from c.args.debugs.now.end;
  keeps = subst (λ e. AreKept (no_items_from e) c.in_ok-codes.codes) c.end.ensures c.in_ok-codes.ensures;
  left = codes_left c.requires.0 c.args.input.now.classes.now c.requires.1 c.code_types_law.ensures c.args.debugs.now c.requires.2 (no_items_from c.args.debugs.now.end) c.offsets-rest.result.now refl c.offsets-rest.ensures;
}

pub loop-i-init : goal.loop-i-init
loop-i-init c =
    subst (λ xs. CodesLeftOf (λ items. AreKept items c.loop-class.codes) xs c.loop-class.rest.now (all_codes c.args.input.now.classes.now c.args.debugs.now))
    (next_methods c.args.input.now.classes.now c.loop-class.class-index c.class-item.result c.members-members.result.now c.loop-class-test.true (sym c.class-item.is) c.members-members.ensures) c.loop-class.invariant

-- the methods of the class, and of those after it
abbrev methods : After-method_at → List NumberedMethod
methods c = methods_of c.members-members.result.now ++ methods_in_all (drop (c.loop-class.class-index + 1) c.args.input.now.classes.now)

within : (c : After-method_at) → c.loop-i.i < length (methods c)
within c = omega (arith, c.loop-i-test.true, c.method_count-count.ensures, length-append (methods_of c.members-members.result.now) (methods_in_all (drop (c.loop-class.class-index + 1) c.args.input.now.classes.now)))

is : (c : After-method_at) → get_or (methods c) c.loop-i.i c.method_at.result ≡ c.method_at.result
is c =
    get_or_append_left (methods_of c.members-members.result.now) (methods_in_all (drop (c.loop-class.class-index + 1) c.args.input.now.classes.now)) c.method_at.result c.loop-i.i (omega (arith, c.loop-i-test.true, c.method_count-count.ensures))
    ∙ sym c.method_at.ensures

pub offset_bounds-rest-i : goal.offset_bounds-rest-i
offset_bounds-rest-i c = omega (arith, c.loop-i-test.true, c.method_count-count.ensures, c.are_few.ensures.few_methods, length-append c.members-members.result.now.direct_methods c.members-members.result.now.virtual_methods)

pub bounds-rest-i : goal.bounds-rest-i
bounds-rest-i c =
    let here = (goal.at.bounds-rest-i c).After-method_at in
    omega (arith, within here, c.loop-i.invariant.left.enough, length-drop c.loop-i.i (methods here), length-drop c.loop-i.i c.loop-class.rest.now)

pub put_method-requires-clause-short : goal.put_method-requires-clause-short
put_method-requires-clause-short c =
    let here = (goal.at.put_method-requires-clause-short c).After-method_at in
    one_short (methods here) c.loop-class.rest.now c.loop-i.i c.method_at.result (within here) (is here) c.loop-i.invariant.left

pub put_method-requires-clause-fits : goal.put_method-requires-clause-fits
put_method-requires-clause-fits c =
    let here = (goal.at.put_method-requires-clause-fits c).After-method_at in
    omega (
      arith,
      next_fits c.loop-i.codes.places.end (λ items kept. ap (λ (p : ItemPlaces). p.end) (sym kept.places_are)) (methods here) c.loop-class.rest.now c.loop-i.i c.method_at.result (within here) (is here) c.loop-i.invariant,
      (codes_laid c.requires.0 c.args.input.now.classes.now c.requires.1 c.code_bytes_law.ensures.bytes c.args.debugs.now c.requires.2).places_are.end_is,
      (end_in_file (ordered_of c.requires.0 c.args.input.now.classes.now) c.requires.1.fits).codes,
    )

pub loop-i-preserved : goal.loop-i-preserved
loop-i-preserved c =
    let here = (goal.at.loop-i-preserved c).After-method_at in
    next_left (methods here) c.loop-class.rest.now c.loop-i.i c.method_at.result (within here) (is here) c.loop-i.invariant c.in_ok-put_method.ensures

pub split_at-requires : goal.split_at-requires
split_at-requires c =
    let next = next_methods c.args.input.now.classes.now c.loop-class.class-index c.class-item.result c.members-members.result.now c.loop-class-test.true (sym c.class-item.is) c.members-members.ensures in
    omega (arith, c.method_count-count.ensures, c.loop-class.invariant.left.enough, ap (λ (xs : List NumberedMethod). length xs) next, length-append (methods_of c.members-members.result.now) (methods_in_all (drop (c.loop-class.class-index + 1) c.args.input.now.classes.now)))

pub loop-class-preserved : goal.loop-class-preserved
loop-class-preserved c =
    let following = methods_in_all (drop (c.loop-class.class-index + 1) c.args.input.now.classes.now) in
    let all = all_codes c.args.input.now.classes.now c.args.debugs.now in
    let at : c.loop-i.i ≡ c.method_count-count.result = omega (arith, c.loop-i-test.false) in
    subst (λ offs. CodesLeftOf (λ items. AreKept items c.loop-i.codes) following offs all) (ap (λ n. drop n c.loop-class.rest.now) at ∙ sym c.split_at.ensures.back)
    (subst (λ xs. CodesLeftOf (λ items. AreKept items c.loop-i.codes) xs (drop c.loop-i.i c.loop-class.rest.now) all) (drop_at (methods_of c.members-members.result.now) following c.loop-i.i (omega (arith, at, c.method_count-count.ensures))) c.loop-i.invariant)

pub returns : goal.returns
returns c = λ m w laid.
    let cs = c.args.input.now.classes.now in
    kept_in (codes_laid m cs w c.code_bytes_law.ensures.bytes c.args.debugs.now laid) (none_left (ap methods_in_all (drop_all c.loop-class.class-index cs c.loop-class-test.false)) c.loop-class.invariant)
