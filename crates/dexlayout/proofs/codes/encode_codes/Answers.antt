use Rattle.dexlayout.proofs.Common.{◌≡◌, ◌+◌, ◌<◌, ◌++◌, List, length, get_or, drop, arith, refl, ap, sym, subst, ◌∙◌, drop_all, get_or_append_left, length-append, length-drop, NumberedMethod, methods_of, drop_at, NumberedClass, ItemPlaces, EncodedItems, ordered_of, code_item, code_items, encode_uses, no_items_from}
use Rattle.dexlayout.proofs.CodeItems.{CodesLeftOf, codes_laid, codes_left, methods_in_all, next_fits, next_left, next_methods, none_left, one_short}
use Rattle.dexlayout.proofs.EncodedUses.{IsGiven, given_next}
use Rattle.dexlayout.proofs.Ends.{end_in_file}
use Rattle.dexlayout.proofs.codes.encode_codes.Goals as goal
use Rattle.dexlayout.proofs.codes.encode_codes.Goals.{After-method_at}

-- all of the code
abbrev all_codes : List NumberedClass → ItemPlaces → EncodedItems
all_codes cs debugs = encode_uses 4 (no_items_from debugs.end) (code_items (methods_in_all cs) debugs.offsets)

pub loop-class-init : goal.loop-class-init
loop-class-init g c = record {
  items = no_items_from c.args.debugs.now.end;
  keeps = record { ends = sym c.end-at.ensures; given = g.met.O.Output.nothing c.args.out.now };
  left = codes_left c.requires.0 c.args.classes.now c.requires.1 c.code_types_law.ensures c.args.debugs.now c.requires.2 (no_items_from c.args.debugs.now.end) c.offsets-rest.result.now refl c.offsets-rest.ensures;
}

pub loop-i-init : goal.loop-i-init
loop-i-init g c =
    subst (λ xs. CodesLeftOf (IsGiven g.O.Output.gives c.args.out.now c.loop-class.at c.loop-class.out) xs c.loop-class.rest.now (all_codes c.args.classes.now c.args.debugs.now))
    (next_methods c.args.classes.now c.loop-class.class-index c.class-item.result c.members-members.result.now c.loop-class-test.true (sym c.class-item.is) c.members-members.ensures) c.loop-class.invariant

-- the methods of the class, and of those after it
abbrev methods : (g : _) → After-method_at g → List NumberedMethod
methods g c = methods_of c.members-members.result.now ++ methods_in_all (drop (c.loop-class.class-index + 1) c.args.classes.now)

within : (g : _) (c : After-method_at g) → c.loop-i.i < length (methods g c)
within g c = omega (arith, c.loop-i-test.true, c.method_count-count.ensures, length-append (methods_of c.members-members.result.now) (methods_in_all (drop (c.loop-class.class-index + 1) c.args.classes.now)))

is : (g : _) (c : After-method_at g) → get_or (methods g c) c.loop-i.i c.method_at.result ≡ c.method_at.result
is g c =
    get_or_append_left (methods_of c.members-members.result.now) (methods_in_all (drop (c.loop-class.class-index + 1) c.args.classes.now)) c.method_at.result c.loop-i.i (omega (arith, c.loop-i-test.true, c.method_count-count.ensures))
    ∙ sym c.method_at.ensures

pub offset_bounds-rest-i : goal.offset_bounds-rest-i
offset_bounds-rest-i g c = omega (arith, c.loop-i-test.true, c.method_count-count.ensures, c.are_few.ensures.few_methods, length-append c.members-members.result.now.direct_methods c.members-members.result.now.virtual_methods)

pub bounds-rest-i : goal.bounds-rest-i
bounds-rest-i g c =
    let here = (goal.at.bounds-rest-i g c).After-method_at in
    omega (arith, within g here, c.loop-i.invariant.left.enough, length-drop c.loop-i.i (methods g here), length-drop c.loop-i.i c.loop-class.rest.now)

pub encode_method-at-requires-clause-short : goal.encode_method-at-requires-clause-short
encode_method-at-requires-clause-short g c =
    let here = (goal.at.encode_method-at-requires-clause-short g c).After-method_at in
    one_short {all = all_codes c.args.classes.now c.args.debugs.now} (methods g here) c.loop-class.rest.now c.loop-i.i c.method_at.result (within g here) (is g here) c.loop-i.invariant.left

pub encode_method-at-requires-clause-fits : goal.encode_method-at-requires-clause-fits
encode_method-at-requires-clause-fits g c =
    let here = (goal.at.encode_method-at-requires-clause-fits g c).After-method_at in
    omega (
      arith,
      next_fits {all = all_codes c.args.classes.now c.args.debugs.now} c.loop-i.at (λ items given. given.ends) (methods g here) c.loop-class.rest.now c.loop-i.i c.method_at.result (within g here) (is g here) c.loop-i.invariant,
      (codes_laid c.requires.0 c.args.classes.now c.requires.1 c.code_bytes_law.ensures.bytes c.args.debugs.now c.requires.2).places_are.end_is,
      (end_in_file (ordered_of c.requires.0 c.args.classes.now) c.requires.1.fits).codes,
    )

pub loop-i-preserved : goal.loop-i-preserved
loop-i-preserved g c =
    let here = (goal.at.loop-i-preserved g c).After-method_at in
    next_left (methods g here) c.loop-class.rest.now c.loop-i.i c.method_at.result (within g here) (is g here) c.loop-i.invariant (given_next (code_item c.method_at.result (get_or c.loop-class.rest.now c.loop-i.i 0)) g.met.O.Output.both c.encode_method-at.ensures.end c.encode_method-at.ensures.given)

pub split_at-requires : goal.split_at-requires
split_at-requires g c =
    let next = next_methods c.args.classes.now c.loop-class.class-index c.class-item.result c.members-members.result.now c.loop-class-test.true (sym c.class-item.is) c.members-members.ensures in
    omega (arith, c.method_count-count.ensures, c.loop-class.invariant.left.enough, ap (λ (xs : List NumberedMethod). length xs) next, length-append (methods_of c.members-members.result.now) (methods_in_all (drop (c.loop-class.class-index + 1) c.args.classes.now)))

pub loop-class-preserved : goal.loop-class-preserved
loop-class-preserved g c =
    let following = methods_in_all (drop (c.loop-class.class-index + 1) c.args.classes.now) in
    let all = all_codes c.args.classes.now c.args.debugs.now in
    let at : c.loop-i.i ≡ c.method_count-count.result = omega (arith, c.loop-i-test.false) in
    subst (λ offs. CodesLeftOf (IsGiven g.O.Output.gives c.args.out.now c.loop-i.at c.loop-i.out) following offs all) (ap (λ n. drop n c.loop-class.rest.now) at ∙ sym c.split_at.ensures.back)
    (subst (λ xs. CodesLeftOf (IsGiven g.O.Output.gives c.args.out.now c.loop-i.at c.loop-i.out) xs (drop c.loop-i.i c.loop-class.rest.now) all) (drop_at (methods_of c.members-members.result.now) following c.loop-i.i (omega (arith, at, c.method_count-count.ensures))) c.loop-i.invariant)

pub returns : goal.returns
returns g c = λ m w laid.
    let cs = c.args.classes.now in
    let all = none_left {all = all_codes cs c.args.debugs.now} (ap methods_in_all (drop_all c.loop-class.class-index cs c.loop-class-test.false)) c.loop-class.invariant in
    subst (λ bytes. g.O.Output.gives bytes c.args.out.now c.loop-class.out) (codes_laid m cs w c.code_bytes_law.ensures.bytes c.args.debugs.now laid).bytes_are all.given
