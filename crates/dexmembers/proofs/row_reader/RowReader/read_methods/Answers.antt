use Rattle.dexmembers.proofs.Common.{◌≡◌, length, length-map, map, ap, refl, inr, ◌∙◌, ◌+◌, ◌++◌, ◌∷◌, [], List, Option, take, take_all, get_or, sym, subst, arith, Contains-get_or, take_more, err_from_is_err_and, AreRising, NumberedItem}
use Rattle.dexmembers.specs.declared.class_data.EncodedMethod.{EncodedMethod}
use Rattle.dexmembers.specs.HeldCodes.{codes_in}
use Rattle.dexmembers.specs.internal.Attaching.{held_codes}
use Rattle.dexmembers.specs.internal.MethodCodes.{AreCodesOf, IsCodesFaultWithin, kept_codes}
use Rattle.dexmembers.specs.{item_at, codes_weight, held_in}
use Rattle.dexmembers.proofs.CodesApart.{codes_append}
use Rattle.dexmembers.proofs.CodesOfMethods.{HaveReadCodes, all_read, fault_among, fault_within, heavy_read, none_read, one_more_read}
use Rattle.dexmembers.proofs.MethodsRead.{HaveReadMethods, code_more, held_codes_are, lists_below, methods_held_are, no_codes_stored, no_methods_read, one_more_method, sets_below, stored_codes}
use Rattle.dexmembers.proofs.row_reader.RowReader.read_methods.Goals as goal

-- used instead of a method that is missing
abbrev nothing : EncodedMethod
nothing = record { index = 0; flags = 0; code_off = 0 }

pub returns-in_err-code-clause-refused : goal.returns-in_err-code-clause-refused
returns-in_err-code-clause-refused c = λ pools.
    let b = c.args.self.now.frame.now in
    let xs = c.args.listed.now in
    let p = err_from_is_err_and c.from_residual-in_err-code.result c.from_residual-in_err-code.ensures.1 in
    rw (p.1, p.2) (fault_within b xs c.args.self.now.most c.in_err-code.field-0.0 (fault_among b xs (get_or xs c.loop-method.method-index nothing) c.in_err-code.field-0.0 (Contains-get_or xs c.loop-method.method-index nothing c.loop-method-test.true) (c.in_err-code.ensures.refused pools)))

pub returns-in-None-clause-refused : goal.returns-in-None-clause-refused
returns-in-None-clause-refused c = λ pools.
    let b = c.args.self.now.frame.now in
    let m = c.args.self.now.pools.now in
    let xs = c.args.listed.now in
    let most = c.args.self.now.most in
    let rising = subst AreRising c.numbering.ensures c.is_numbering.ensures.rising in
    let is = c.in_ok-code.ensures.read pools in
    subst (IsCodesFaultWithin b xs most) (sym c.too_heavy.ensures)
    (inr (refl, heavy_read b m xs c.loop-method.method-index most c.loop-method.left nothing (stored_codes (kept_codes c.loop-method.kept) c.loop-method.methods.items) (item_at (kept_codes c.place_code.new.kept) c.in_ok-code.code) c.loop-method-test.true (c.loop-method.invariant.read pools) is (c.in-None.ensures.symbolic m is.symbolic rising is.encodes)))

pub loop-method-init : goal.loop-method-init
loop-method-init c =
    let codes = kept_codes c.in_ok-kept.kept in
    let methods = c.in_ok-methods.methods.items in
    let none = no_codes_stored codes methods c.in_ok-methods.ensures.items in
    let b = c.args.self.now.frame.now in
    let m = c.args.self.now.pools.now in
    let most = c.args.self.now.most in
    record {
      read = λ pools. subst (λ (l : List (Option NumberedItem)). HaveReadCodes b m [] most most l) (sym none) (none_read b m most);
      weight = let nothing_weighs = ap codes_weight none in omega (arith, nothing_weighs);
      places = c.in_ok-kept.ensures.places;
      known = λ pools. c.in_ok-kept.ensures.read b m;
      methods = no_methods_read c.args.sets.now c.args.lists.now codes methods c.in_ok-kept.ensures.codes c.in_ok-methods.ensures.items;
    }

pub loop-method-preserved : goal.loop-method-preserved
loop-method-preserved c =
    let xs = c.args.listed.now in
    let i = c.loop-method.method-index in
    let x = get_or xs i nothing in
    let codes = kept_codes c.loop-method.kept in
    let old = c.loop-method.methods.items in
    let new = kept_codes c.place_code.new.kept in
    let code_here = item_at new c.in_ok-code.code in
    let methods = c.push.new.self.items in
    let more = sym (take_more xs i nothing c.loop-method-test.true) in
    let have = c.loop-method.invariant.methods in
    let kept = c.in_ok-code.ensures.kept in
    let code = code_more c.args.sets.now c.args.lists.now (take i xs) codes new old methods x _ code_here _ _ _ c.in_ok-push.ensures.items have kept in
    record {
      read = λ pools.
          let b = c.args.self.now.frame.now in
          let m = c.args.self.now.pools.now in
          let rising = subst AreRising c.numbering.ensures c.is_numbering.ensures.rising in
          let is = c.in_ok-code.ensures.read pools in
          subst (λ (l : List EncodedMethod). HaveReadCodes b m l c.args.self.now.most c.in-Some.rest (stored_codes new methods)) more
          (subst (λ (l : List (Option NumberedItem)). HaveReadCodes b m (take i xs ++ x ∷ []) c.args.self.now.most c.in-Some.rest l) (sym code)
          (one_more_read b m (take i xs) c.args.self.now.most c.loop-method.left c.in-Some.rest (stored_codes codes old) x code_here (c.loop-method.invariant.read pools) is (c.in-Some.ensures.symbolic m is.symbolic rising is.encodes)));
      weight =
          let all : codes_weight (stored_codes new methods) ≡ codes_weight (stored_codes codes old) + codes_weight (code_here ∷ []) = ap codes_weight code ∙ codes_append (stored_codes codes old) (code_here ∷ []) in
          let left = c.in-Some.ensures.numbered in
          omega (arith, all, left, c.loop-method.invariant.weight);
      places = c.in_ok-code.ensures.places;
      known = c.in_ok-code.ensures.known;
      methods = subst (λ (l : List EncodedMethod). HaveReadMethods c.args.sets.now c.args.lists.now l new methods) more
          (one_more_method c.args.sets.now c.args.lists.now (take i xs) codes new old methods x _ code_here _ _ _ c.in_ok-push.ensures.items have kept
          c.from_bits_retain.ensures c.in_ok-place_for.ensures.found c.in_ok-place_for-2.ensures.found c.in_ok-place_for.ensures.held c.in_ok-place_for-2.ensures.held);
    }

-- ---- all methods were read

pub returns-clause-placed : goal.returns-clause-placed
returns-clause-placed c = rw (c.in_ok-code_items.ensures ∙ c.into_list.ensures) c.loop-method.invariant.methods.places

pub returns-clause-read : goal.returns-clause-read
returns-clause-read c = λ pools.
    let b = c.args.self.now.frame.now in
    let m = c.args.self.now.pools.now in
    let xs = c.args.listed.now in
    let most = c.args.self.now.most in
    let codes = kept_codes c.loop-method.kept in
    let methods = c.loop-method.methods.items in
    rw (c.in_ok-code_items.ensures ∙ c.into_list.ensures) (subst (AreCodesOf b m xs most) (sym (held_codes_are codes methods))
    (all_read b m xs most c.loop-method.left (stored_codes codes methods)
    (subst (λ (l : List EncodedMethod). HaveReadCodes b m l most c.loop-method.left (stored_codes codes methods)) (take_all c.loop-method.method-index xs c.loop-method-test.false) (c.loop-method.invariant.read pools))))

pub returns-clause-many : goal.returns-clause-many
returns-clause-many c = length-map c.loop-method.methods.items (held_in (codes_in c.in_ok-code_items.code_items)) ∙ c.loop-method.invariant.methods.many ∙ ap length (take_all c.loop-method.method-index c.args.listed.now c.loop-method-test.false)

pub returns-clause-weight : goal.returns-clause-weight
returns-clause-weight c =
    let methods = c.loop-method.methods.items in
    let is = ap codes_weight (ap (λ codes. held_codes (map (held_in codes) methods)) (c.in_ok-code_items.ensures ∙ c.into_list.ensures) ∙ held_codes_are (kept_codes c.loop-method.kept) methods) in
    omega (arith, is, c.loop-method.invariant.weight)

pub returns-clause-methods : goal.returns-clause-methods
returns-clause-methods c =
    let codes = kept_codes c.loop-method.kept in
    let methods = c.loop-method.methods.items in
    rw (c.in_ok-code_items.ensures ∙ c.into_list.ensures) (methods_held_are c.args.sets.now c.args.lists.now c.args.listed.now codes methods
    (subst (λ (l : List EncodedMethod). HaveReadMethods c.args.sets.now c.args.lists.now l codes methods) (take_all c.loop-method.method-index c.args.listed.now c.loop-method-test.false) c.loop-method.invariant.methods))

pub returns-clause-sets_held : goal.returns-clause-sets_held
returns-clause-sets_held c = rw (c.in_ok-code_items.ensures ∙ c.into_list.ensures) (sets_below c.args.sets.now c.args.lists.now _ (kept_codes c.loop-method.kept) c.loop-method.methods.items c.loop-method.invariant.methods)

pub returns-clause-lists_held : goal.returns-clause-lists_held
returns-clause-lists_held c = rw (c.in_ok-code_items.ensures ∙ c.into_list.ensures) (lists_below c.args.sets.now c.args.lists.now _ (kept_codes c.loop-method.kept) c.loop-method.methods.items c.loop-method.invariant.methods)
