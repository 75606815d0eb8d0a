use Rattle.dexlayout.proofs.Common.{◌≡◌, ℕ, List, [], ◌∷◌, ◌++◌, map, take, subst, sym, ap, ◌∙◌, ◌<◌, arith, option_to_list, length, All-tail, all_back, get_or, get_or_default, unless_empty, IsKnownClass, AreTypes, SharesLists, interfaces_use}
use Rattle.dexpool.specs.NumberedSymbols.{type_at}
use Rattle.dexlayout.proofs.SharedUses.{uses_next}
use Rattle.dexlayout.proofs.EarlierLists.{earlier_list, lists_before}
use Rattle.dexlayout.proofs.type_lists.Sharing+ListKey.add_interfaces.Goals as goal

pub loop-i-preserved : goal.loop-i-preserved
loop-i-preserved c =
    let cs = c.args.classes.now in
    let i = c.loop-i.i in
    let x = c.index-classes-i.result in
    record {
      before = c.loop-i.invariant.before;
      more = omega (arith, c.in_ok-add_list_at.ensures.more, c.loop-i.invariant.more);
      uses = λ m us known h.
          let here : IsKnownClass m x = subst (IsKnownClass m) (sym c.index-classes-i.is) (known i x c.loop-i-test.true) in
          let types = all_back (λ n. n < length m.types) (option_to_list x.superclass) x.interfaces (All-tail (λ n. n < length m.types) x.name (option_to_list x.superclass ++ x.interfaces) here.types_in) in
          let means : c.interfaces.result ≡ x.interfaces = c.interfaces.ensures in
          let use_of : List ℕ → _ = λ (ns : List ℕ). unless_empty (map (type_at m) ns) in
          let so_far = us ++ map (interfaces_use m) (take i cs) in
          let start = c.loop-i.invariant.before ∙ lists_before m h in
          let firsts = c.in_ok-firsts.ensures in
          let first = c.index.result.now in
          let first_is = c.index.ensures ∙ get_or_default c.in_ok-firsts.firsts.items i first 0 (omega (arith, c.loop-i-test.true, firsts.count)) in
          let equal = subst (λ (n : ℕ). (get_or cs n x).interfaces ≡ (get_or cs i x).interfaces) (sym first_is) (firsts.equal i x c.loop-i-test.true) in
          let taken = earlier_list (interfaces_use m) cs x us i c.loop-i-test.true c.len-before.result start first (ap use_of equal) in
          subst (λ vs. SharesLists m vs c.add_list_at.new.self.items.keys c.add_list_at.new.self.numbers.items)
          (ap (λ ns. so_far ++ use_of ns ∷ []) means ∙ uses_next (interfaces_use m) us cs i x c.loop-i-test.true (sym c.index-classes-i.is))
          (c.in_ok-add_list_at.ensures.added m so_far (subst (AreTypes m) (sym means) types)
          (λ within. taken within ∙ ap (interfaces_use m) (sym c.index-classes-i.is) ∙ ap use_of (sym means))
          (c.loop-i.invariant.uses m us known h));
    }
