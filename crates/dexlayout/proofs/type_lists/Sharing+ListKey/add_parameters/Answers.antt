use Rattle.dexlayout.proofs.Common.{◌≡◌, ◌<◌, [], ◌∷◌, ◌++◌, get_or, map, length, take, List, Text, subst, sym, ap, ◌∙◌, arith, get_or_default, unless_empty, type_at, AreTypes, SharesLists}
use Rattle.dexspec.specs.Symbols.{Proto}
use Rattle.dexpool.proofs.Ranking.{listed_at, listed_within}
use Rattle.dexlayout.proofs.SharedUses.{uses_next}
use Rattle.dexlayout.proofs.EarlierLists.{no_proto, earlier_list, lists_before}
use Rattle.dexlayout.proofs.type_lists.Sharing+ListKey.add_parameters.Goals as goal

pub loop-i-preserved : goal.loop-i-preserved
loop-i-preserved c =
    let m = c.args.numbering.now in
    let i = c.loop-i.i in
    let lt : i < length m.protos = omega (arith, c.loop-i-test.true, c.count-i-end.ensures) in
    let p = get_or m.protos i no_proto in
    let use_of : Proto → _ = λ (q : Proto). unless_empty q.parameters in
    let listed = (c.proto.ensures no_proto).parameters_are in
    let means : map (type_at m) c.parameters.result ≡ p.parameters = ap (map (type_at m)) c.parameters.ensures ∙ listed_at m.types [] c.proto.result.parameters p.parameters listed in
    let known : AreTypes m c.parameters.result = subst (AreTypes m) (sym c.parameters.ensures) (listed_within m.types c.proto.result.parameters p.parameters listed) in
    record {
      before = c.loop-i.invariant.before;
      more = omega (arith, c.in_ok-add_list_at.ensures.more, c.loop-i.invariant.more);
      uses = λ us h.
          let so_far = us ++ map use_of (take i m.protos) in
          let start = c.loop-i.invariant.before ∙ lists_before m h in
          subst (λ vs. SharesLists m vs c.add_list_at.new.self.items.keys c.add_list_at.new.self.numbers.items)
          (ap (λ ts. so_far ++ unless_empty ts ∷ []) means ∙ uses_next use_of us m.protos i p lt (get_or_default m.protos i p no_proto lt))
          (c.in_ok-add_list_at.ensures.added m so_far known
          (λ within. earlier_list use_of m.protos no_proto us i lt c.len-before.result start c.in_ok-first.first (ap (λ (l : List Text). unless_empty l) (c.in_ok-first.ensures.equal no_proto)) within ∙ ap (λ (l : List Text). unless_empty l) (sym means))
          (c.loop-i.invariant.uses us h));
    }
