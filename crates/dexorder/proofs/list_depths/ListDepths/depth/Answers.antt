use Rattle.dexorder.proofs.Common.{◌∙◌, ap, get_or, None, sym}
use Rattle.dexorder.proofs.ListDepths.{found_depth}
use Rattle.dexorder.proofs.list_depths.ListDepths.depth.Goals as goal

pub returns : goal.returns
returns c =
    let l = c.args.self.now in
    let first = c.in_ok-first.ensures.lookup.3 in
    let found = ap (λ k. get_or l.depths.items k None) (sym (first.1 0)) ∙ ap (λ ds. get_or ds c.in_ok-first.field-0.now None) (sym c.deref.ensures.value) ∙ sym (c.in_ok-get.ensures.lookup.3.1 None) in
    found_depth l c.args.class c.in_ok-get.field-0.now first.0 found
