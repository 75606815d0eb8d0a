use Rattle.dexmerge.proofs.Common.{◌≡◌, ◌∙◌, ◌++◌, ◌∷◌, List, [], sym, ap, take, take_more, Collection}
use Rattle.dexmerge.proofs.plan_union.copied.Goals as goal

pub loop-file-preserved : goal.loop-file-preserved
loop-file-preserved c =
    let K = c.in_ok-copy.field-0 in
    c.in_ok-push.ensures.items ∙ ap (λ (l : List Collection). l ++ K ∷ []) c.loop-file.invariant
    ∙ ap (λ (x : Collection). take c.loop-file.file-index c.args.files.now ++ x ∷ []) (c.in_ok-copy.ensures ∙ c.file-item.is)
    ∙ sym (take_more c.args.files.now c.loop-file.file-index c.file-item.result c.loop-file-test.true)
