use Rattle.dexrows.proofs.Common.{map, arith, sym, ap, ◌∙◌, subst, map-append}
use Rattle.std.proofs.lemmas.Result.{IfOk-weaker}
use Rattle.dexrows.specs.Join.{IsJoin}
use Rattle.dexrows.specs.internal.Merge.{IsJoinOfTwo}
use Rattle.dexrows.proofs.JoinedParts.{list_of_one, list_of_two, join_of_one, join_of_both}
use Rattle.dexrows.proofs.joining.+join.Goals as goal

pub returns-in_ok-vec-in-len1 : goal.returns-in_ok-vec-in-len1
returns-in_ok-vec-in-len1 g t c =
    join_of_one g.R.Row.key_of (λ part. part.now) (λ image. image.items) c.args.parts.now c.in_ok-merged-in-len1.merged.rows.items c.part-item.result c.in_ok-merged-in-len1.merged.left_places c.in_ok-vec-in-len1.field-0.items c.in_ok-merged-in-len1.merged.right_places.items
    (list_of_one c.args.parts.now c.part-item.result (omega arith) (omega arith) c.part-item.is) c.in_ok-vec-in-len1.ensures.items c.in_ok-merged-in-len1.ensures

pub returns-in_ok-vec-in-len2 : goal.returns-in_ok-vec-in-len2
returns-in_ok-vec-in-len2 g t c =
    join_of_both g.R.Row.key_of (λ part. part.now) (λ image. image.items) c.args.parts.now c.in_ok-merged-in-len2.merged.rows.items c.left-item.result c.right-item.result c.in_ok-merged-in-len2.merged.left_places c.in_ok-merged-in-len2.merged.right_places c.in_ok-vec-in-len2.field-0.items
    (list_of_two c.args.parts.now c.left-item.result c.right-item.result (omega arith) (omega arith) c.left-item.is c.right-item.is) c.in_ok-vec-in-len2.ensures.items c.in_ok-merged-in-len2.ensures

pub returns-in_ok-right-in_default : goal.returns-in_ok-right-in_default
returns-in_ok-right-in_default g t c =
    let key = g.R.Row.key_of in
    let left = c.in_ok-left-in_default.left in
    let right = c.in_ok-right-in_default.right in
    let whole = ap (map (λ part. part.now)) c.split_at.ensures.by_index.0 ∙ map-append (λ part. part.now) c.split_at.result.0.now c.split_at.result.1.now in
    IfOk-weaker c.join_two.result (λ joined. IsJoinOfTwo key left.rows.items (map (λ image. image.items) left.images.items) right.rows.items (map (λ image. image.items) right.images.items) joined.rows.items (map (λ image. image.items) joined.images.items))
    (λ joined. IsJoin key (map (λ part. part.now) c.args.parts.now) joined.rows.items (map (λ image. image.items) joined.images.items))
    (λ joined h. subst (λ parts. IsJoin key parts joined.rows.items (map (λ image. image.items) joined.images.items)) (sym whole) (h _ _ c.in_ok-left-in_default.ensures c.in_ok-right-in_default.ensures)) c.join_two.ensures
