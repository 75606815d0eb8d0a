use Rattle.dexpool.proofs.Common.{refl, ap, map, sym, ◌∙◌, subst, take_all, All, All-weaker, Mentions, Text, AreSorted, IsJoin, all_seen as seen_all, IsNumbering, AreJoinedTexts}
use Rattle.dexpool.proofs.Pairs.{all_seen, seen_more, All_more, map_both}
use Rattle.dexpool.proofs.TablesAreAt.{are_numbering}
use Rattle.dexpool.proofs.JoinedLevels.{texts_joined}
use Rattle.dexpool.proofs.joined_tables.join_strings.Goals as goal

pub loop-part-preserved : goal.loop-part-preserved
loop-part-preserved c = record {
  seen = seen_more (λ texts. texts.items) (λ part. part.now.texts) c.loop-part.rows.items c.push.new.self.items c.args.parts.now c.loop-part.part-index c.in_ok-keyed_texts.field-0 c.part-item.result c.loop-part-test.true c.loop-part.invariant.seen c.in_ok-push.ensures.items
      (c.in_ok-keyed_texts.ensures ∙ c.deref.ensures.value ∙ ap (λ (m : Mentions). m.texts) c.tables.ensures.symbols ∙ ap (λ part. part.now.texts) c.part-item.is);
  numberings = All_more IsNumbering (λ part. part.now) c.args.parts.now c.loop-part.part-index c.part-item.result c.loop-part-test.true c.part-item.is c.loop-part.invariant.numberings
      (subst IsNumbering c.tables.ensures.symbols (are_numbering c.tables.result.now c.tables.ensures.tables));
}

pub join_rows-requires : goal.join_rows-requires
join_rows-requires c =
    let all = take_all c.loop-part.part-index c.args.parts.now c.loop-part-test.false in
    let numberings = subst (λ parts. All IsNumbering (map (λ part. part.now) parts)) all c.loop-part.invariant.numberings in
    let seen = ap (map (λ texts. texts.items)) c.deref-2.ensures.value ∙ c.loop-part.invariant.seen ∙ ap (map (λ part. part.now.texts)) all in
    all_seen (λ texts. texts.items) (λ part. part.now.texts) (AreSorted (λ (t : Text). t)) c.deref-2.result.now c.args.parts.now seen
    (seen_all (λ part. part.now) (λ (m : Mentions). AreSorted (λ (t : Text). t) m.texts) c.args.parts.now
    (All-weaker IsNumbering (λ (m : Mentions). AreSorted (λ (t : Text). t) m.texts) (λ m n. n.rising.texts_rise) (map (λ part. part.now) c.args.parts.now) numberings))

pub returns-clause-numberings : goal.returns-clause-numberings
returns-clause-numberings c = subst (λ parts. All IsNumbering (map (λ part. part.now) parts)) (take_all c.loop-part.part-index c.args.parts.now c.loop-part-test.false) c.loop-part.invariant.numberings

pub returns-clause-texts : goal.returns-clause-texts
returns-clause-texts c =
    let all = take_all c.loop-part.part-index c.args.parts.now c.loop-part-test.false in
    let numberings = subst (λ parts. All IsNumbering (map (λ part. part.now) parts)) all c.loop-part.invariant.numberings in
    let parts = map (λ part. part.now) c.args.parts.now in
    let images = map (λ image. image.items) c.in_ok-joined.joined.images.items in
    let seen = ap (map (λ texts. texts.items)) c.deref-2.ensures.value ∙ c.loop-part.invariant.seen ∙ ap (map (λ part. part.now.texts)) all ∙ sym (map_both (λ part. part.now) (λ (m : Mentions). m.texts) (λ part. part.now.texts) c.args.parts.now (λ k d lt. refl)) in
    let rows = c.in_ok-plain_texts.ensures ∙ c.deref-3.ensures.value in
    subst (λ texts. AreJoinedTexts parts texts images) (sym rows) (texts_joined parts numberings c.in_ok-joined.joined.rows.items images (subst (λ ts. IsJoin (λ (t : Text). t) ts c.in_ok-joined.joined.rows.items images) seen c.in_ok-joined.ensures))
