use Rattle.std.proofs.lemmas.Iterator.{YieldsList-from_map_by, YieldsList-from_slice}
use Rattle.std.proofs.lemmas.Iterator.Consumers.{YieldsList-at, map_from_collect}
use Rattle.std.proofs.Common.{Ok}
use Rattle.std.specs.declared.alloc.AllocError.{AllocError}
use Rattle.dexmerge.proofs.Common.{◌≡◌, ◌∙◌, Bor, List, map, ap, rules, Collection, definitions, Mentions, mentions}
use Rattle.dexmerge.proofs.JoinLaws.{joined_is}
use Rattle.dexmerge.proofs.merging.joined.Goals as goal

pub returns : goal.returns
returns c =
    let parts = c.args.parts.now in
    let all : map (λ n. n.now) c.in_ok-numberings.numberings.items ≡ map (λ part. mentions (definitions part.now)) parts =
    map_from_collect {E = AllocError} (Ok c.in_ok-numberings.numberings) c.in_ok-numberings.ensures.ran
    (YieldsList-from_map_by _ (λ n. n.now) (λ (part : Bor Collection). mentions (definitions part.now)) (YieldsList-at c.map.ensures.source (YieldsList-from_slice parts cc)) c.map.ensures.closure (λ x r q k. search rules)) in
    let given : map (λ n. n.now) c.deref.result.now ≡ map (λ part. mentions (definitions part.now)) parts = ap (λ (l : List (Bor Mentions)). map (λ n. n.now) l) c.deref.ensures.value ∙ all in
    joined_is parts (map (λ n. n.now) c.deref.result.now) c.in_ok-numbering.numbering c.in_ok-numbering.remaps.items given c.in_ok-numbering.ensures.union c.is_numbering.ensures.rising c.mentions_law.ensures c.in_ok-numbering.ensures.maps c.in_ok-numbering.ensures.whole
