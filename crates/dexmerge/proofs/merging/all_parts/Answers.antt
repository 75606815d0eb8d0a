use Rattle.dexmerge.proofs.Common.{◌≡◌, ◌++◌, ◌∙◌, List, ap, rules, map-append, Bor, Collection}
use Rattle.dexmerge.specs.{referents}
use Rattle.dexmerge.proofs.merging.all_parts.Goals as goal

pub returns : goal.returns
returns c =
    let files = c.args.files.now in
    let own : referents c.in_ok-parts.parts.items ≡ c.args.owned.now = search rules in
    ap (λ (l : List (Bor Collection)). referents l) c.in_ok-extend_from_slice.ensures.items ∙ map-append (λ (part : Bor Collection). part.now) c.in_ok-parts.parts.items files
    ∙ ap (λ (l : List Collection). l ++ referents files) own
