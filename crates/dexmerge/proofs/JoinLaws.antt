-- A join of what parts mention is what their union mentions.
use Rattle.dexmerge.proofs.Common.{◌≡◌, ◌∙◌, Bor, List, [], ◌∷◌, map, sym, ap, subst, AllZip, flat_map, Definition, Collection, definitions, Mentions, mentions, AreRising, Maps, AllMapTo, union_of, MapsAll, MapsAllInto, map-map, flat_map-map, zip_length}
use Rattle.dexmerge.specs.internal.Unions.{IsJoined}

abbrev own : Bor Collection → Mentions
own part = mentions (definitions part.now)

abbrev now_of : Bor Collection → Collection
now_of part = part.now

-- each part is mapped into the whole
all_map_to : (parts : List (Bor Collection)) (m : Mentions) (remaps : List Maps) → AllZip (λ n r. AllMapTo n m r) (map own parts) remaps → AllZip MapsAll (map own parts) remaps
    → AllZip (λ part r. MapsAllInto (mentions (definitions part)) m r) (map now_of parts) remaps
all_map_to [] m [] f g = tt
all_map_to (p ∷ ps) m (r ∷ rs) f g = (record { are_mapped = f.0; all = g.0 }, all_map_to ps m rs f.1 g.1)
all_map_to _ m _ f g = absurd f

pub joined_is : (parts : List (Bor Collection)) (ms : List Mentions) (m : Mentions) (remaps : List Maps) → ms ≡ map own parts → m ≡ union_of ms → AreRising m
    → ((lists : List (List Definition)) → mentions (flat_map (λ (l : List Definition). l) lists) ≡ union_of (map mentions lists)) → AllZip (λ n r. AllMapTo n m r) ms remaps → AllZip MapsAll ms remaps → IsJoined (map now_of parts) m remaps
joined_is parts ms m remaps given union rising law are_mapped whole =
    let Ks = map now_of parts in
    let zip = all_map_to parts m remaps (subst (λ (l : List Mentions). AllZip (λ n r. AllMapTo n m r) l remaps) given are_mapped) (subst (λ (l : List Mentions). AllZip MapsAll l remaps) given whole) in
    record {
      mentions_are = union ∙ ap union_of given ∙ ap union_of ((sym (map-map mentions (λ part. definitions (now_of part)) parts) ∙ sym (ap (map mentions) (map-map definitions now_of parts)))) ∙ sym (law (map definitions Ks)) ∙ ap mentions (flat_map-map (λ (l : List Definition). l) definitions Ks);
      rising = rising;
      count = sym (zip_length (λ part r. MapsAllInto (mentions (definitions part)) m r) Ks remaps zip);
      are_mapped = zip;
    }
