-- Lists that an earlier use is known to have.
use Rattle.dexlayout.proofs.Common.{◌≡◌, ℕ, ◌+◌, ◌<◌, ◌++◌, List, [], sym, Option, None, length, map, take, get_or, ap, ◌∙◌, arith, get_or-append-add, get_or-map, get_or-take, length-append, length-map, option_map, type_at, Text, SharesLists}
use Rattle.std.proofs.lemmas.List.{length-take}
use Rattle.dexspec.specs.Mentions.{Mentions}
use Rattle.dexspec.specs.Symbols.{Proto}

-- used instead of a proto that is missing
abbrev pub no_proto : Proto
no_proto = record { return_type = []; parameters = [] }

-- there is a number for each use
pub lists_before : (m : Mentions) {uses : List (Option (List Text))} {written : List (List ℕ)} {numbers : List (Option ℕ)} → SharesLists m uses written numbers → length numbers ≡ length uses
lists_before m h = ap length h.items.numbers_are ∙ length-map h.used _ ∙ sym (length-map h.used (option_map (map (type_at m)))) ∙ ap length h.mean

-- where the use of a member has a place, it is that of one whose use is the same
pub earlier_list : {X Y : Type 0} (use_of : X → Option Y) (xs : List X) (d : X) (uses : List (Option Y)) (i : ℕ) → i < length xs → (before : ℕ) → before ≡ length uses → (first : ℕ) → use_of (get_or xs first d) ≡ use_of (get_or xs i d)
    → before + first < length (uses ++ map use_of (take i xs)) → get_or (uses ++ map use_of (take i xs)) (before + first) None ≡ use_of (get_or xs i d)
earlier_list use_of xs d uses i lt before is first same within =
    let less : first < i = omega (arith, within, is, length-append uses (map use_of (take i xs)), length-map (take i xs) use_of, length-take i xs) in
    ap (λ (n : ℕ). get_or (uses ++ map use_of (take i xs)) (n + first) None) is
    ∙ get_or-append-add uses (map use_of (take i xs)) first None
    ∙ get_or-map use_of (take i xs) first d None (omega (arith, less, lt, length-take i xs))
    ∙ ap use_of (get_or-take i xs first d less)
    ∙ same
