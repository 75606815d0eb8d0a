-- Places that are replaced by the items there.
use Rattle.dexrows.proofs.Common.{◌≡◌, ℕ, ◌+◌, ◌<◌, List, [], ◌∷◌, ◌++◌, length, get_or, map, take, drop, sym, ap, ◌∙◌, subst, arith, set, All, length-map, get_or-map, get_or-drop, map-append, take_more, take_more_set, drop-set-lt, drop_more}

-- the item at the first place of rests that are the same
pub at_rest : {X : Type 0} (xs ys : List X) (i : ℕ) (d : X) → drop i ys ≡ drop i xs → get_or ys i d ≡ get_or xs i d
at_rest xs ys i d rest = ap (λ k. get_or ys k d) (omega arith) ∙ sym (get_or-drop i ys 0 d) ∙ ap (λ zs. get_or zs 0 d) rest ∙ get_or-drop i xs 0 d ∙ ap (λ k. get_or xs k d) (omega arith)

pub holds_at_rest : {X : Type 0} (P : X → Type 0) (xs ys : List X) (i : ℕ) (d : X) → All P xs → i < length xs → drop i ys ≡ drop i xs → P (get_or ys i d)
holds_at_rest P xs ys i d h lt rest = subst P (sym (at_rest xs ys i d rest)) (h i d lt)

-- one value more of a list is replaced
pub each_more : {X Y : Type 0} (g : X → Y) (F : Y → Y) (xs ys : List X) (i : ℕ) (v d : X) → i < length xs → i < length ys → map g (take i ys) ≡ map F (map g (take i xs)) → drop i ys ≡ drop i xs → g v ≡ F (g (get_or ys i d)) → map g (take (i + 1) (set ys i v)) ≡ map F (map g (take (i + 1) xs))
each_more g F xs ys i v d lt less done rest is =
    ap (map g) (take_more_set ys i v less)
    ∙ map-append g (take i ys) (v ∷ [])
    ∙ ap (λ zs. zs ++ g v ∷ []) done
    ∙ ap (λ y. map F (map g (take i xs)) ++ y ∷ []) (is ∙ ap (λ z. F (g z)) (at_rest xs ys i d rest))
    ∙ sym (map-append F (map g (take i xs)) (g (get_or xs i d) ∷ []))
    ∙ ap (map F) (sym (map-append g (take i xs) (get_or xs i d ∷ [])))
    ∙ ap (λ zs. map F (map g zs)) (sym (take_more xs i d lt))

-- and the rest is unchanged
pub rest_more : {X : Type 0} (xs ys : List X) (i : ℕ) (v d : X) → i < length xs → i < length ys → drop i ys ≡ drop i xs → drop (i + 1) (set ys i v) ≡ drop (i + 1) xs
rest_more xs ys i v d lt less rest =
    let both : get_or ys i d ∷ drop (i + 1) ys ≡ get_or xs i d ∷ drop (i + 1) xs = sym (drop_more ys i d less) ∙ rest ∙ drop_more xs i d lt in
    let following : drop (i + 1) ys ≡ drop (i + 1) xs = cc in
    drop-set-lt (i + 1) ys i v (omega arith) ∙ following

-- what holds of what the values are seen as
pub all_seen : {X Y : Type 0} (g : X → Y) (P : Y → Type 0) (xs : List X) → All P (map g xs) → All (λ x. P (g x)) xs
all_seen g P xs h k d lt = subst P (get_or-map g xs k d (g d) lt) (h k (g d) (omega (arith, length-map xs g)))
