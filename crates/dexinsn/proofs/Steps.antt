-- A list that is changed member by member.
use Rattle.dexinsn.proofs.Common.{◌≡◌, ℕ, ◌+◌, ◌<◌, ◌≤◌, List, [], ◌∷◌, ◌++◌, length, drop, take, map, get_or, set, refl, ap, sym, ◌∙◌, subst, arith, All, drop-drop, get_or-drop, take_more_set, map_more, take_all, drop-set-lt, length-set, All-get_or}

-- the first i members are changed, and the others are as they were
pub record AreChanged {X : Type 0} (f : X → X) (i : ℕ) (old new : List X) : Type 0 where
  pub done : take i new ≡ map f (take i old)
  pub rest : drop i new ≡ drop i old
  pub size : length new ≡ length old

pub none_changed : {X : Type 0} (f : X → X) (xs : List X) → AreChanged f 0 xs xs
none_changed f xs = record { done = refl; rest = refl; size = refl }

same_at : {X : Type 0} (xs ys : List X) (i : ℕ) (d : X) → drop i xs ≡ drop i ys → get_or xs i d ≡ get_or ys i d
same_at xs ys i d e = let z : i + 0 ≡ i = omega arith in ap (λ (k : ℕ). get_or xs k d) (sym z) ∙ sym (get_or-drop i xs 0 d) ∙ ap (λ zs. get_or zs 0 d) e ∙ get_or-drop i ys 0 d ∙ ap (λ (k : ℕ). get_or ys k d) z

pub unchanged : {X : Type 0} (f : X → X) (P : X → Type 0) (old new : List X) (i : ℕ) (d : X) → AreChanged f i old new → i < length old → All P old → P (get_or new i d)
unchanged f P old new i d h lt all = subst P (sym (same_at new old i d h.rest)) (All-get_or P old i d lt all)

pub changed_more : {X : Type 0} (f : X → X) (old new : List X) (i : ℕ) (d y : X) → AreChanged f i old new → i < length old → y ≡ f (get_or new i d) → AreChanged f (i + 1) old (set new i y)
changed_more f old new i d y h lt e =
    let inside : i < length new = omega (arith, h.size) in
    let more : i < i + 1 = omega arith in
    record {
      done = take_more_set new i y inside ∙ ap (λ zs. zs ++ y ∷ []) h.done ∙ ap (λ z. map f (take i old) ++ z ∷ []) (e ∙ ap f (same_at new old i d h.rest)) ∙ sym (map_more f old i d lt);
      rest = drop-set-lt (i + 1) new i y more ∙ sym (drop-drop 1 i new) ∙ ap (drop 1) h.rest ∙ drop-drop 1 i old;
      size = length-set new i y ∙ h.size;
    }

pub all_changed : {X : Type 0} (f : X → X) (old new : List X) (i : ℕ) → AreChanged f i old new → length old ≤ i → new ≡ map f old
all_changed f old new i h end = sym (take_all i new (omega (arith, h.size))) ∙ h.done ∙ ap (map f) (take_all i old end)
