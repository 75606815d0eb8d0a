-- Items that are remapped one by one.
use Rattle.dexclass.proofs.Common.{◌≡◌, ℕ, ◌+◌, ◌<◌, List, [], ◌∷◌, ◌++◌, length, get_or, take, drop, sym, ap, ◌∙◌, arith, map, slice_set, length-set, take_more, take_more_set, drop-set-lt, get_or-drop, map-append, drop_more_same}

-- the first k are remapped, and the rest is as it was
pub record RemappedAt {X : Type 0} (f : X → X) (new old : List X) (k : ℕ) : Type 0 where
  pub len : length new ≡ length old
  pub done : take k new ≡ map f (take k old)
  pub rest : drop k new ≡ drop k old

module _ {X : Type 0} (f : X → X) (new old : List X) (k : ℕ) (d : X) (lt : k < length old) (h : RemappedAt f new old k) where
  pub next_is : get_or new k d ≡ get_or old k d
  next_is =
      let e : k + 0 ≡ k = omega arith in
      ap (λ (i : ℕ). get_or new i d) (sym e) ∙ sym (get_or-drop k new 0 d) ∙ ap (λ (l : List X). get_or l 0 d) h.rest ∙ get_or-drop k old 0 d ∙ ap (λ (i : ℕ). get_or old i d) e

  pub remapped_more : (y : X) → y ≡ f (get_or new k d) → RemappedAt f (slice_set new k y) old (k + 1)
  remapped_more y e = record {
    len = length-set new k y ∙ h.len;
    done = take_more_set new k y (omega (arith, lt, h.len)) ∙ ap (λ (l : List X). l ++ y ∷ []) h.done ∙ ap (λ (n : X). map f (take k old) ++ n ∷ []) (e ∙ ap f next_is)
        ∙ sym (map-append f (take k old) (get_or old k d ∷ [])) ∙ ap (map f) (sym (take_more old k d lt));
    rest = drop-set-lt (k + 1) new k y (omega arith) ∙ drop_more_same new old k h.rest;
  }
