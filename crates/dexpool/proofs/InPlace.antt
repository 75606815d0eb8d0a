-- Lists whose members are written over in their order: from a place on they are still the old ones.
use Rattle.dexpool.proofs.Common.{◌≡◌, ℕ, ◌+◌, ◌<◌, List, length, get_or, set, drop, sym, ap, ◌∙◌, subst, arith, All, get_or-drop, drop-drop, drop-set-lt}

module _ {X : Type 0} (old xs : List X) (i : ℕ) (rest : drop i xs ≡ drop i old) where
  pub same_at : (d : X) → get_or xs i d ≡ get_or old i d
  same_at d = let z : i ≡ i + 0 = omega arith in ap (λ k. get_or xs k d) z ∙ sym (get_or-drop i xs 0 d) ∙ ap (λ l. get_or l 0 d) rest ∙ get_or-drop i old 0 d ∙ ap (λ k. get_or old k d) (sym z)

  pub rest_more : drop (i + 1) xs ≡ drop (i + 1) old
  rest_more = sym (drop-drop 1 i xs) ∙ ap (drop 1) rest ∙ drop-drop 1 i old

  -- also where the member of this place is written
  pub rest_set : (x : X) → drop (i + 1) (set xs i x) ≡ drop (i + 1) old
  rest_set x = drop-set-lt (i + 1) xs i x (omega arith) ∙ rest_more

  -- what holds of the old members holds of the next one
  pub still_holds : (P : X → Type 0) (x : X) → x ≡ get_or xs i x → i < length old → All P old → P x
  still_holds P x is lt all = subst P (sym (is ∙ same_at x)) (all i x lt)
