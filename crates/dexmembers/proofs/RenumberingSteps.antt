-- Lists that are equal, mapped.
use Rattle.dexmembers.proofs.Common.{◌≡◌, ℕ, ◌<◌, List, length, map, get_or, ap, sym, ◌∙◌, get_or-map}

-- ---- lists that are the same, mapped

module _ {X Z : Type 0} (f g : X → Z) (xs ys : List X) where
  pub same_at : (i : ℕ) (x y : X) → i < length xs → i < length ys → x ≡ get_or xs i x → y ≡ get_or ys i y → map f xs ≡ map g ys → f x ≡ g y
  same_at i x y lt lt' is is' e =
      let mine : get_or (map f xs) i (g y) ≡ f x = get_or-map f xs i x (g y) lt ∙ ap f (sym is) in
      let theirs : get_or (map g ys) i (g y) ≡ g y = get_or-map g ys i y (g y) lt' ∙ ap g (sym is') in
      sym mine ∙ ap (λ zs. get_or zs i (g y)) e ∙ theirs
