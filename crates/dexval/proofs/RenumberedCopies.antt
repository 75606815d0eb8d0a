-- Lists that are made by a renumbered copy of each member of another, in room for all of them.
use Rattle.dexval.proofs.Common.{◌≡◌, ℕ, ◌+◌, ◌<◌, ◌≤◌, List, [], ◌∷◌, ◌++◌, Vec, vec_len, length, get_or, take, map, sym, ap, ◌∙◌, arith, All, map-append, map_more, take_all}
use Rattle.std.specs.Prelude.{vec_capacity}
use Rattle.dexval.proofs.TableGrowth.{mapped_at}

-- the models of the copies are those of the first i members, changed, and there is room for the copies of the others
pub record AreCopied {X Y : Type 0} (of : X → Y) (f : Y → Y) (i : ℕ) (old : List X) (copies : Vec X) : Type 0 where
  pub copied : map of copies.items ≡ map f (map of (take i old))
  pub room : vec_len copies + length old ≤ vec_capacity copies + i

module _ {X Y : Type 0} (of : X → Y) (f : Y → Y) (old seen : List X) (same : seen ≡ old) where
  -- a property of all models holds for that of the next member
  pub next_copied : (P : Y → Type 0) (i : ℕ) (x : X) → i < length seen → x ≡ get_or seen i x → All P (map of old) → P (of x)
  next_copied P i x lt at all = mapped_at of P old i x (omega (arith, lt, ap length same)) (at ∙ ap (λ (l : List X). get_or l i x) same) all

  -- one copy more
  pub copied_more : (i : ℕ) (x y : X) (copies more : Vec X) → i < length seen → x ≡ get_or seen i x → AreCopied of f i old copies → of y ≡ f (of x) → more.items ≡ copies.items ++ y ∷ [] → vec_len more ≡ vec_len copies + 1 → vec_capacity more ≡ vec_capacity copies → AreCopied of f (i + 1) old more
  copied_more i x y copies more lt at before is items len capacity =
      let next : of y ≡ f (of (get_or old i x)) = is ∙ ap (λ z. f (of z)) (at ∙ ap (λ (l : List X). get_or l i x) same) in
      record {
        copied = ap (map of) items ∙ map-append of copies.items (y ∷ []) ∙ (λ k. before.copied k ++ next k ∷ []) ∙ sym (map-append f (map of (take i old)) (of (get_or old i x) ∷ [])) ∙ ap (map f) (sym (map_more of old i x (omega (arith, lt, ap length same))));
        room = omega (arith, before.room, len, capacity);
      }

  -- all of them
  pub copied_all : (i : ℕ) (copies : Vec X) → length seen ≤ i → AreCopied of f i old copies → map of copies.items ≡ map f (map of old)
  copied_all i copies end is = is.copied ∙ ap (λ (l : List X). map f (map of l)) (take_all i old (omega (arith, end, ap length same)))
