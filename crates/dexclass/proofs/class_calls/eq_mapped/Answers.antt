use Rattle.dexclass.proofs.Common.{refl, sym, ◌∙◌, arith, false≢true, ◌≡◌, ℕ, suc, ◌<◌, List, [], ◌∷◌, length, get_or, ap, map, length-map, get_or-map}
use Rattle.dexclass.specs.{image_or_same}
use Rattle.dexclass.proofs.class_calls.eq_mapped.Goals as goal

module _ (f g : ℕ → ℕ) where
  -- member by member
  pub equivalent : (xs ys : List ℕ) → length xs ≡ length ys → ((k : ℕ) → k < length xs → f (get_or xs k 0) ≡ g (get_or ys k 0)) → map f xs ≡ map g ys
  equivalent [] [] e each = refl
  equivalent (x ∷ xs) (y ∷ ys) e each =
      ap (λ (n : ℕ). n ∷ map f xs) (each 0 (omega arith))
      ∙ ap (λ (l : List ℕ). g y ∷ l) (equivalent xs ys (omega (arith, e)) (λ k lt. each (suc k) (omega (arith, lt))))
  equivalent v w e each = absurd (omega (arith, e))

  -- lists that are mapped to the same list are equal once mapped at each place
  pub equivalent_at : (xs ys : List ℕ) (k : ℕ) → map f xs ≡ map g ys → k < length xs → f (get_or xs k 0) ≡ g (get_or ys k 0)
  equivalent_at xs ys k e lt = sym (get_or-map f xs k 0 0 lt) ∙ ap (λ (l : List ℕ). get_or l k 0) e ∙ get_or-map g ys k 0 0 (omega (arith, lt, length-map xs f, ap length e, length-map ys g))

pub returns-then-type_number : goal.returns-then-type_number
returns-then-type_number c = (
  λ e. absurd (false≢true e),
  λ e. absurd (c.if-type_number.true (c.type_number.ensures ∙ ap (image_or_same c.args.mine.now.types) c.at.ensures
      ∙ equivalent_at (image_or_same c.args.mine.now.types) (image_or_same c.args.theirs.now.types) c.args.numbers.now c.args.others.now c.loop-k.k e (omega (arith, c.loop-k-test.true, c.len-k-end.ensures)) ∙ sym (c.type_number-in-loop-k.ensures ∙ ap (image_or_same c.args.theirs.now.types) c.at-in-loop-k.ensures))),
)

pub returns : goal.returns
returns c =
    let xs = c.args.numbers.now in
    let ys = c.args.others.now in
    let same : length xs ≡ length ys = omega (arith, c.if-len.false, c.len.ensures, c.len-2.ensures) in
    (λ e. equivalent (image_or_same c.args.mine.now.types) (image_or_same c.args.theirs.now.types) xs ys same (λ k lt. c.loop-k.invariant k (omega (arith, lt, c.loop-k-test.false, c.len-k-end.ensures))), λ e. refl)
