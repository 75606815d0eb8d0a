-- For each member one that is equal, one member after the other.
use Rattle.std.proofs.lemmas.Bool.{cases_lt}
use Rattle.std.proofs.lemmas.List.{get_or_append_left, get_or_push, length_push}
use Rattle.dexclass.proofs.Common.{◌≡◌, ℕ, ◌+◌, ◌<◌, ◌≤◌, List, [], ◌∷◌, ◌++◌, length, get_or, arith, inl, inr, sym, ap, ◌∙◌}
use Rattle.dexorder.specs.EqualLists.{AreFirstEqual}

-- those of the first members
pub record AreFirstUpTo {X Y : Type 0} (f : X → Y) (xs : List X) (firsts : List ℕ) (i : ℕ) : Type 0 where
  pub count : length firsts ≡ i
  pub before : (k : ℕ) → k < i → get_or firsts k 0 ≤ k
  pub equal : (k : ℕ) (d : X) → k < i → f (get_or xs (get_or firsts k 0) d) ≡ f (get_or xs k d)

module _ {X Y : Type 0} (f : X → Y) (xs : List X) (firsts : List ℕ) (i : ℕ) where
  -- that of one member more
  pub first_more : (first : ℕ) → AreFirstUpTo f xs firsts i → first ≤ i → ((d : X) → f (get_or xs first d) ≡ f (get_or xs i d)) → AreFirstUpTo f xs (firsts ++ first ∷ []) (i + 1)
  first_more first h le same = record {
    count = omega (arith, length_push firsts first, h.count);
    before = λ k lt. elim (cases_lt k i) [
      | inl less ↦ omega (arith, get_or_append_left firsts (first ∷ []) 0 k (omega (arith, less, h.count)), h.before k less)
      | inr more ↦ let at : length firsts ≡ k = omega (arith, lt, more, h.count) in omega (arith, get_or_push firsts first 0 k at, le, more)
    ];
    equal = λ k d lt. elim (cases_lt k i) [
      | inl less ↦ ap (λ (n : ℕ). f (get_or xs n d)) (get_or_append_left firsts (first ∷ []) 0 k (omega (arith, less, h.count))) ∙ h.equal k d less
      | inr more ↦
          let at : length firsts ≡ k = omega (arith, lt, more, h.count) in
          let end : i ≡ k = omega (arith, lt, more) in
          ap (λ (n : ℕ). f (get_or xs n d)) (get_or_push firsts first 0 k at) ∙ same d ∙ ap (λ (n : ℕ). f (get_or xs n d)) end
    ];
  }

  -- those of all
  pub first_all : AreFirstUpTo f xs firsts i → length xs ≡ i → AreFirstEqual f xs firsts
  first_all h end = record {
    count = h.count ∙ sym end;
    before = λ k lt. h.before k (omega (arith, lt, end));
    equal = λ k d lt. h.equal k d (omega (arith, lt, end));
  }
