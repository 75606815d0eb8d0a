-- One row more.
use Rattle.dexids.proofs.Common.{◌≡◌, ℕ, zero, suc, ◌+◌, ◌-◌, ◌<◌, Bool, true, false, List, [], ◌∷◌, ◌++◌, length, get_or, refl, sym, ap, ◌∙◌, subst, arith, inl, inr, Some, slice_get, is_lt, Ordering, Less, cases_lt, length_push, get_or_append_left, get_or_push, get_or_default, less_is, one_string, Text, text_cmp, uint_at, IsDescriptor, TypeIds, table_size, key_cmp, row_at, type_row_key, HasRow, StringRow, TypeRow, Condition, text_of, type_cmp, ReadTo, is_above_last, AreTexts, TypeRowAt, DecidesNext}

-- ---- the last row

module _ {X : Type 0} (R : X → X → Ordering) where
  -- the last row decides
  pub is_above_last-at : (xs : List X) (i : ℕ) (x d : X) → i + 1 ≡ length xs → is_above_last R x xs ≡ is_lt (R (get_or xs i d) x)
  is_above_last-at (y ∷ []) zero x d e = refl
  is_above_last-at (y ∷ z ∷ ys) (suc i) x d e = is_above_last-at (z ∷ ys) i x d (omega arith)
  is_above_last-at _ _ x d e = absurd (omega arith)

  -- as the code returns it for the last row
  pub above_is : (xs : List X) (j : ℕ) (x y : X) (r : Bool) → Some y ≡ slice_get xs j → j ≡ length xs - 1 → r ≡ is_lt (R y x) → r ≡ is_above_last R x xs
  above_is [] j x y r e at answer = absurd cc
  above_is (z ∷ []) zero x y r e at answer = answer ∙ ap (λ t. is_lt (R t x)) (let same : y ≡ z = cc in same)
  above_is (z ∷ w ∷ ws) (suc j) x y r e at answer = above_is (w ∷ ws) j x y r e (omega arith) answer
  above_is _ _ x y r e at answer = absurd (omega arith)

  -- where one is not above, there is a last row
  pub last_is : (xs : List X) (x : X) → is_above_last R x xs ≡ false → (j : ℕ) × (j + 1 ≡ length xs)
  last_is [] x e = absurd cc
  last_is (y ∷ ys) x e = (length ys, omega arith)

  pub last_less : (xs : List X) (j : ℕ) (x d : X) → j + 1 ≡ length xs → is_above_last R x xs ≡ true → R (get_or xs j d) x ≡ Less
  last_less xs j x d e above = less_is _ (sym (is_above_last-at xs j x d e) ∙ above)

  pub last_not : (xs : List X) (j : ℕ) (x d : X) → j + 1 ≡ length xs → is_above_last R x xs ≡ false → R (get_or xs j d) x ≡ Less → ⊥
  last_not xs j x d e above less = let a : is_above_last R x xs ≡ true = is_above_last-at xs j x d e ∙ ap is_lt less in cc

-- ---- one row more

module _ {X : Type 0} (Row : List ℕ → ℕ → X → Type 0) (Holds : List ℕ → ℕ → Type 0) (b : List ℕ) where
  pub read_more : (xs ys : List X) (i : ℕ) (x : X) → ReadTo Row Holds b xs i → Row b i x → Holds b i → ys ≡ xs ++ x ∷ [] → ReadTo Row Holds b ys (i + 1)
  read_more xs ys i x h is holds e = subst (λ zs. ReadTo Row Holds b zs (i + 1)) (sym e) (record {
    count = length_push xs x ∙ omega (arith, h.count);
    each = λ k d lt. elim (cases_lt k i) [
      | inl small ↦ subst (Row b k) (sym (get_or_append_left xs (x ∷ []) d k (omega (arith, h.count)))) (h.each k d small)
      | inr large ↦ let same : i ≡ k = omega arith in
          subst (λ n. Row b n (get_or (xs ++ x ∷ []) n d)) same (subst (Row b i) (sym (get_or_push xs x d i h.count)) is)
    ];
    held = λ k lt. elim (cases_lt k i) [
      | inl small ↦ h.held k small
      | inr large ↦ let same : i ≡ k = omega arith in subst (Holds b) same holds
    ];
  })

-- a row that is above the last one follows, and another does not
pub decided : {X Y : Type 0} (Row : List ℕ → ℕ → X → Type 0) (b : List ℕ) (Item : List ℕ → ℕ → Y → Type 0) (key : List ℕ → ℕ → List ℕ) (key_of : X → List ℕ) → ((k : ℕ) (x : X) → Row b k x → key b k ≡ key_of x)
    → ((k : ℕ) (x : X) → Row b k x → (y : Y) × Item b k y) → (xs : List X) (i : ℕ) (x : X) → ReadTo Row (HasRow Item key) b xs i → Row b i x
    → (is_above_last (λ y z. key_cmp (key_of y) (key_of z)) x xs ≡ true → HasRow Item key b i) × (is_above_last (λ y z. key_cmp (key_of y) (key_of z)) x xs ≡ false → HasRow Item key b i → ⊥)
decided {X} {Y} Row b Item key key_of same item xs i x h is =
    let R : X → X → Ordering = λ y z. key_cmp (key_of y) (key_of z) in (
      λ above. record {
        item = (item i x is).0;
        is = (item i x is).1;
        follows = λ j next.
            ap (λ (l : List ℕ). key_cmp l (key b i)) (same j (get_or xs j x) (h.each j x (omega arith))) ∙ ap (key_cmp (key_of (get_or xs j x))) (same i x is) ∙ (last_less R xs j x x (omega (arith, h.count)) above);
      },
      λ above holds.
          let last = last_is R xs x above in
          last_not R xs last.0 x x last.1 above
          (ap (λ (l : List ℕ). key_cmp l (key_of x)) (sym (same last.0 (get_or xs last.0 x) (h.each last.0 x (omega (arith, last.1, h.count))))) ∙ ap (key_cmp (key b last.0)) (sym (same i x is)) ∙ (holds.follows last.0 (omega (arith, last.1, h.count)))),
    )

-- ---- texts

pub string_decided : (b : List ℕ) → DecidesNext Condition.Strings StringRow text_cmp b
string_decided b xs i s h is = (
  λ above. record {
    text = s;
    is = is;
    follows = λ j before next row.
        subst (λ t. text_cmp t s ≡ Less) (one_string b j _ _ (h.each j s (omega arith)) row) (last_less text_cmp xs j s s (omega (arith, h.count)) above);
  },
  λ above holds.
      let last = last_is text_cmp xs s above in
      last_not text_cmp xs last.0 s s last.1 above (subst (λ t. text_cmp (get_or xs last.0 s) t ≡ Less) (one_string b i _ _ holds.is is) (holds.follows last.0 (get_or xs last.0 s) (omega (arith, last.1, h.count)) (h.each last.0 s (omega (arith, last.1, h.count))))),
)

-- ---- types

pub type_key_is : (texts : List Text) (b : List ℕ) (k n : ℕ) → TypeRowAt texts b k n → type_row_key b k ≡ n ∷ []
type_key_is texts b k n s = ap (λ (m : ℕ). m ∷ []) s.index

-- the row of a type
pub type_decided : (texts : List Text) (b : List ℕ) → DecidesNext Condition.Types (TypeRowAt texts) type_cmp b
type_decided texts b = decided (TypeRowAt texts) b TypeRow type_row_key (λ m. m ∷ []) (type_key_is texts b) (λ k n s. (text_of texts n, s.is))

-- the text of a number that is in range
pub text_row : (b : List ℕ) (texts : List Text) (n m : ℕ) → AreTexts b texts → n < length texts → m ≡ n → StringRow b m (text_of texts n)
text_row b texts n m strings lt e = subst (λ k. StringRow b k (text_of texts n)) (sym e) (strings.each n [] (omega (arith, strings.count, lt)))

pub type_encoded : (b : List ℕ) (texts : List Text) (i n : ℕ) (t : Text) → AreTexts b texts → i < table_size b TypeIds → n ≡ uint_at b (row_at b TypeIds i) → n < length texts → t ≡ get_or texts n t → IsDescriptor t → TypeRowAt texts b i n
type_encoded b texts i n t strings row index lt at is = record { index = sym index; is = record { row = row; text = text_row b texts n _ strings lt (sym index); descriptor = subst IsDescriptor (at ∙ get_or_default texts n t [] lt) is } }

pub no_descriptor : (b : List ℕ) (texts : List Text) (i n : ℕ) (t s : Text) → AreTexts b texts → n ≡ uint_at b (row_at b TypeIds i) → n < length texts → t ≡ get_or texts n t → (IsDescriptor t → ⊥) → TypeRow b i s → ⊥
no_descriptor b texts i n t s strings index lt at not h = not (subst IsDescriptor (one_string b _ _ _ h.text (text_row b texts n _ strings lt (sym index)) ∙ sym (at ∙ get_or_default texts n t [] lt)) h.descriptor)
