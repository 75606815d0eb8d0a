-- Bytes begin with the encoding of at most one unit, and with the item of at most one text.
use Rattle.dexspec.proofs.Common.{◌≡◌, ◌≢◌, ℕ, zero, suc, ◌+◌, ◌/◌, ◌%◌, ◌^◌, ◌≤◌, ◌<◌, ◌⊎◌, inl, inr, List, [], ◌∷◌, ◌++◌, length, take, drop, refl, ap, sym, ◌∙◌, arith, append_assoc, length-append, length-take, take_at, drop_at, take-append-drop, cases_lt, lt-ltb, le-ltb, ne_eqb, append_cancel_left, flat_map-cons}
use Rattle.dexspec.specs.{IsUleb128, BeginsWith, sum_of_groups, Text, AreUnits, form, spelling, IsStringData, string_data}
use Rattle.dexspec.proofs.written.PlacedBytes.{same_heads}
use Rattle.dexspec.proofs.numbers.Spellings.{same_number, uleb128_is}

-- the encoding of a unit and the bytes after it, by cases on the first bytes
pub data Shape (bytes : List ℕ) (u : ℕ) (rest : List ℕ) : Type 0 where
  One : 0 < u → u < 0x80 → bytes ≡ u ∷ rest → Shape bytes u rest
  Two : (u ≡ 0) ⊎ (0x80 ≤ u) → u < 0x800 → bytes ≡ (0xc0 + u / 64) ∷ (0x80 + u % 64) ∷ rest → Shape bytes u rest
  Three : 0x800 ≤ u → u < 0x10000 → bytes ≡ (0xe0 + u / 4096) ∷ (0x80 + u / 64 % 64) ∷ (0x80 + u % 64) ∷ rest → Shape bytes u rest

-- the encoding of a unit has one of the three shapes
pub shape_of : (u : ℕ) (rest : List ℕ) → u < 2 ^ 16 → Shape (form u ++ rest) u rest
shape_of zero rest lt = Two (inl refl) (omega arith) refl
shape_of (suc n) rest lt =
    let some : suc n ≢ 0 = omega arith in
    elim (cases_lt (suc n) 0x80) [
      | inl h1 ↦ rw (ne_eqb (suc n) 0 some, lt-ltb (suc n) 0x80 h1) (One (omega arith) h1 refl)
      | inr g1 ↦ rw (ne_eqb (suc n) 0 some, le-ltb (suc n) 0x80 g1) (elim (cases_lt (suc n) 0x800) [
        | inl h2 ↦ rw (lt-ltb (suc n) 0x800 h2) (Two (inr g1) h2 refl)
        | inr g2 ↦ rw (le-ltb (suc n) 0x800 g2) (Three g2 lt refl)
      ])
    ]

-- two encodings of units at the start of the same bytes
same_shape : (bytes : List ℕ) (u v : ℕ) (x y : List ℕ) → Shape bytes u x → Shape bytes v y → u ≡ v
same_shape bytes u v x y (One a lt e) (One a' lt' f) = (same_heads u v x y (sym e ∙ f)).0
same_shape bytes u v x y (One a lt e) (Two a' lt' f) =
    absurd (let h = (same_heads u (0xc0 + v / 64) x ((0x80 + v % 64) ∷ y) (sym e ∙ f)).0 in omega arith)
same_shape bytes u v x y (One a lt e) (Three a' lt' f) =
    absurd (let h = (same_heads u (0xe0 + v / 4096) x ((0x80 + v / 64 % 64) ∷ (0x80 + v % 64) ∷ y) (sym e ∙ f)).0 in omega arith)
same_shape bytes u v x y (Two a lt e) (One a' lt' f) =
    absurd (let h = (same_heads (0xc0 + u / 64) v ((0x80 + u % 64) ∷ x) y (sym e ∙ f)).0 in omega arith)
same_shape bytes u v x y (Two a lt e) (Two a' lt' f) =
    let h = same_heads (0xc0 + u / 64) (0xc0 + v / 64) ((0x80 + u % 64) ∷ x) ((0x80 + v % 64) ∷ y) (sym e ∙ f) in
    let k = (same_heads (0x80 + u % 64) (0x80 + v % 64) x y h.1).0 in
    omega (arith, h.0)
same_shape bytes u v x y (Two a lt e) (Three a' lt' f) =
    absurd (let h = (same_heads (0xc0 + u / 64) (0xe0 + v / 4096) ((0x80 + u % 64) ∷ x) ((0x80 + v / 64 % 64) ∷ (0x80 + v % 64) ∷ y) (sym e ∙ f)).0 in omega arith)
same_shape bytes u v x y (Three a lt e) (One a' lt' f) =
    absurd (let h = (same_heads (0xe0 + u / 4096) v ((0x80 + u / 64 % 64) ∷ (0x80 + u % 64) ∷ x) y (sym e ∙ f)).0 in omega arith)
same_shape bytes u v x y (Three a lt e) (Two a' lt' f) =
    absurd (let h = (same_heads (0xe0 + u / 4096) (0xc0 + v / 64) ((0x80 + u / 64 % 64) ∷ (0x80 + u % 64) ∷ x) ((0x80 + v % 64) ∷ y) (sym e ∙ f)).0 in omega arith)
same_shape bytes u v x y (Three a lt e) (Three a' lt' f) =
    let h = same_heads (0xe0 + u / 4096) (0xe0 + v / 4096) ((0x80 + u / 64 % 64) ∷ (0x80 + u % 64) ∷ x) ((0x80 + v / 64 % 64) ∷ (0x80 + v % 64) ∷ y) (sym e ∙ f) in
    let k = same_heads (0x80 + u / 64 % 64) (0x80 + v / 64 % 64) ((0x80 + u % 64) ∷ x) ((0x80 + v % 64) ∷ y) h.1 in
    let l = (same_heads (0x80 + u % 64) (0x80 + v % 64) x y k.1).0 in
    let high : u / 4096 ≡ v / 4096 = omega (arith, h.0) in
    let middle : u / 64 % 64 ≡ v / 64 % 64 = omega (arith, k.0) in
    omega (arith, high, middle, l)

-- no unit's encoding is a proper prefix of another's
pub one_unit : (u v : ℕ) (x y : List ℕ) → u < 2 ^ 16 → v < 2 ^ 16 → form u ++ x ≡ form v ++ y → (u ≡ v) × (x ≡ y)
one_unit u v x y lt lt' e =
    let same = same_shape (form u ++ x) u v x y (shape_of u x lt) (rw e (shape_of v y lt')) in
    (same, append_cancel_left (form u) x y (e ∙ ap (λ (w : ℕ). form w ++ y) (sym same)))

-- texts of one length whose encodings begin the same bytes
pub one_text : (s t : Text) (x y : List ℕ) → AreUnits s → AreUnits t → length s ≡ length t → spelling s ++ x ≡ spelling t ++ y → s ≡ t
one_text [] [] x y us vs len e = refl
one_text [] (v ∷ t) x y us vs len e = absurd (omega arith)
one_text (u ∷ s) [] x y us vs len e = absurd (omega arith)
one_text (u ∷ s) (v ∷ t) x y us vs len e =
    let front = λ (w : ℕ) (r z : List ℕ). ap (λ (l : List ℕ). l ++ z) (flat_map-cons form w r) ∙ append_assoc (form w) (spelling r) z in
    let same = one_unit u v (spelling s ++ x) (spelling t ++ y) (us 0 0 (omega arith)) (vs 0 0 (omega arith)) (sym (front u s x) ∙ e ∙ front v t y) in
    let others = one_text s t x y (λ k d lt. us (suc k) d (omega arith)) (λ k d lt. vs (suc k) d (omega arith)) (omega arith) same.1 in
    λ i. same.0 i ∷ others i

-- ---- items

-- an item at the start of bytes, by its parts
record Parts (bytes : List ℕ) (s : Text) (n : ℕ) : Type 0 where
  size : ℕ
  begins : BeginsWith IsUleb128 bytes (length s) size
  body : drop size bytes ≡ spelling s ++ 0 ∷ drop n bytes
  whole : n ≡ size + length (spelling s) + 1

-- an item has these parts
parts : (bytes : List ℕ) (s : Text) (n : ℕ) → BeginsWith IsStringData bytes s n → Parts bytes s n
parts bytes s n item =
    let first = item.spelled.count in
    let whole : bytes ≡ first ++ (spelling s ++ 0 ∷ drop n bytes) = sym (take-append-drop n bytes) ∙ ap (λ (x : List ℕ). x ++ drop n bytes) item.spelled.parts ∙ rw (append_assoc, append_assoc) refl in
    let front : take (length first) bytes ≡ first = ap (take (length first)) whole ∙ take_at first (spelling s ++ 0 ∷ drop n bytes) (length first) refl in
    record {
      size = length first;
      begins = record { within = omega (arith, ap length whole, length-append first (spelling s ++ 0 ∷ drop n bytes)); spelled = rw front item.spelled.says };
      body = ap (drop (length first)) whole ∙ drop_at first (spelling s ++ 0 ∷ drop n bytes) (length first) refl;
      whole = omega (arith, item.within, length-take n bytes, ap length item.spelled.parts, length-append first (spelling s ++ 0 ∷ []), length-append (spelling s) (0 ∷ []));
    }

-- bytes begin with the item of at most one text
pub one_string_data : (bytes : List ℕ) (s t : Text) (n k : ℕ) → BeginsWith IsStringData bytes s n → BeginsWith IsStringData bytes t k → (s ≡ t) × (n ≡ k)
one_string_data bytes s t n k item other =
    let p = parts bytes s n item in
    let q = parts bytes t k other in
    let len = same_number sum_of_groups (λ v. v < 2 ^ 32) bytes (length s) (length t) p.size q.size p.begins q.begins in
    let e : spelling s ++ 0 ∷ drop n bytes ≡ spelling t ++ 0 ∷ drop k bytes = sym p.body ∙ ap (λ (m : ℕ). drop m bytes) (sym len.1) ∙ q.body in
    let same = one_text s t (0 ∷ drop n bytes) (0 ∷ drop k bytes) item.spelled.units other.spelled.units (sym len.0) e in
    (same, omega (arith, p.whole, q.whole, len.1, ap (λ (r : Text). length (spelling r)) same))

-- the bytes that are written for a text are an item of it
pub string_data_is : (s : Text) → AreUnits s → length s < 2 ^ 32 → IsStringData (string_data s) s
string_data_is s units few = record { count = _; says = (uleb128_is (length s) few).0; units = units; parts = refl }
