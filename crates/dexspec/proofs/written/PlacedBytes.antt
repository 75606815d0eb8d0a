-- Bytes at offsets of a list that is joined from parts.
use Rattle.dexspec.proofs.Common.{◌≡◌, ℕ, zero, suc, ◌+◌, ◌*◌, ◌-◌, ◌<◌, ◌≤◌, List, [], ◌∷◌, ◌++◌, length, get_or, take, drop, refl, sym, ap, subst, ◌∙◌, arith, inl, inr, flat_map, cases_lt, take_at, take-append-drop, take-append-le, drop-append-le, drop-drop, length-append, length-take, length-drop, append-nil, nil_from_length, drop-append-add}
use Rattle.dexspec.specs.{BytesAt}

-- a prefix of a list is at offset 0
pub is_at_first : (x r : List ℕ) → BytesAt (x ++ r) 0 x
is_at_first x r = record { here = take_at x r (length x) refl }

-- a list is at its own offset 0
pub is_at_whole : (x : List ℕ) → BytesAt x 0 x
is_at_whole x = subst (λ b. BytesAt b 0 x) (append-nil x) (is_at_first x [])

-- after s the offset is greater by the length of s
pub is_at_later : {r x : List ℕ} {o : ℕ} (s : List ℕ) → BytesAt r o x → BytesAt (s ++ r) (length s + o) x
is_at_later {r} {x} {o} s h = record { here = rw (drop-append-add s r o) h.here }

-- the bytes after it
pub is_at_rest : {b x : List ℕ} {o : ℕ} → BytesAt b o x → drop o b ≡ x ++ drop (length x) (drop o b)
is_at_rest {b} {x} {o} h = sym (take-append-drop (length x) (drop o b)) ∙ ap (λ (y : List ℕ). y ++ drop (length x) (drop o b)) h.here

-- bytes at an offset end before the end of the list
pub is_at_within : {b x : List ℕ} {o : ℕ} → BytesAt b o x → length x ≤ length b - o
is_at_within {b} {x} {o} h = omega (arith, ap length h.here, length-take (length x) (drop o b), length-drop o b)

-- an empty list is at any offset
nothing : (b : List ℕ) (o : ℕ) (y : List ℕ) → y ≡ [] → BytesAt b o y
nothing b o y e = subst (λ z. BytesAt b o z) (sym e) (record { here = refl })

-- more bytes may follow
pub is_at_prefix : {x y : List ℕ} {p : ℕ} (r : List ℕ) → BytesAt x p y → BytesAt (x ++ r) p y
is_at_prefix {x} {y} {p} r h =
    elim (cases_lt (length x) p) [
      | inl lt ↦ nothing (x ++ r) p y (nil_from_length y (omega (arith, is_at_within h)))
      | inr le ↦ record { here = rw (drop-append-le p x r le, take-append-le (length y) (drop p x) r (omega (arith, is_at_within h, length-drop p x))) h.here }
    ]

-- bytes in a part are in the whole
pub is_at_in : {b x y : List ℕ} {o p : ℕ} → BytesAt b o x → BytesAt x p y → BytesAt b (o + p) y
is_at_in {b} {x} {y} {o} {p} h k = record { here = ap (λ (z : List ℕ). take (length y) z) (sym (drop-drop p o b) ∙ ap (drop p) (is_at_rest h)) ∙ (is_at_prefix (drop (length x) (drop o b)) k).here }

-- at an equal offset
pub is_at : {b x : List ℕ} {o p : ℕ} → o ≡ p → BytesAt b o x → BytesAt b p x
is_at {b} {x} e h = subst (λ o. BytesAt b o x) e h

-- the i-th of pieces of one size
pub is_at_row : {X : Type 0} (f : X → List ℕ) (w : ℕ) → ((x : X) → length (f x) ≡ w) → (xs : List X) (i : ℕ) (d : X) → i < length xs → BytesAt (flat_map f xs) (w * i) (f (get_or xs i d))
is_at_row f w each [] i d lt = absurd (omega arith)
is_at_row f w each (x ∷ xs) zero d lt = is_at (omega arith) (is_at_first (f x) (flat_map f xs))
is_at_row f w each (x ∷ xs) (suc i) d lt =
    is_at (omega (arith, each x)) (is_at_later (f x) (is_at_row f w each xs i d (omega arith)))

-- the length of pieces of one size
pub length_rows : {X : Type 0} (f : X → List ℕ) (w : ℕ) → ((x : X) → length (f x) ≡ w) → (xs : List X) → length (flat_map f xs) ≡ w * length xs
length_rows f w each [] = omega arith
length_rows f w each (x ∷ xs) = length-append (f x) (flat_map f xs) ∙ omega (arith, each x, length_rows f w each xs)

-- ---- bytes at one offset

-- equal lists have equal parts
pub same_heads : (a c : ℕ) (x y : List ℕ) → a ∷ x ≡ c ∷ y → (a ≡ c) × (x ≡ y)
same_heads a c x y e = (cc, cc)

-- two lists at one offset have the same first byte
pub same_first : {b : List ℕ} {o : ℕ} (a c : ℕ) (x y : List ℕ) → BytesAt b o (a ∷ x) → BytesAt b o (c ∷ y) → a ≡ c
same_first {b} {o} a c x y h k =
    (same_heads a c (x ++ drop (length (a ∷ x)) (drop o b)) (y ++ drop (length (c ∷ y)) (drop o b)) (sym (is_at_rest h) ∙ is_at_rest k)).0

-- two lists of one length at one offset are equal
pub same_bytes_at : {b : List ℕ} {o : ℕ} (x y : List ℕ) → BytesAt b o x → BytesAt b o y → length x ≡ length y → x ≡ y
same_bytes_at {b} {o} x y h k len = sym h.here ∙ ap (λ n. take n (drop o b)) len ∙ k.here
