-- Going over units one after the other.
use Rattle.dexstr.proofs.Common.{◌≡◌, ℕ, ◌+◌, ◌≤◌, ◌<◌, ◌^◌, List, [], ◌∷◌, ◌++◌, length, refl, ap, sym, ◌∙◌, arith, append_assoc, length-append, flat_map-cons, append-nil, flat_map-append, All-push, form, spelling, AreUnits, Shape, One, Two, Three, ◌≢◌, suc, ◌-◌, take, drop, get_or, take_all, inl, inr, All, All-head, All-tail, All-cons, All-append, shape_of, BeginsWithUnit, units_of, BeginsWithAscii, IsSpelling, IsAscii}
use Rattle.dexstr.proofs.Forms.{shape}

-- `n` units were skipped
flat_map_one : (u : ℕ) → spelling (u ∷ []) ≡ form u
flat_map_one u = flat_map-cons form u [] ∙ append-nil (form u)

pub record Passed (bytes : List ℕ) (n : ℕ) (rest : List ℕ) : Type 0 where
  pub us : List ℕ
  pub len : length us ≡ n
  pub units : AreUnits us
  pub parts : bytes ≡ spelling us ++ rest
  pub room : n + length rest ≤ length bytes

shorter' : (bytes : List ℕ) (u : ℕ) (rest : List ℕ) → Shape bytes u rest → length rest < length bytes
shorter' bytes u rest (One some small e) = omega (arith, ap length e)
shorter' bytes u rest (Two which small e) = omega (arith, ap length e)
shorter' bytes u rest (Three large small e) = omega (arith, ap length e)

pub shorter : (bytes : List ℕ) (u : ℕ) (rest : List ℕ) → BeginsWithUnit bytes u rest → length rest < length bytes
shorter bytes u rest begins = shorter' bytes u rest (shape bytes u rest begins)

regroup : (us : List ℕ) (u : ℕ) (after : List ℕ) → spelling (us ++ u ∷ []) ++ after ≡ spelling us ++ (form u ++ after)
regroup us u after = rw (flat_map-append, flat_map_one, append_assoc) refl

pub passed_more : (bytes : List ℕ) (n : ℕ) (rest : List ℕ) (u : ℕ) (after : List ℕ) → Passed bytes n rest → BeginsWithUnit rest u after → Passed bytes (n + 1) after
passed_more bytes n rest u after passed begins = record {
  us = passed.us ++ u ∷ [];
  len = omega (arith, length-append passed.us (u ∷ []), passed.len);
  units = All-push (λ v. v < 2 ^ 16) passed.us u passed.units begins.unit;
  parts = passed.parts ∙ ap (λ (x : List ℕ). spelling passed.us ++ x) begins.parts ∙ sym (regroup passed.us u after);
  room = omega (arith, passed.room, shorter rest u after begins);
}

-- ---- texts whose units are spelled by one byte each

-- at least one byte for each unit
more_bytes : (bytes : List ℕ) (u : ℕ) (rest : List ℕ) → Shape bytes u rest → suc (length rest) ≤ length bytes
more_bytes bytes u rest (One some small e) = omega (arith, ap length e)
more_bytes bytes u rest (Two which small e) = omega (arith, ap length e)
more_bytes bytes u rest (Three large small e) = omega (arith, ap length e)

least : (s : List ℕ) → AreUnits s → length s ≤ length (spelling s)
least [] units = omega arith
least (u ∷ s) units = omega (arith, more_bytes (form u ++ spelling s) u (spelling s) (shape_of u (spelling s) (units 0 0 (omega arith))), least s (λ k d lt. units (suc k) d (omega arith)))

-- the unit is the byte where it has no more
one_byte : (bytes : List ℕ) (u : ℕ) (rest : List ℕ) → Shape bytes u rest → length bytes ≤ suc (length rest) → bytes ≡ u ∷ rest
one_byte bytes u rest (One some small e) few = e
one_byte bytes u rest (Two which small e) few = absurd (omega (arith, ap length e, few))
one_byte bytes u rest (Three large small e) few = absurd (omega (arith, ap length e, few))

one_byte_each : (s : List ℕ) → AreUnits s → length (spelling s) ≡ length s → spelling s ≡ s
one_byte_each [] units same = refl
one_byte_each (u ∷ s) units same =
    let rest : AreUnits s = λ k d lt. units (suc k) d (omega arith) in
    let first = one_byte (form u ++ spelling s) u (spelling s) (shape_of u (spelling s) (units 0 0 (omega arith))) (omega (arith, same, least s rest)) in
    first ∙ ap (λ (t : List ℕ). u ∷ t) (one_byte_each s rest (omega (arith, ap length first, same)))

ascii_form : (bytes : List ℕ) (u : ℕ) (rest : List ℕ) → Shape bytes u rest → IsAscii u → bytes ≡ u ∷ rest
ascii_form bytes u rest (One some small e) h = e
ascii_form bytes u rest (Two which small e) h = absurd (elim which [ inl none ↦ omega (arith, none, h.0) | inr large ↦ omega (arith, large, h.1) ])
ascii_form bytes u rest (Three large small e) h = absurd (omega (arith, large, h.1))

ascii_spelling : (s : List ℕ) → All IsAscii s → spelling s ≡ s
ascii_spelling [] h = refl
ascii_spelling (u ∷ s) h = ascii_form (form u ++ spelling s) u (spelling s) (shape_of u (spelling s) (omega (arith, (All-head IsAscii u s h).1))) (All-head IsAscii u s h) ∙ ap (λ (t : List ℕ). u ∷ t) (ascii_spelling s (All-tail IsAscii u s h))

module _ (bytes s : List ℕ) (spelled : IsSpelling bytes) (is : units_of bytes ≡ s) where
  same : spelling s ≡ bytes
  same = ap spelling (sym is) ∙ spelled.parts

  pub ascii_is : length s ≡ length bytes → bytes ≡ s
  ascii_is e = sym same ∙ one_byte_each s (rw is at spelled.units) (ap length same ∙ sym e)

  pub not_ascii : length s ≢ length bytes → ¬ All IsAscii s
  not_ascii unequal all = unequal (ap length (sym (ascii_spelling s all) ∙ same))

-- four units of ASCII first
pub four_ascii : (bytes : List ℕ) → 4 ≤ length bytes → IsAscii (get_or bytes 0 0) → IsAscii (get_or bytes 1 0) → IsAscii (get_or bytes 2 0) → IsAscii (get_or bytes 3 0) → BeginsWithAscii 4 bytes (take (length bytes - 4) (drop 4 bytes))
four_ascii (a ∷ b ∷ c ∷ d ∷ rest) enough first second third fourth = record {
  us = a ∷ b ∷ c ∷ d ∷ [];
  len = refl;
  ascii = All-cons IsAscii a (b ∷ c ∷ d ∷ []) first (All-cons IsAscii b (c ∷ d ∷ []) second (All-cons IsAscii c (d ∷ []) third (All-cons IsAscii d [] fourth (λ k e lt. absurd (omega (arith, lt))))));
  parts = ap (λ (t : List ℕ). a ∷ b ∷ c ∷ d ∷ t) (sym (take_all (length (a ∷ b ∷ c ∷ d ∷ rest) - 4) rest (omega arith)));
}
four_ascii _ enough first second third fourth = absurd (omega (arith, enough))

-- one unit of ASCII first
pub one_ascii : (bytes : List ℕ) → 1 ≤ length bytes → IsAscii (get_or bytes 0 0) → BeginsWithAscii 1 bytes (take (length bytes - 1) (drop 1 bytes))
one_ascii (a ∷ rest) enough first = record {
  us = a ∷ [];
  len = refl;
  ascii = All-cons IsAscii a [] first (λ k e lt. absurd (omega (arith, lt)));
  parts = ap (λ (t : List ℕ). a ∷ t) (sym (take_all (length (a ∷ rest) - 1) rest (omega arith)));
}
one_ascii [] enough first = absurd (omega (arith, enough))

-- units of ASCII are passed where their bytes are
pub ascii_passed : (bytes : List ℕ) (n : ℕ) (rest : List ℕ) (k : ℕ) (after : List ℕ) → Passed bytes n rest → BeginsWithAscii k rest after → Passed bytes (n + k) after
ascii_passed bytes n rest k after passed begins = record {
  us = passed.us ++ begins.us;
  len = omega (arith, length-append passed.us begins.us, passed.len, begins.len);
  units = All-append (λ v. v < 2 ^ 16) passed.us begins.us passed.units (λ i d lt. omega (arith, (begins.ascii i d lt).1));
  parts = passed.parts ∙ ap (λ (x : List ℕ). spelling passed.us ++ x) (begins.parts ∙ ap (λ (x : List ℕ). x ++ after) (sym (ascii_spelling begins.us begins.ascii))) ∙ sym (append_assoc (spelling passed.us) (spelling begins.us) after) ∙ ap (λ (x : List ℕ). x ++ after) (sym (flat_map-append form passed.us begins.us));
  room = omega (arith, passed.room, ap length begins.parts, length-append begins.us after, begins.len);
}
