-- The encodings of scalar values, by any output.
use Rattle.dexval.proofs.Common.{◌≡◌, ℕ, List, sym, ap, ◌∙◌, subst, ℤ, unsigned_bytes, signed_bytes, bits_bytes, Value, value_of, numbered_bytes}

module _ {O : Type 0} (gives : List ℕ → O → O → Type 0) where
  -- a value of an unsigned kind
  pub unsigned_given : (v : Value) (code i : ℕ) {n : ℕ} {a b : O} → numbered_bytes (value_of v) ≡ unsigned_bytes code i → gives (unsigned_bytes code n) a b → n ≡ i → gives (numbered_bytes (value_of v)) a b
  unsigned_given v code i {n} {a} {b} e h same = subst (λ bs. gives bs a b) (ap (unsigned_bytes code) same ∙ sym e) h

  -- a value of a signed kind
  pub signed_given : (v : Value) (code : ℕ) (z : ℤ) {n : ℤ} {a b : O} → numbered_bytes (value_of v) ≡ signed_bytes code z → gives (signed_bytes code n) a b → n ≡ z → gives (numbered_bytes (value_of v)) a b
  signed_given v code z {n} {a} {b} e h same = subst (λ bs. gives bs a b) (ap (signed_bytes code) same ∙ sym e) h

  -- a bit pattern
  pub bits_given : (v : Value) (code width i : ℕ) {n : ℕ} {a b : O} → numbered_bytes (value_of v) ≡ bits_bytes code width i → gives (bits_bytes code width n) a b → n ≡ i → gives (numbered_bytes (value_of v)) a b
  bits_given v code width i {n} {a} {b} e h same = subst (λ bs. gives bs a b) (ap (bits_bytes code width) same ∙ sym e) h
