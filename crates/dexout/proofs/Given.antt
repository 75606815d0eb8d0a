-- What is written one after the other.
use Rattle.std.proofs.Common.{◌≡◌, ℕ, List, ◌++◌, subst}

module _ {O : Type 0} (gives : List ℕ → O → O → Type 0) (both : (x y : List ℕ) (a b c : O) → gives x a b → gives y b c → gives (x ++ y) a c) where
  -- a part, otherwise put, and what follows it
  pub next_part : {x part rest : List ℕ} {a b c : O} → x ≡ part → gives x a b → gives rest b c → gives (part ++ rest) a c
  next_part {part = part} {rest = rest} {a = a} {b = b} {c = c} e h more = both part rest a b c (subst (λ z. gives z a b) e h) more

  -- the last part, otherwise put
  pub last_part : {x part : List ℕ} {a b : O} → x ≡ part → gives x a b → gives part a b
  last_part {a = a} {b = b} e h = subst (λ z. gives z a b) e h
