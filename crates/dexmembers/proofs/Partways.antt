-- Items that are written one by one, and where this has come to.
use Rattle.dexmembers.proofs.Common.{◌≡◌, ℕ, List, [], ◌++◌, sym, ap, ◌∙◌, subst, append_assoc, append-nil}

-- of these bytes all but the rest are written
pub record Partway {O : Type 0} (gives : List ℕ → O → O → Type 0) (rest all : List ℕ) (old now : O) : Type 0 where
  pub done : List ℕ
  pub whole : done ++ rest ≡ all
  pub given : gives done old now

module _ {O : Type 0} (gives : List ℕ → O → O → Type 0) where
  -- one item more
  pub partway_next : ((x y : List ℕ) (a b c : O) → gives x a b → gives y b c → gives (x ++ y) a c) → (item rest all bytes : List ℕ) (a b c : O) → bytes ≡ item ++ rest → Partway gives bytes all a b → gives item b c → Partway gives rest all a c
  partway_next both item rest all bytes a b c e p h = record {
    done = p.done ++ item;
    whole = append_assoc p.done item rest ∙ ap (λ l. p.done ++ l) (sym e) ∙ p.whole;
    given = both p.done item a b c p.given h;
  }

  -- all is written
  pub partway_last : (rest all : List ℕ) (a b : O) → rest ≡ [] → Partway gives rest all a b → gives all a b
  partway_last rest all a b e p = subst (λ l. gives l a b) (sym (append-nil p.done) ∙ ap (λ l. p.done ++ l) (sym e) ∙ p.whole) p.given
