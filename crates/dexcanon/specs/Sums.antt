-- Sums that take bytes.
use Rattle.std.proofs.Common.{◌≡◌, ℕ, List, [], ◌++◌, sym, subst, ◌∙◌, append_assoc, ap, refl}
use Rattle.std.proofs.lemmas.List.{append-nil}
use Rattle.std.proofs.lemmas.Grind.{fold-append}
use Rattle.sha1.specs.Sha1.{Holds}
use Rattle.sha1.specs.declared.Sha1.{Sha1}
use Rattle.dexspec.specs.Header.{adler_step, adler_sums}

-- a message has x after what it had
abbrev pub Hashed : List ℕ → Sha1 → Sha1 → Type 0
Hashed x old new = (m : List ℕ) → Holds old m → Holds new (m ++ x)

pub hashed_nothing : (a : Sha1) → Hashed [] a a
hashed_nothing a m h = subst (Holds a) (sym (append-nil m)) h

pub hashed_both : (x y : List ℕ) (a b c : Sha1) → Hashed x a b → Hashed y b c → Hashed (x ++ y) a c
hashed_both x y a b c h g m is = subst (Holds c) (append_assoc m x y) (g (m ++ x) (h m is))

-- the two numbers of a checksum are those of x after what they were of
abbrev pub Summed : List ℕ → ℕ × ℕ → ℕ × ℕ → Type 0
Summed x old new = new ≡ adler_sums old x

pub summed_nothing : (a : ℕ × ℕ) → Summed [] a a
summed_nothing a = refl

pub summed_both : (x y : List ℕ) (a b c : ℕ × ℕ) → Summed x a b → Summed y b c → Summed (x ++ y) a c
summed_both x y a b c h g = g ∙ ap (λ s. adler_sums s y) h ∙ sym (fold-append adler_step a x y)
