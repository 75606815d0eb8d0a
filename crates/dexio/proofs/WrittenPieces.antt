-- Bytes that come and go in pieces.
use Rattle.dexio.proofs.Common.{◌≡◌, ℕ, ◌+◌, List, ◌++◌, take, drop, append_assoc, take-add}

-- after a prefix, a prefix of the rest
pub written_more : (old mid new bytes rest : List ℕ) (i n : ℕ) → mid ≡ old ++ take i bytes → rest ≡ drop i bytes → new ≡ mid ++ take n rest → new ≡ old ++ take (i + n) bytes
written_more old mid new bytes rest i n before left after = rw (after, before, left, take-add i n bytes, append_assoc)

-- the same, where how much is not known
pub prefix_more : (old mid new bytes rest : List ℕ) (i : ℕ) → mid ≡ old ++ take i bytes → rest ≡ drop i bytes → ((n : ℕ) × (new ≡ mid ++ take n rest)) → (n : ℕ) × (new ≡ old ++ take n bytes)
prefix_more old mid new bytes rest i before left after = (i + after.0, written_more old mid new bytes rest i after.0 before left after.1)
