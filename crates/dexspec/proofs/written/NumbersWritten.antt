-- LEB128 numbers are at the offsets of their shortest encodings; symbols are in the rows of their indices.
use Rattle.dexspec.proofs.Common.{ℕ, ◌+◌, ◌^◌, ◌<◌, List, [], ◌∷◌, ◌++◌, length, Option, arith, ℤ, FitsSigned, w32, Contains, Contains-append_left, Contains-append_right, Mentions}
use Rattle.dexspec.specs.{BytesAt, Uleb128At, Sleb128At, Uleb128p1At, IsUleb128, IsSleb128, IsUleb128p1, plus_one, uleb128, sleb128, uleb128p1, Symbol, SymbolRow, symbol_index}
use Rattle.dexspec.proofs.written.PlacedBytes.{is_at_first, is_at_whole, is_at_later, is_at_in, is_at}
use Rattle.dexspec.proofs.lists.Members.{Contains-first, Contains-later}
use Rattle.dexspec.proofs.numbers.Spellings.{uleb128_is, sleb128_is, uleb128p1_is}
use Rattle.dexspec.proofs.layout.PoolsAreAt.{begins_with}

-- ---- parts of bytes at an offset

-- the prefix of the bytes at an offset
pub prefix_is_at : {b : List ℕ} {o : ℕ} (x y : List ℕ) → BytesAt b o (x ++ y) → BytesAt b o x
prefix_is_at x y h = is_at (omega arith) (is_at_in h (is_at_first x y))

-- the bytes after the prefix
pub suffix_is_at : {b : List ℕ} {o : ℕ} (x y : List ℕ) → BytesAt b o (x ++ y) → BytesAt b (o + length x) y
suffix_is_at x y h = is_at (omega arith) (is_at_in h (is_at_later x (is_at_whole y)))

-- the first of the bytes at an offset
pub head_is_at : {b : List ℕ} {o : ℕ} (x : ℕ) (y : List ℕ) → BytesAt b o (x ∷ y) → BytesAt b o (x ∷ [])
head_is_at x y h = prefix_is_at (x ∷ []) y h

-- the bytes after the first
pub tail_is_at : {b : List ℕ} {o : ℕ} (x : ℕ) (y : List ℕ) → BytesAt b o (x ∷ y) → BytesAt b (o + 1) y
tail_is_at x y h = is_at (omega arith) (suffix_is_at (x ∷ []) y h)

-- ---- numbers

-- a uleb128
pub uleb128_written : (b : List ℕ) (o v : ℕ) → v < 2 ^ 32 → BytesAt b o (uleb128 v) → Uleb128At b o v (length (uleb128 v))
uleb128_written b o v lt h = begins_with IsUleb128 b o (uleb128 v) v h (uleb128_is v lt).0

-- an sleb128
pub sleb128_written : (b : List ℕ) (o : ℕ) (z : ℤ) → FitsSigned w32 z → BytesAt b o (sleb128 z) → Sleb128At b o z (length (sleb128 z))
sleb128_written b o z fits h = begins_with IsSleb128 b o (sleb128 z) z h (sleb128_is z fits).0

-- a uleb128p1
pub uleb128p1_written : (b : List ℕ) (o : ℕ) (v : Option ℕ) → plus_one v < 2 ^ 32 → BytesAt b o (uleb128p1 v) → Uleb128p1At b o v (length (uleb128p1 v))
uleb128p1_written b o v lt h = begins_with IsUleb128p1 b o (uleb128p1 v) v h (uleb128p1_is v lt).0

-- ---- symbols in the rows of their indices

-- the symbol is in the row of its index, and the index plus one fits 32 bits
abbrev pub IsInRow : List ℕ → Mentions → Symbol → Type 0
IsInRow b m s = SymbolRow b (symbol_index m s) s × (symbol_index m s + 1 < 2 ^ 32)

-- each symbol is in the row of its index
abbrev pub AreInRows : List ℕ → Mentions → List Symbol → Type 0
AreInRows b m ss = (s : Symbol) → Contains ss s → IsInRow b m s

module _ (b : List ℕ) (m : Mentions) where
  -- the first symbol
  pub first_in_row : (s : Symbol) (ss : List Symbol) → AreInRows b m (s ∷ ss) → IsInRow b m s
  first_in_row s ss are = are s (Contains-first s ss)

  -- the other symbols
  pub rest_in_rows : (s : Symbol) (ss : List Symbol) → AreInRows b m (s ∷ ss) → AreInRows b m ss
  rest_in_rows s ss are = λ t c. are t (Contains-later s t ss c)

  -- the symbols of a prefix
  pub prefix_in_rows : (ss ts : List Symbol) → AreInRows b m (ss ++ ts) → AreInRows b m ss
  prefix_in_rows ss ts are = λ t c. are t (Contains-append_left ss ts t c)

  -- the symbols after the prefix
  pub back_in_rows : (ss ts : List Symbol) → AreInRows b m (ss ++ ts) → AreInRows b m ts
  back_in_rows ss ts are = λ t c. are t (Contains-append_right ss ts t c)
