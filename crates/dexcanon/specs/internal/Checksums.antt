-- The checksum of joined bytes.
use Rattle.std.specs.Prelude.{◌≡◌, ℕ, List, ◌++◌, length}
use Rattle.dexspec.specs.Header.{adler_32}

-- of bytes followed by others, whose checksums are these and of which the others have this length
abbrev pub IsChecksumOfBoth : ℕ → ℕ → ℕ → ℕ → Type 0
IsChecksumOfBoth front back len checksum =
    (xs ys : List ℕ) → front ≡ adler_32 xs → back ≡ adler_32 ys → len ≡ length ys → checksum ≡ adler_32 (xs ++ ys)
