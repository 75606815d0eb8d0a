-- the two sums of a file
use Rattle.std.specs.Prelude.{ℕ, List, ◌++◌, take, drop}
use Rattle.sha1.specs.Sha1.{sha1}
use Rattle.dexspec.specs.Bytes.{uint}
use Rattle.dexspec.specs.Header.{adler_32}

-- the signature of a file, and what it is of
unfoldable pub signed : List ℕ → List ℕ
signed file = sha1 (drop 32 file) ++ drop 32 file

-- a file with its two sums: the checksum over the signature and what follows it, the signature over what follows
-- that
unfoldable pub with_sums_set : List ℕ → List ℕ
with_sums_set file = take 8 file ++ (uint (adler_32 (signed file)) ++ signed file)
