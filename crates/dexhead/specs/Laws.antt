-- The statements of the laws of headers and of their sums.
use Rattle.std.specs.Prelude.{◌≡◌, ℕ, List, ◌++◌, length}
use Rattle.sha1.specs.Sha1.{sha1}
use Rattle.dexspec.specs.Header.{adler_32}
use Rattle.dexspec.specs.Placing.{Ordered}
use Rattle.dexspec.specs.Canonical.{unsigned_file, with_sums}
use Rattle.dexhead.specs.declared.head.Head.{Head}
use Rattle.dexhead.specs.Sums.{with_sums_set}
use Rattle.dexhead.specs.Laid.{StatesLayout, after_header}
use Rattle.dexhead.specs.Written.{field_bytes, head_bytes}

-- whatever sums a header has, setting them gives the sums of what follows them
abbrev pub HeadsTakeSums : Type 0
HeadsTakeSums =
    (h : Head) (rest : List ℕ) → length h.signature ≡ 20
    → with_sums_set (head_bytes h ++ rest) ≡ with_sums (field_bytes h ++ rest)

-- a header with the right sums has the bytes that setting them would give
abbrev pub HeadsHaveSums : Type 0
HeadsHaveSums =
    (h : Head) (rest : List ℕ) → h.signature ≡ sha1 (field_bytes h ++ rest)
    → h.checksum ≡ adler_32 (h.signature ++ (field_bytes h ++ rest))
    → head_bytes h ++ rest ≡ with_sums (field_bytes h ++ rest)

-- a header that describes the rest of the file of classes is, once its sums are set, the start of their canonical file
abbrev pub FilesTakeSums : Type 0
FilesTakeSums =
    (h : Head) (K : Ordered) → length h.signature ≡ 20 → StatesLayout h K
    → with_sums_set (head_bytes h ++ after_header K) ≡ with_sums (unsigned_file K)

-- so is such a header that has the right sums
abbrev pub FilesHaveSums : Type 0
FilesHaveSums =
    (h : Head) (K : Ordered) → StatesLayout h K → h.signature ≡ sha1 (unsigned_file K)
    → h.checksum ≡ adler_32 (h.signature ++ unsigned_file K)
    → head_bytes h ++ after_header K ≡ with_sums (unsigned_file K)
