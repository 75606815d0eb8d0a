-- A whole file of 264 bytes, and three files with one error each.
use Rattle.std.specs.Prelude.{ℕ, List, [], ◌∷◌, ◌++◌, take, slice_set}
use Rattle.dexexamples.specs.ExpectedFiles.{prefix_a, file_a, file_p}

-- the file of `class_a`
unfoldable pub whole_a : List ℕ
whole_a = prefix_a ++ file_a

-- the zero byte after its first text is 1
unfoldable pub changed_a : List ℕ
changed_a = slice_set whole_a 164 1

-- its last byte is missing
unfoldable pub cut_a : List ℕ
cut_a = take 263 whole_a

-- its magic says version 038
unfoldable pub later_a : List ℕ
later_a = slice_set whole_a 6 0x38

-- the first 32 bytes of the file of `class_p`: magic, and the two sums as other programs compute them
abbrev pub prefix_p : List ℕ
prefix_p =
    0x64 ∷ 0x65 ∷ 0x78 ∷ 0x0a ∷ 0x30 ∷ 0x33 ∷ 0x35 ∷ 0x00 ∷ 0xa0 ∷ 0x2a ∷ 0x0a ∷ 0xb5 ∷ 0x5f ∷ 0x29 ∷ 0x4f ∷ 0xaf ∷
    0x43 ∷ 0xee ∷ 0xf3 ∷ 0x50 ∷ 0x8a ∷ 0x6d ∷ 0xdf ∷ 0x37 ∷ 0xef ∷ 0x9b ∷ 0xb6 ∷ 0x83 ∷ 0xab ∷ 0x3b ∷ 0x81 ∷ 0xa4 ∷
    []

-- the file of `class_p` with the text `hi`
unfoldable pub whole_p : List ℕ
whole_p = prefix_p ++ file_p
