-- Texts: lists of 16-bit units, and their bytes as MUTF-8. Source: "Dalvik Executable format", "MUTF-8 (Modified UTF-8)
-- encoding" and "string_data_item". This project's rule: each unit, also a surrogate, is encoded by itself in the one
-- form that `form` gives, and a surrogate need not have a partner.
use Rattle.std.specs.Prelude.{◌≡◌, ℕ, ◌+◌, ◌/◌, ◌%◌, ◌^◌, ◌<◌, Bool, List, [], ◌∷◌, ◌++◌, length, drop, All}
use Rattle.std.specs.Prelude.{if◌then◌else◌, nat_lt, ◌==◌}
use Rattle.std.specs.List.{flat_map}
use Rattle.std.specs.Ordering.{nat_cmp}
use Rattle.std.specs.Cmp.Lexicographic.{slice_cmp, pointwise}
use Rattle.std.specs.declared.cmp.Ordering.{Ordering}
use Rattle.dexspec.specs.Numbers.{IsUleb128, BeginsWith, uleb128}

-- A text: the list of its units.
abbrev pub Text : Type 0
Text = List ℕ

-- numbers of 16 bits
abbrev pub AreUnits : Text → Type 0
AreUnits s = All (λ u. u < 2 ^ 16) s

-- by units, a prefix first
abbrev pub text_cmp : Text → Text → Ordering
text_cmp = slice_cmp nat_cmp

-- whether two texts are equal
abbrev pub same_text : Text → Text → Bool
same_text = pointwise ◌==◌

-- the bytes of a unit: two for 0, one up to 0x7f, two up to 0x7ff, three for the others
abbrev pub form : ℕ → List ℕ
form u =
    if u == 0 then 0xc0 ∷ 0x80 ∷ []
    else (if nat_lt u 0x80 then u ∷ []
    else (if nat_lt u 0x800 then (0xc0 + u / 64) ∷ (0x80 + u % 64) ∷ []
    else (0xe0 + u / 4096) ∷ (0x80 + u / 64 % 64) ∷ (0x80 + u % 64) ∷ []))

-- the bytes of a text
abbrev pub spelling : Text → List ℕ
spelling s = flat_map form s

-- the bytes are a string_data_item of the text: its number of units in any encoding, its units, a zero byte
pub record IsStringData (bytes : List ℕ) (s : Text) : Type 0 where
  pub count : List ℕ
  pub says : IsUleb128 count (length s)
  pub units : AreUnits s
  pub parts : bytes ≡ count ++ (spelling s ++ 0 ∷ [])

-- a string_data_item of the text is at offset o of b, in n bytes
abbrev pub StringDataAt : List ℕ → ℕ → Text → ℕ → Type 0
StringDataAt b o s n = BeginsWith IsStringData (drop o b) s n

-- the shortest string_data_item of the text
abbrev pub string_data : Text → List ℕ
string_data s = uleb128 (length s) ++ (spelling s ++ 0 ∷ [])
