-- Texts and numbers as they are printed. This project's rules.
use Rattle.std.specs.Prelude.{ℕ, ◌==◌, ◌||◌, nat_lt, if◌then◌else◌, Bool, false, List, [], ◌∷◌, ◌++◌, drop, codes}
use Rattle.std.specs.Prelude.{decimal}
use Rattle.std.specs.List.{flat_map}
use Rattle.dexspec.specs.Texts.{Text}
use Rattle.std.specs.Fmt.{digits}
use Rattle.dexstr.specs.Escapes.{escaped}
use Rattle.dexout.specs.declared.texts.UnitText.{UnitText}
use Rattle.dexout.specs.declared.texts.UnitText.TheVariants.{Sign, Quoted, Escaped}

-- ---- texts

-- a quotation mark or a backslash
abbrev pub needs_backslash : ℕ → Bool
needs_backslash unit = (unit == 0x22) || (unit == 0x5c)

-- a unit: a sign of ASCII as it is, a quotation mark and a backslash after a backslash, all others by their numbers
abbrev pub unit_text : ℕ → List ℕ
unit_text unit =
    if nat_lt unit 0x20 then escaped unit
    else if nat_lt 0x7e unit then escaped unit
    else if needs_backslash unit then 0x5c ∷ unit ∷ []
    else unit ∷ []

-- the signs that a unit is printed as
abbrev pub signs_of : UnitText → List ℕ
signs_of (Sign sign) = sign ∷ []
signs_of (Quoted signs) = signs
signs_of (Escaped signs) = signs

-- a text, a name, a descriptor
abbrev pub shown : Text → List ℕ
shown s = flat_map unit_text s

-- a text between quotation marks
abbrev pub quoted : Text → List ℕ
quoted s = codes "\"" ++ (shown s ++ codes "\"")

-- ---- numbers

-- words, and a number in decimal
unfoldable pub count_text : List ℕ → ℕ → List ℕ
count_text words n = words ++ decimal n

-- the place of a unit in hexadecimal, in four digits at least: those of a unit that is printed by its number
unfoldable pub place_text : ℕ → List ℕ
place_text n = if nat_lt n 0x1000 then drop 2 (escaped n) else digits 16 false n
