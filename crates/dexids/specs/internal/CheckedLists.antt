-- Lists of parameters that were checked, by the letters of their types.
use Rattle.std.specs.Prelude.{◌≡◌, ◌≢◌, ℕ, List, [], ◌∷◌, Some, nat_eq, map, All, slice_index_or}
use Rattle.std.specs.HashMap.{HashMap, get}
use Rattle.dexspec.specs.Texts.{Text}
use Rattle.dexspec.specs.Names.{IsValueType, shorty_letter}
use Rattle.dexspec.specs.Lists.{OrNone}
use Rattle.dexspec.specs.Rows.{TypeListAt}
use Rattle.dexids.specs.declared.protos.CheckedList.{CheckedList}
use Rattle.dexids.specs.Tables.{text_of, span_of}
use Rattle.dexids.specs.Reading.{IsListed, letters_of, file_numbers}

-- ---- letters

-- these are the letters of the types, in their order
abbrev pub AreLetters : List Text → List ℕ → List ℕ → Type 0
AreLetters texts types letters = letters ≡ map (λ n. shorty_letter (text_of texts n)) types

-- the letter of a number, and void's where there is none
abbrev pub letter_in : List ℕ → ℕ → ℕ
letter_in letters n = slice_index_or letters n 0x56

-- the letters of numbers
abbrev pub letters_in : List ℕ → List ℕ → List ℕ
letters_in letters ns = map (letter_in letters) ns

-- none of the numbers has void's letter
abbrev pub NoVoid : List ℕ → List ℕ → Type 0
NoVoid letters ns = All (λ n. letter_in letters n ≢ 0x56) ns

-- the unit is the letter of a number, which is not void's
pub record IsLetter (letters : List ℕ) (n unit : ℕ) : Type 0 where
  pub unit_is : unit ≡ letter_in letters n
  pub no_void : letter_in letters n ≢ 0x56

-- the units are the letters of the numbers, none of which is void's
pub record SpellNumbers (letters units ns : List ℕ) : Type 0 where
  pub units_are : units ≡ letters_in letters ns
  pub no_void : NoVoid letters ns

-- the text is a first letter and then those of the numbers, none of which is void's
pub record IsSpelled (letters text : List ℕ) (first : ℕ) (ns : List ℕ) : Type 0 where
  pub text_is : text ≡ first ∷ letters_in letters ns
  pub no_void : NoVoid letters ns

-- it is not void's letter
abbrev pub IsNotVoid : ℕ → Type 0
IsNotVoid letter = letter ≢ 0x56

-- the units are these letters, none of which is void's
pub record AreThese (letters units : List ℕ) : Type 0 where
  pub units_are : units ≡ letters
  pub no_void : All IsNotVoid units

-- ---- lists

-- the list is there, and its shorty is the text of this number after this letter
pub record IsChecked (b : List ℕ) (texts : List Text) (types : List ℕ) (o : ℕ) (j : CheckedList) : Type 0 where
  pub listed : IsListed b texts types o j.span
  pub shorty : text_of texts j.shorty ≡ j.letter ∷ letters_of texts types (span_of (file_numbers b) j.span)

-- so it is for each list that is noted
abbrev pub AreChecked : {S : Type 0} → List ℕ → List Text → List ℕ → HashMap ℕ CheckedList S → Type 0
AreChecked b texts types m = (o : ℕ) (j : CheckedList) → get nat_eq m o ≡ Some j → IsChecked b texts types o j

-- no parameters are listed there whose shorty after this letter is the text
abbrev pub NotListedAs : List ℕ → ℕ → ℕ → Text → Type 0
NotListedAs b o letter text =
    (ts : List Text) → OrNone TypeListAt [] b o ts → All IsValueType ts → text ≡ letter ∷ map shorty_letter ts → ⊥
