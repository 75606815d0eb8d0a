-- Which arguments the bytes of a list encode.
use Rattle.std.specs.Prelude.{◌≡◌, ℕ, ◌+◌, List, [], ◌∷◌, ◌==◌, ◌||◌, if◌then◌else◌, Option, Some, None, not, length}
use Rattle.std.specs.Prelude.{take, Bool, codes}
use Rattle.std.specs.List.{count_by, filter, slice_split}
use Rattle.std.specs.Str.{IsUtf8, IsValidUpTo, bytes_eq}
use Rattle.std.specs.Str.Lines.{lines}
use Rattle.dexargs.specs.declared.lists.Ending.{Ending}
use Rattle.dexargs.specs.declared.lists.Ending.TheVariants.{Line, Null}
use Rattle.dexargs.specs.declared.lists.ListFault.{ListFault}
use Rattle.dexargs.specs.declared.lists.ListFault.TheVariants.{NotUtf8, Memory}

-- a line is an argument if it is not empty
abbrev pub is_argument : List ℕ → Bool
is_argument line = not (length line == 0)

-- the byte that ends a name of a list
abbrev pub end_byte : Ending → ℕ
end_byte Line = 10
end_byte Null = 0

-- whether a byte ends a name of a list
abbrev pub is_end : Ending → ℕ → Bool
is_end ending byte = byte == end_byte ending

-- the lines of a list, or what is between its zero bytes
abbrev pub list_lines : Ending → List ℕ → List (List ℕ)
list_lines Line bytes = lines bytes
list_lines Null bytes = slice_split (is_end Null) bytes

-- the arguments that the bytes of a list encode: its lines that are not empty, in order (this project's rule)
abbrev pub list_arguments : Ending → List ℕ → List (List ℕ)
list_arguments ending bytes = filter is_argument (list_lines ending bytes)

-- the name of the list that an argument names: the bytes after its `@`, if there are any (this project's rule)
abbrev pub named_list : List ℕ → Option (List ℕ)
named_list [] = None
named_list (first ∷ name) = if first == 64 then (if length name == 0 then None else Some name) else None

-- the argument after which arguments are names of files, and name no list (this project's rule)
abbrev pub is_separator : List ℕ → Bool
is_separator argument = bytes_eq argument (codes "--")

-- an argument that asks for names that end with a zero byte
abbrev pub asks_for_null : List ℕ → Bool
asks_for_null argument = bytes_eq argument (codes "-z") || bytes_eq argument (codes "--null")

-- how names end in the lists of these arguments: with a zero byte if one of them before `--` asks for it
abbrev pub ending_of : List (List ℕ) → Ending
ending_of [] = Line
ending_of (argument ∷ arguments) =
    if is_separator argument then Line else if asks_for_null argument then Null else ending_of arguments

-- the number of the line that a place is in, from 1: one more than the ends of lines before it
abbrev pub line_number : Ending → List ℕ → ℕ → ℕ
line_number ending bytes place = 1 + count_by (is_end ending) (take place bytes)

-- this is the number of the first line that is not UTF-8: the bytes before some place of it are UTF-8, and none more
pub record IsBadLine (ending : Ending) (bytes : List ℕ) (number : ℕ) : Type 0 where
  pub place : ℕ
  pub text : IsValidUpTo bytes place
  pub is : number ≡ line_number ending bytes place

-- what a fault says of the bytes of a list
abbrev pub IsListFault : Ending → List ℕ → ListFault → Type 0
IsListFault ending bytes (NotUtf8 line) = IsBadLine ending bytes line
IsListFault ending bytes Memory = IsUtf8 bytes
