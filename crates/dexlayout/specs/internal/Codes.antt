-- The code of methods, by its numbers.
use Rattle.std.specs.Prelude.{ℕ, List, Option, IfSome, All}
use Rattle.std.specs.Option.{option_map}
use Rattle.dexspec.specs.Lists.{zip_with}
use Rattle.dexcode.specs.CodePut.{numbered_code_bytes, HasShortTypes}
use Rattle.dexcode.specs.Numbered.{handlers_of}
use Rattle.dexmembers.specs.Numbered.{NumberedMethod}

-- a method's code, if it has some, whose debug program has this offset
abbrev pub code_item : NumberedMethod → ℕ → Option (List ℕ)
code_item x debug_off = option_map (numbered_code_bytes debug_off) x.code

-- the code of methods, with the offset of the debug program of each
abbrev pub code_items : List NumberedMethod → List ℕ → List (Option (List ℕ))
code_items xs debug_offs = zip_with code_item xs debug_offs

-- the number of each type that the method's code catches has 16 bits
abbrev pub HasShortCode : NumberedMethod → Type 0
HasShortCode x = IfSome x.code (λ c. All HasShortTypes (handlers_of c.tries))
