-- When the numbers of what a class declares fit their places, and the texts that a const-string names there.
use Rattle.std.specs.Prelude.{ℕ, List, All, IfSome, option_to_list}
use Rattle.std.specs.List.{flat_map}
use Rattle.dexinsn.specs.Fitting.{short_strings}
use Rattle.dexcode.specs.Numbered.{NumberedItem}
use Rattle.dexcode.specs.Renumbering as code
use Rattle.dexmembers.specs.Numbered.{NumberedMethod, NumberedMembers, methods_of}

-- each number in the code of the method fits its place now
abbrev pub MethodFits : NumberedMethod → Type 0
MethodFits x = IfSome x.code code.NumbersFit

-- of each method; numbers elsewhere have 32 bits
abbrev pub NumbersFit : NumberedMembers → Type 0
NumbersFit x = All MethodFits (methods_of x)

-- the numbers of texts that a const-string of the code names, not counting const-string/jumbo
abbrev pub code_short_strings : NumberedItem → List ℕ
code_short_strings c = short_strings c.body.pieces

-- of the method's code
abbrev pub method_short_strings : NumberedMethod → List ℕ
method_short_strings x = flat_map code_short_strings (option_to_list x.code)

-- of the code of all methods
abbrev pub members_short_strings : NumberedMembers → List ℕ
members_short_strings x = flat_map method_short_strings (methods_of x)
