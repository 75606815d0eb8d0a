-- Parts of what a class declares: what they name.
use Rattle.std.specs.Prelude.{List, Option, option_to_list}
use Rattle.std.specs.List.{flat_map}
use Rattle.dexpool.specs.Uses.{Use}
use Rattle.dexcode.specs.Numbered.{NumberedItem}
use Rattle.dexcode.specs.Renumbering.{item_uses}

-- what the code names, if there is some
abbrev pub optional_code_uses : Option NumberedItem → List Use
optional_code_uses code = flat_map item_uses (option_to_list code)
