-- Items whose symbols are numbers of a numbering.
use Rattle.std.specs.Prelude.{List, [], map}
use Rattle.dexspec.specs.Mentions.{Mentions}
use Rattle.dexpool.specs.Uses.{Use}
use Rattle.dexval.specs.Code.{value_of, set_of}
use Rattle.dexval.specs.Numbered.{IsKnown, AreKnown, IsKnownSet, values_of_list}
use Rattle.dexval.specs.Uses.{value_uses, values_uses, set_uses}
use Rattle.dexdebug.specs.Debug.{debug_uses}
use Rattle.dexdebug.specs.Meaning.{IsKnownDebug}
use Rattle.dexcode.specs.Meaning.{IsKnownCode}
use Rattle.dexcode.specs.Renumbering.{item_uses as code_uses}
use Rattle.dexcases_items.specs.declared.item.Item.{Item}
use Rattle.dexcases_items.specs.declared.item.Item.TheVariants as kinds

-- each number in a value, in values, in a set, in a debug program or in code is a number of a symbol
abbrev pub IsKnownItem : Mentions → Item → Type 0
IsKnownItem m (kinds.Value v _) = IsKnown m (value_of v)
IsKnownItem m (kinds.Statics vs) = AreKnown m (values_of_list (map value_of vs.items))
IsKnownItem m (kinds.Set s) = IsKnownSet m (set_of s)
IsKnownItem m (kinds.Debug d) = IsKnownDebug m d
IsKnownItem m (kinds.Code c) = IsKnownCode m c
IsKnownItem m _ = Unit {0}

-- the symbols that occur in an item
abbrev pub item_uses : Item → List Use
item_uses (kinds.Value v _) = value_uses (value_of v)
item_uses (kinds.Statics vs) = values_uses (values_of_list (map value_of vs.items))
item_uses (kinds.Set s) = set_uses (set_of s)
item_uses (kinds.Debug d) = debug_uses d
item_uses (kinds.Code c) = code_uses c
item_uses _ = []
