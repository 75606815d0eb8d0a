use Rattle.dexclass.proofs.Common.{◌≡◌, ◌≢◌, ◌∙◌, ℕ, List, length, Option, Some, None, unwrap_or, uint_at}
use Rattle.std.specs.Prelude.{MatchOption}
use Rattle.dexids.specs.Reading.{HasRoom, listed}
use Rattle.dexclass.specs.internal.Rows.{HasInterfaceList}
use Rattle.dexclass.proofs.Interfaces.{interfaces_count, listed_room}
use Rattle.dexclass.proofs.reading.interface_count.Goals as goal

-- the number of a list that is there
counted : (b : List ℕ) (off : ℕ) → off ≢ 0 → HasInterfaceList b off → (o : Option ℕ) → MatchOption o ((n : ℕ) → HasRoom b off n → ⊥) (HasRoom b off) → unwrap_or o 0 ≡ length (listed b off)
counted b off some list None none = absurd (none (uint_at b off) (listed_room b off some list))
counted b off some list (Some n) room = interfaces_count b off n some room

pub returns : goal.returns
returns c = c.unwrap_or.ensures ∙ counted c.args.frame.now c.args.off c.if-off-eq0.false c.requires c.type_list_len.result c.type_list_len.ensures
