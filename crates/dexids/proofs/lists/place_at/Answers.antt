use Rattle.dexids.proofs.Common.{refl}
use Rattle.dexids.proofs.ListedPlaces.{none_placed, some_placed}
use Rattle.dexids.proofs.lists.place_at.Goals as goal

pub returns-then-off-eq0 : goal.returns-then-off-eq0
returns-then-off-eq0 c = none_placed c.args.frame.now c.args.off c.if-off-eq0.true

pub returns : goal.returns
returns c = some_placed c.args.frame.now c.args.off c.in_ok-end.field-0 _ c.in_ok-end.ensures c.if-off-eq0.false refl refl
