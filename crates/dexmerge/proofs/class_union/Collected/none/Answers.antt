use Rattle.dexmerge.proofs.Common.{List, [], sym, subst, NumberedClass}
use Rattle.dexmerge.specs.internal.Collecting.{AreCollected}
use Rattle.dexmerge.proofs.Collected.{none_collected}
use Rattle.dexmerge.proofs.class_union.Collected.none.Goals as goal

pub returns : goal.returns
returns c = λ m count. subst (λ (l : List NumberedClass). AreCollected m [] l c.in_ok-is_name.is_name.items) (sym c.new.ensures.items)
    (none_collected m c.args.types c.in_ok-is_name.is_name.items count (c.in_ok-is_name.ensures.items_if_clones_equal (λ y e. e)))
