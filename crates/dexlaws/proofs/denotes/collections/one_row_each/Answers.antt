use Rattle.dexspec.proofs.wellformed.PoolRows.{same_type_row}
use Rattle.dexspec.proofs.determined.Denoted.{has_classes, same_class_row}
use Rattle.dexlaws.proofs.denotes.collections.one_row_each.Goals as goal

pub returns : goal.returns
returns c = record { types = λ b i j t h x y. same_type_row b (has_classes b h).strings (has_classes b h).types i j t x y; classes = λ b r s name k d h x y. same_class_row b (has_classes b h) r s name k d x y }
