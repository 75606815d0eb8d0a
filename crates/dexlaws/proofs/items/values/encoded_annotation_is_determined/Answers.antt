use Rattle.dexspec.proofs.determined.OneValue.{one_annotation}
use Rattle.dexlaws.proofs.items.values.encoded_annotation_is_determined.Goals as goal

pub returns : goal.returns
returns c = one_annotation
