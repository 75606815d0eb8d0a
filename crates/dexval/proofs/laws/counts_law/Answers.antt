use Rattle.dexval.proofs.Counted.{value_is_counted, statics_are_counted, annotation_is_counted, set_is_counted, offsets_are_counted}
use Rattle.dexval.proofs.laws.counts_law.Goals as goal

pub returns : goal.returns
returns c = record { value = value_is_counted; statics = statics_are_counted; annotation = annotation_is_counted; set = set_is_counted; offsets = offsets_are_counted }
