use Rattle.dexspec.proofs.determined.OneClass.{one_annotation_item, one_set, one_ref_list, one_directory}
use Rattle.dexlaws.proofs.denotes.classes.annotations_are_determined.Goals as goal

pub returns : goal.returns
returns c = record { annotation = one_annotation_item; set = one_set; ref_list = one_ref_list; directory = one_directory }
