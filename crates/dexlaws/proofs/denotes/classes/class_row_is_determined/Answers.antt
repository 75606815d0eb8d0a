use Rattle.dexspec.proofs.determined.OneClass.{few_rows, one_class_row}
use Rattle.dexlaws.proofs.denotes.classes.class_row_is_determined.Goals as goal

pub returns : goal.returns
returns c = λ b r n m x y bytes h g. one_class_row b (few_rows b bytes) r n m x y h g
