use Rattle.dexspec.proofs.determined.OneClass.{one_encoded_fields, one_encoded_methods, one_class_data}
use Rattle.dexlaws.proofs.denotes.classes.class_data_is_determined.Goals as goal

pub returns : goal.returns
returns c = record { fields = one_encoded_fields; methods = one_encoded_methods; whole = one_class_data }
