use Rattle.dexmembers.proofs.ClassDataSpelled.{class_data_spelled}
use Rattle.dexmembers.proofs.DirectorySpelled.{directory_spelled}
use Rattle.dexmembers.proofs.laws.members_bytes_law.Goals as goal

pub returns-clause-class_data : goal.returns-clause-class_data
returns-clause-class_data c = λ m name body x code_offs rising. class_data_spelled m (c.number_law.ensures m rising) name body x code_offs

pub returns-clause-directory : goal.returns-clause-directory
returns-clause-directory c = λ m name body x own_off field_offs method_offs parameter_offs sets item rising.
    directory_spelled m (c.number_law.ensures m rising) name body x own_off field_offs method_offs parameter_offs sets item
