use Rattle.dexspec.proofs.normal.ClassDirectory.{directory_put, directory_none, own_field, own_method_set, own_parameter_sets}
use Rattle.dexlaws.proofs.written.own_directory_written.Goals as goal

pub returns : goal.returns
returns c = record {
  some = λ D b o name body sets refs bytes short in_file formed rows are. directory_put D b short name body in_file formed rows sets refs are o bytes;
  none = λ D b name body sets refs short in_file formed rows are. directory_none D b short name body in_file formed rows sets refs are;
  fields = λ name body f formed. own_field name body formed f;
  methods = λ name body x formed. own_method_set name body formed x;
  parameters = λ name body x formed. own_parameter_sets name body formed x;
}
