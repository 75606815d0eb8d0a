use Rattle.dexspec.proofs.Common.{arith}
use Rattle.dexspec.specs.Conditions.{Condition}
use Rattle.dexspec.proofs.wellformed.PoolRows.{strings_rise, types_rise}
use Rattle.dexspec.proofs.wellformed.MemberOrder.{protos_rise, fields_rise, methods_rise}
use Rattle.dexlaws.proofs.denotes.rows.rows_are_in_order.Goals as goal

pub returns : goal.returns
returns c = record {
  texts = λ b h. strings_rise b (h Condition.Strings (omega arith));
  types = λ b h. types_rise b (h Condition.Strings (omega arith)) (h Condition.Types (omega arith));
  protos = λ b h. protos_rise b (h Condition.Strings (omega arith)) (h Condition.Types (omega arith)) (h Condition.Protos (omega arith));
  fields = λ b h. fields_rise b (h Condition.Strings (omega arith)) (h Condition.Types (omega arith)) (h Condition.Fields (omega arith));
  methods = λ b h. methods_rise b (h Condition.Strings (omega arith)) (h Condition.Types (omega arith)) (h Condition.Protos (omega arith)) (h Condition.Methods (omega arith));
}
