use Rattle.dexval.proofs.Ranked.{same_value, same_values, same_set}
use Rattle.dexval.proofs.laws.same_law.Goals as goal

pub returns : goal.returns
returns c = record {
  value = λ m n whole r s x y v w rising first second. same_value m n whole r s rising first second x y v w;
  values = λ m n whole r s xs ys vs ws rising first second. same_values m n whole r s rising first second xs ys vs ws;
  set = λ m n whole r s xs ys a b rising first second. same_set m n whole r s rising first second xs ys a b;
}
