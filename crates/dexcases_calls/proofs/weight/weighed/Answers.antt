use Rattle.dexcases_calls.proofs.weight.weighed.Goals as goal

pub returns-then-weighs : goal.returns-then-weighs
returns-then-weighs c = λ _. record {
  collection = c.in_ok-program.program;
  is = c.in_ok-program.ensures;
  weight_is = c.weighs.ensures c.if-weighs.true;
}
