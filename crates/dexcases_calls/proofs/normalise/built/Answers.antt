use Rattle.dexcases_calls.proofs.normalise.built.Goals as goal

pub returns-then-branch : goal.returns-then-branch
returns-then-branch c = λ _. record {
  collection = c.in_ok-program.program;
  is = c.in_ok-program.ensures;
  whole_is = c.in_ok-is_canonical.ensures c.if-branch.true;
}
