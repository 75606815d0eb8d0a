use Rattle.dexmembers.proofs.Common.{ℕ, nat_eq, sym, arith}
use Rattle.std.specs.HashMap.{get}
use Rattle.dexmembers.proofs.RowChecked.{code_added, some_code_of, no_code_of}
use Rattle.dexmembers.proofs.row_reader.RowReader.check_code.Goals as goal

pub returns-then-off-eq0-clause-weight : goal.returns-then-off-eq0-clause-weight
returns-then-off-eq0-clause-weight c = λ p. no_code_of c.args.self.now.frame.now c.args.off c.if-off-eq0.true

pub returns-in-Some-clause-weight : goal.returns-in-Some-clause-weight
returns-in-Some-clause-weight c = λ p. some_code_of c.args.self.now.frame.now c.args.off c.in-Some.weight.now (omega arith) ((c.requires p).codes c.args.off c.in-Some.weight.now (sym c.in-Some.ensures.value))

pub returns-clause-checked : goal.returns-clause-checked
returns-clause-checked c = λ p. record {
  codes = code_added c.args.self.now.frame.now (λ (q : ℕ). get nat_eq c.args.checked.now.weights q) (λ (q : ℕ). get nat_eq c.insert.new.self q) c.args.off c.in_ok-shape.shape.weight ((c.requires p).codes) (c.in_ok-shape.ensures.code p) c.in_ok-insert.ensures.updates.1 c.in_ok-insert.ensures.updates.2;
  programs = c.in_ok-shape.ensures.checked p;
}

pub returns-clause-weight : goal.returns-clause-weight
returns-clause-weight c = λ p. some_code_of c.args.self.now.frame.now c.args.off c.in_ok-shape.shape.weight (omega arith) (c.in_ok-shape.ensures.code p)
