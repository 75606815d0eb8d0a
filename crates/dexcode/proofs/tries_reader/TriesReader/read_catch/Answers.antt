use Rattle.dexcode.proofs.Common.{refl, arith}
use Rattle.dexcode.proofs.HandlersRead.{no_type, no_address}
use Rattle.dexcode.proofs.tries_reader.TriesReader.read_catch.Goals as goal

pub returns-in_default-clause-none : goal.returns-in_default-clause-none
returns-in_default-clause-none c = λ x n at. let e = c.in_default.ensures.only x.typ at.index_size at.index_is in absurd cc

pub returns-then-self-typ-clause-none : goal.returns-then-self-typ-clause-none
returns-then-self-typ-clause-none c = no_type c.args.self.now.starts.now c.args.self.now.types c.args.self.now.bytes.now c.args.at c.in-Ok.typ c.in-Ok.index_size c.in-Ok.ensures.found (omega arith)

pub returns-in_err-addr-clause-none : goal.returns-in_err-addr-clause-none
returns-in_err-addr-clause-none c = rw c.from_residual.ensures (no_address c.args.self.now.starts.now c.args.self.now.types c.args.self.now.bytes.now c.args.at c.in-Ok.typ c.in-Ok.index_size c.in-Ok.ensures.found c.in_err-addr.ensures.none)

pub returns-clause-some : goal.returns-clause-some
returns-clause-some c = record {
  index_size = c.in-Ok.index_size;
  address_size = c.in_ok-addr.addr_size;
  index_is = c.in-Ok.ensures.found;
  in_range = omega arith;
  address_is = c.in_ok-addr.ensures.address;
  start = c.in_ok-addr.ensures.start;
  size = refl;
}
