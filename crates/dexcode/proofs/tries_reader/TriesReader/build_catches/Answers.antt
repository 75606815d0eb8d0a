use Rattle.dexcode.proofs.Common.{◌∷◌, [], sym, subst, ◌∙◌, arith, ◌+◌, length-append, Sequence, one_sequence, one_after, CatchAt}
use Rattle.dexcode.proofs.Prefixes.{stuck}
use Rattle.dexcode.proofs.HandlersRead.{one_catch, there_is}
use Rattle.dexcode.proofs.tries_reader.TriesReader.build_catches.Goals as goal

pub unwrap-len-requires : goal.unwrap-len-requires
unwrap-len-requires c = there_is c.read_catch.result c.read_catch.ensures.none (λ none.
    stuck (CatchAt c.args.self.now.starts.now c.args.self.now.types) (one_catch c.args.self.now.starts.now c.args.self.now.types) c.args.self.now.bytes.now c.args.at c.loop.catches.items c.requires.there.0 c.loop.size c.requires.there.1
    (omega (arith, c.requires.there.2, c.loop.invariant.read.many, c.loop-test.true)) c.loop.invariant.read.are_encoded none c.requires.there.3)

pub push_reserved-requires : goal.push_reserved-requires
push_reserved-requires c = omega (arith, c.loop.invariant.read.many, c.loop.invariant.full, c.loop.catches.ok.0, c.loop-test.true)

pub loop-preserved : goal.loop-preserved
loop-preserved c =
    let pushed = c.push_reserved.ensures.items in
    let at = CatchAt c.args.self.now.starts.now c.args.self.now.types in
    let had = c.loop.invariant.read in
    record {
      read = record {
        are_encoded = subst (λ cs. Sequence at c.args.self.now.bytes.now c.args.at cs (c.loop.size + c.unwrap-len.result.1)) (sym pushed)
            (one_after at c.args.self.now.bytes.now c.args.at c.loop.catches.items c.unwrap-len.result.0 c.loop.size c.unwrap-len.result.1 had.are_encoded (rw c.unwrap-len.ensures at c.read_catch.ensures.some));
        many = rw pushed (omega (arith, length-append c.loop.catches.items (c.unwrap-len.result.0 ∷ []), had.many));
        within = omega (arith, rw c.unwrap-len.ensures at c.read_catch.ensures.within);
      };
      full = c.push_reserved.ensures.capacity ∙ c.loop.invariant.full;
    }

pub returns-clause-built : goal.returns-clause-built
returns-clause-built c = λ cs n many are_encoded. one_sequence (CatchAt c.args.self.now.starts.now c.args.self.now.types) (one_catch c.args.self.now.starts.now c.args.self.now.types) c.args.self.now.bytes.now c.args.at c.loop.catches.items cs c.loop.size n
    (omega (arith, c.loop.invariant.read.many, many, c.loop-test.false)) c.loop.invariant.read.are_encoded are_encoded
