use Rattle.std.proofs.Common.{arith, subst}
use Rattle.dexio.proofs.Encoded.{given_more, given_all}
use Rattle.dexout.proofs.Given.{last_part}
use Rattle.dexcode.specs.declared.tries.Try.{Try}
use Rattle.dexcode.specs.Numbered.{named, try_meant}
use Rattle.dexlisting.specs.FullListing.{try_lines}
use Rattle.dexlisting.proofs.TryLines.{tries_shown, try_known}
use Rattle.dexlisting.proofs.tries.encode_tries.Goals as goal

pub encode_try-requires-clause-known : goal.encode_try-requires-clause-known
encode_try-requires-clause-known g c =
    let hs = c.handlers-handlers.result.now in
    try_known c.args.numbering.now hs c.tries-all.result.now c.args.tries.now c.loop-k.k _ (c.tries-all.ensures.tries hs c.handlers-handlers.ensures.handlers) c.requires (omega (arith, c.loop-k-test.true))

pub loop-k-preserved : goal.loop-k-preserved
loop-k-preserved g c =
    let m = c.args.numbering.now in
    let hs = c.handlers-handlers.result.now in
    given_more g.O.Output.gives g.met.O.Output.both (λ t. try_lines (try_meant m (named hs t))) c.tries-all.result.now c.loop-k.k _ c.args.out.now c.loop-k.out c.encode_try.new.out (omega (arith, c.loop-k-test.true)) c.loop-k.invariant c.encode_try.ensures

pub returns : goal.returns
returns g c =
    let m = c.args.numbering.now in
    let hs = c.handlers-handlers.result.now in
    let all = c.tries-all.result.now in
    last_part g.O.Output.gives g.met.O.Output.both (tries_shown m hs all c.args.tries.now (c.tries-all.ensures.tries hs c.handlers-handlers.ensures.handlers))
    (given_all g.O.Output.gives g.met.O.Output.both (λ t. try_lines (try_meant m (named hs t))) all c.loop-k.k c.args.out.now c.loop-k.out (omega (arith, c.loop-k-test.false)) c.loop-k.invariant)
