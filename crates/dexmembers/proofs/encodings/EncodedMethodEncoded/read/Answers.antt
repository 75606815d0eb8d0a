use Rattle.dexmembers.proofs.Common.{◌≡◌, ◌∙◌, sym, true, false}
use Rattle.dexmembers.proofs.OneMember.{no_code, other_method}
use Rattle.dexmembers.proofs.encodings.EncodedMethodEncoded.read.Goals as goal

pub returns-in_err-index-clause-none : goal.returns-in_err-index-clause-none
returns-in_err-index-clause-none c = rw c.from_residual.ensures (λ x n h. let e = c.in_err-index.ensures.only x.index x.flags h.head_size h.own.short h.head_is in absurd cc)

pub returns-then-not-has_method-clause-none : goal.returns-then-not-has_method-clause-none
returns-then-not-has_method-clause-none c =
    other_method c.args.reader.now.pools.now c.args.reader.now.class c.args.reader.now.bytes.now c.args.at c.args.last c.in_ok-index.index c.in_ok-index.flags c.in_ok-index.head_size c.in_ok-index.ensures.some
    (λ own. let e : false ≡ true = sym c.if-not-has_method.true ∙ c.has_method.ensures.1 own in absurd cc)

pub returns-in_err-code_off-clause-none : goal.returns-in_err-code_off-clause-none
returns-in_err-code_off-clause-none c =
    rw c.from_residual-in_err-code_off.ensures (no_code c.args.reader.now.pools.now c.args.reader.now.class c.args.reader.now.bytes.now c.args.at c.args.last c.in_ok-index.index c.in_ok-index.flags c.in_ok-index.head_size c.in_ok-index.ensures.some c.in_err-code_off.ensures.none)
