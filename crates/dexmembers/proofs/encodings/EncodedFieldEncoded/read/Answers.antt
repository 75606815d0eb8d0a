use Rattle.dexmembers.proofs.Common.{◌≡◌, ◌∙◌, sym, true, false}
use Rattle.dexmembers.proofs.OneMember.{other_field}
use Rattle.dexmembers.proofs.encodings.EncodedFieldEncoded.read.Goals as goal

pub returns-in_err-index-clause-none : goal.returns-in_err-index-clause-none
returns-in_err-index-clause-none c = rw c.from_residual.ensures (λ x n h. let e = c.in_err-index.ensures.only x.index x.flags n h.own.short h.head_is in absurd cc)

pub returns-then-not-has_field-clause-none : goal.returns-then-not-has_field-clause-none
returns-then-not-has_field-clause-none c =
    other_field c.args.reader.now.pools.now c.args.reader.now.class c.args.reader.now.bytes.now c.args.at c.args.last c.in_ok-index.index c.in_ok-index.flags c.in_ok-index.size c.in_ok-index.ensures.some
    (λ own. let e : false ≡ true = sym c.if-not-has_field.true ∙ c.has_field.ensures.1 own in absurd cc)
