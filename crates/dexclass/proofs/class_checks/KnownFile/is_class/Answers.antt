use Rattle.dexclass.proofs.Common.{subst, sym, Mentions, IsDescriptor}
use Rattle.dexpool.specs.Numberings.{IsAt}
use Rattle.dexclass.proofs.Indices.{tested}
use Rattle.dexclass.proofs.class_checks.KnownFile.is_class.Goals as goal

pub is_class-requires : goal.is_class-requires
is_class-requires c =
    let at = subst (λ (m : Mentions). IsAt m.types c.args.index c.typ.result.now) (sym c.numbering.ensures) c.typ.ensures in
    subst IsDescriptor (at.is c.typ.result.now) (c.is_numbering.ensures.types_formed c.args.index c.typ.result.now at.within)

pub returns-then-index-len : goal.returns-then-index-len
returns-then-index-len c =
    let is = tested c.args.self.now.frame.now c.args.self.now.pools.now c.args.index c.typ.result.now c.requires.pools c.typ.ensures in
    (λ e. is.0 (c.is_class.ensures.0 e), λ h. c.is_class.ensures.1 (is.1 h))
