use Rattle.dexcode.proofs.Common.{ap, subst, ◌∙◌, FoldsTo, flat_map, handlers_of, handler_uses}
use Rattle.dexcode.proofs.tries_numbers.TriesSymbols.visit.Goals as goal

pub returns : goal.returns
returns g c =
    subst (λ hs. FoldsTo g.V.Visitor.step c.args.visitor.now (flat_map handler_uses hs) c.visit_all.new.visitor)
    (c.parts.ensures.stored.used ∙ ap handlers_of c.parts.ensures.named) c.visit_all.ensures
