use Rattle.dexpool.proofs.Common.{◌<◌, get_or, length, sym, ◌∙◌, subst, DenotesProto}
use Rattle.dexpool.proofs.RowParts.{row_encoded}
use Rattle.dexpool.proofs.numbering.Numbering.proto.Goals as goal

pub returns : goal.returns
returns c = λ d.
    subst (λ m. DenotesProto m c.of.result (get_or m.protos c.args.i d)) c.self.view_is (row_encoded c.self.inside.tables c.self.invariant c.args.i c.index-entry.result.now c.of.result d
    (subst (λ m. c.args.i < length m.protos) (sym c.self.view_is) c.requires) c.index-entry.ensures
    (c.of.ensures ∙ (λ i. record {
      shorty = c.index-entry.result.now.shorty;
      return_type = c.index-entry.result.now.return_type;
      parameters = c.part-parameters.ensures i;
    })))
