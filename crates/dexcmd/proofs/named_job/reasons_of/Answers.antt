use Rattle.std.proofs.Common.{map, string_bytes, sym, subst}
use Rattle.std.proofs.lemmas.List.{map_push}
use Rattle.dexcmd.specs.Explaining.{AreTextsOf, IsReasonAdded}
use Rattle.dexcmd.proofs.ReasonTexts.{texts_more}
use Rattle.dexcmd.proofs.named_job.reasons_of.Goals as goal

pub loop-input-preserved : goal.loop-input-preserved
loop-input-preserved g c =
    subst (λ l. AreTextsOf l (map string_bytes c.add_input.new.self.unread.items)) (sym (map_push g.D.Inputs.error_of c.loop-input.yielded c.in-Some.input))
    (texts_more (map g.D.Inputs.error_of c.loop-input.yielded) (map string_bytes c.loop-input.reasons.unread.items) (map string_bytes c.add_input.new.self.unread.items) (g.D.Inputs.error_of c.in-Some.input) c.loop-input.invariant
    (subst (λ error. IsReasonAdded error (map string_bytes c.loop-input.reasons.unread.items) (map string_bytes c.add_input.new.self.unread.items)) c.error.ensures c.in_ok-add_input.ensures.added))
