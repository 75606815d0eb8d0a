use Rattle.dexmembers.proofs.checking.Checks.only_statics.Goals as goal

pub returns : goal.returns
returns c = λ b m are. record { sets_checked = c.none.ensures b m; codes_checked = c.none-2.ensures b; statics_checked = are.statics_checked }
