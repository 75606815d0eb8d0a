use Rattle.dexmembers.proofs.checking.Checks.none.Goals as goal

pub returns : goal.returns
returns c = λ b m. record { sets_checked = c.none.ensures b m; codes_checked = c.none-2.ensures b; statics_checked = c.none-3.ensures b m }
