use Rattle.dexinsn.proofs.Common.{◌∷◌, ◌++◌, [], Some, sym, ap, subst, IsGreatest}
use Rattle.dexinsn.proofs.Fits.{greater_most}
use Rattle.dexinsn.proofs.symbol_indices.greater.Goals as goal

pub returns-in-Some : goal.returns-in-Some
returns-in-Some c = λ ns is.
    subst (λ m. IsGreatest (ns ++ c.args.number ∷ []) m) (ap Some (sym c.max.ensures))
    (greater_most ns c.in-Some.most c.args.number (subst (IsGreatest ns) c.in-Some.is is))
