use Rattle.dexinsn.proofs.Common.{◌++◌, ◌∷◌, [], take, get_or, subst, sym, ◌∙◌, flat_map, Index, IsGreatest, short_at}
use Rattle.dexinsn.proofs.Fits.{greatest_with, greatest_without}
use Rattle.dexinsn.proofs.symbol_indices.greatest_short_string.Goals.{then-is_short_string, else-is_short_string}
use Rattle.dexinsn.proofs.symbol_indices.greatest_short_string.Goals as goal

pub loop-index-preserved : goal.loop-index-preserved
loop-index-preserved c =
    let none : Index = record { unit = 0; number = 0 } in
    elim c.if-is_short_string.branch [
      | then-is_short_string w ↦
          greatest_with c.args.units.now c.args.indices.now c.loop-index.index-index none c.loop-index-test.true c.if-is_short_string.greatest (sym c.is_short_string.ensures ∙ w.if-is_short_string.true)
          (subst (IsGreatest (flat_map (short_at c.args.units.now) (take c.loop-index.index-index c.args.indices.now) ++ (get_or c.args.indices.now c.loop-index.index-index none).number ∷ [])) (sym w.greatest-is)
          (w.greater-greatest.ensures (flat_map (short_at c.args.units.now) (take c.loop-index.index-index c.args.indices.now)) c.loop-index.invariant))
      | else-is_short_string w ↦
          greatest_without c.args.units.now c.args.indices.now c.loop-index.index-index none c.loop-index-test.true c.if-is_short_string.greatest (sym c.is_short_string.ensures ∙ w.if-is_short_string.false)
          (subst (IsGreatest (flat_map (short_at c.args.units.now) (take c.loop-index.index-index c.args.indices.now))) (sym w.greatest-is) c.loop-index.invariant)
    ]
