use Rattle.dexcode.proofs.Common.{◌≡◌, map, sym, ap, ◌∙◌, remapped_try, renumbered_try}
use Rattle.dexcode.proofs.TypesRemapped.{all_remapped}
use Rattle.dexcode.proofs.tries.Tries.same_mapped.Goals as goal

pub returns : goal.returns
returns c =
    let q = c.args.theirs.now in
    let mine : map (renumbered_try c.args.mine.now) c.args.self.now ≡ map (remapped_try c.args.mine.now c.parts.result.1.now) c.parts.result.0.now =
    ap (map (renumbered_try c.args.mine.now)) (sym c.parts.ensures.named) ∙ all_remapped c.args.mine.now c.parts.result.1.now c.parts.result.0.now in
    let theirs : map (renumbered_try q) c.args.other.now ≡ map (remapped_try q c.parts-2.result.1.now) c.parts-2.result.0.now =
    ap (map (renumbered_try q)) (sym c.parts-2.ensures.named) ∙ all_remapped q c.parts-2.result.1.now c.parts-2.result.0.now in ((λ t. mine ∙ c.eq_tries.ensures.0 t ∙ sym theirs), (λ e. c.eq_tries.ensures.1 (sym mine ∙ e ∙ theirs)))
