use Rattle.dexinsn.proofs.Common.{sym, ◌∙◌}
use Rattle.std.proofs.lemmas.Bool.Decides.{Decides-eqb}
use Rattle.std.proofs.lemmas.Slice.Eq.{slice_eq-Decides}
use Rattle.dexinsn.proofs.SameSteps.{units_agree, bytes_agree}
use Rattle.dexinsn.proofs.same.agree.Goals as goal

pub returns : goal.returns
returns c =
    let d = slice_eq-Decides Decides-eqb c.unit_bytes.result.now c.unit_bytes-2.result.now c.eq.result c.eq.ensures in (
      λ yes. units_agree c.args.bytes.now c.args.others.now c.args.from c.args.to c.requires.order c.requires.within c.requires.others (sym c.unit_bytes.ensures ∙ d.0 yes ∙ c.unit_bytes-2.ensures),
      λ h. d.1 (c.unit_bytes.ensures
          ∙ bytes_agree c.args.bytes.now c.args.others.now c.args.from c.args.to c.requires.order c.requires.within c.requires.others (λ i. (c.type_inv.bytes i).fits) (λ i. (c.type_inv.others i).fits) h
          ∙ sym c.unit_bytes-2.ensures),
    )
