use Rattle.dexinsn.proofs.Common.{◌≡◌, ◌+◌, List, ◌∷◌, [], ◌++◌, drop, Some, sym, ◌∙◌, ap, subst, arith, common_steps, Cut as Meant, piece_size, cuts_of, AreCutWith}
use Rattle.dexinsn.specs.declared.code.Cut.{Cut}
use Rattle.dexinsn.proofs.Passed.{cuts_of-push, one_cut_more, cut_breaks}
use Rattle.dexinsn.proofs.code.cut_units.Goals as goal

pub returns-in_default-clause-fault : goal.returns-in_default-clause-fault
returns-in_default-clause-fault c =
    cut_breaks c.args.units.now (cuts_of c.loop-at.cuts.items) c.loop-at.starts.items c.loop-at.noted.items c.loop-at.at c.loop-at.invariant (omega arith) (ap (piece_size c.loop-at.at) (sym c.rest.ensures) ∙ sym c.in_default.ensures.size)

pub loop-at-preserved : goal.loop-at-preserved
loop-at-preserved c =
    let piece : Cut = record { unit = c.loop-at.at; units = c.in-Some.size } in
    let pushed : c.push.new.self.items ≡ c.loop-at.cuts.items ++ piece ∷ [] = grind (arith, common_steps) in
    let size : piece_size c.loop-at.at (drop c.loop-at.at c.args.units.now) ≡ Some c.in-Some.size = ap (piece_size c.loop-at.at) (sym c.rest.ensures) ∙ sym c.in-Some.ensures.size in
    subst (λ (cs : List Meant). AreCutWith c.args.units.now cs c.note.new.starts.items c.note.new.noted.items (c.loop-at.at + c.in-Some.size)) (sym (ap cuts_of pushed ∙ cuts_of-push c.loop-at.cuts.items piece))
    (one_cut_more c.args.units.now (cuts_of c.loop-at.cuts.items) c.loop-at.starts.items c.loop-at.noted.items c.note.new.starts.items c.note.new.noted.items c.loop-at.at c.in-Some.size c.loop-at.invariant (omega arith) size c.note.ensures.starts c.note.ensures.noted)
