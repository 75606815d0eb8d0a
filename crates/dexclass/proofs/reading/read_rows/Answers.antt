use Rattle.dexclass.proofs.Common.{map, sym, subst, arith}
use Rattle.dexclass.specs.{IsFaultOf, definition_of}
use Rattle.dexclass.proofs.RowFaults.{together_fault}
use Rattle.dexclass.specs.internal.Trimming.{AreTrimmed}
use Rattle.dexclass.proofs.Mergeable.{total_is, read_as, mergeable}
use Rattle.dexclass.proofs.reading.read_rows.Goals as goal
use Rattle.dexclass.proofs.reading.read_rows.Goals.{In_ok-numbering}

-- the classes as they are trimmed
trimmed : (c : In_ok-numbering) → AreTrimmed (map (definition_of c.args.pools) c.in_ok-bodies.bodies.classes.items) c.in_ok-numbering.numbering c.into_trimmed.new.classes.items
trimmed c = subst (λ m. AreTrimmed (map (definition_of m) c.in_ok-bodies.bodies.classes.items) c.in_ok-numbering.numbering c.into_trimmed.new.classes.items) c.into_numbering.ensures c.in_ok-numbering.ensures

pub returns-in_default-clause-refused : goal.returns-in_default-clause-refused
returns-in_default-clause-refused c =
    let read = c.in_ok-bodies.ensures.accepted in
    subst (IsFaultOf c.args.frame.now) (sym c.too_heavy.ensures)
    (together_fault c.args.frame.now c.requires.before (map (definition_of c.args.pools) c.in_ok-bodies.bodies.classes.items) read.readable read.rows c.in_ok-numbering.numbering c.in_ok-bodies.bodies.weight c.saturating_sub.result
    (trimmed (goal.at.returns-in_default-clause-refused c).In_ok-numbering).mentions_are read.weight_is (omega (arith, c.saturating_sub.ensures, c.size.ensures)) c.in_default.ensures)

pub weighing-requires-clause-mergeable : goal.weighing-requires-clause-mergeable
weighing-requires-clause-mergeable c =
    mergeable c.args.frame.now c.requires.before (map (definition_of c.args.pools) c.in_ok-bodies.bodies.classes.items) c.in_ok-bodies.ensures.accepted.readable c.in_ok-bodies.ensures.accepted.rows c.in_ok-numbering.numbering c.into_trimmed.new.classes.items
    (trimmed (goal.at.weighing-requires-clause-mergeable c).In_ok-numbering) c.in_ok-bodies.bodies.weight c.in-Some.total c.in_ok-bodies.ensures.accepted.weight_is c.in-Some.ensures
    (λ K. c.denoted_is_good.ensures.good c.args.frame.now K c.requires.bytes) (λ K. c.denoted_is_good.ensures.formed c.args.frame.now K c.requires.bytes)

pub weighing-requires-clause-total : goal.weighing-requires-clause-total
weighing-requires-clause-total c =
    total_is (map (definition_of c.args.pools) c.in_ok-bodies.bodies.classes.items) c.in_ok-numbering.numbering c.into_trimmed.new.classes.items (trimmed (goal.at.weighing-requires-clause-total c).In_ok-numbering) c.in_ok-bodies.bodies.weight c.in-Some.total
    c.in_ok-bodies.ensures.accepted.weight_is c.in-Some.ensures

pub returns-clause-accepted : goal.returns-clause-accepted
returns-clause-accepted c =
    read_as c.args.frame.now c.requires.before (map (definition_of c.args.pools) c.in_ok-bodies.bodies.classes.items) c.in_ok-bodies.ensures.accepted.readable c.in_ok-bodies.ensures.accepted.rows c.in_ok-numbering.numbering c.into_trimmed.new.classes.items
    (trimmed (goal.at.returns-clause-accepted c).In_ok-numbering) c.in_ok-bodies.bodies.weight c.in-Some.total c.in_ok-bodies.ensures.accepted.weight_is c.in-Some.ensures c.in_ok-weighing.field-0 c.in_ok-weighing.ensures
