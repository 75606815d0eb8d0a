use Rattle.std.proofs.Common.{[], append-nil, subst}
use Rattle.dexout.specs.Output.{Adds, adds_both}
use Rattle.dexlisting.specs.Detailed.{listing_in_of}
use Rattle.dexlisting.proofs.Chosen.{listing_of_is}
use Rattle.dexlisting.proofs.listing.write_classes.Goals as goal

pub write_lines-requires : goal.write_lines-requires
write_lines-requires g c = rw c.numbering.ensures c.classes.ensures.known

pub returns-clause-adds : goal.returns-clause-adds
returns-clause-adds g c =
    let text = listing_in_of c.args.detail c.args.flags.now c.args.program.now in
    let all = subst (λ z. Adds g.T.Target.gives g.T.Target.gives_prefix g.T.Target.has_failed z c.args.out.now c.write_lines.new.out) (listing_of_is c.args.detail c.args.program.now c.numbering.result.now c.classes.result.now c.args.flags.now c.numbering.ensures c.classes.ensures) c.write_lines.ensures in
    subst (λ x. Adds g.T.Target.gives g.T.Target.gives_prefix g.T.Target.has_failed x c.args.out.now c.flush.new.self) (append-nil text)
    (adds_both g.T.Target.gives g.T.Target.gives_prefix g.T.Target.has_failed text [] c.args.out.now c.write_lines.new.out c.flush.new.self all c.flush.ensures.adds)
