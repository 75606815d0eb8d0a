use Rattle.dexcanon.proofs.Common.{[], append-nil, subst, after_header_of, Adds, adds_both}
use Rattle.dexcanon.proofs.files.write_body.Goals as goal

pub returns-clause-adds : goal.returns-clause-adds
returns-clause-adds g c =
    let rest = after_header_of c.args.contents.now in
    subst (λ x. Adds g.T.Target.gives g.T.Target.gives_prefix g.T.Target.has_failed x c.args.out.now c.flush.new.self) (append-nil rest)
    (adds_both g.T.Target.gives g.T.Target.gives_prefix g.T.Target.has_failed rest [] c.args.out.now c.encode_body.new.out c.flush.new.self c.encode_body.ensures c.flush.ensures.adds)
