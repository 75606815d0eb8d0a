use Rattle.dexcanon.proofs.Common.{◌++◌, drop, refl, ap, subst, ◌∙◌, arith, head_bytes, after_header_of}
use Rattle.dexout.proofs.Finished.{sure}
use Rattle.dexcanon.proofs.files.write_signed.Goals as goal

pub returns-clause-given : goal.returns-clause-given
returns-clause-given g c =
    subst (λ z. g.T.Target.gives (z ++ after_header_of c.args.contents.now) c.args.target c.write_body.new.out.target) (c.put_head.ensures.items ∙ ap (λ h. drop 32 (head_bytes h)) c.head-head.ensures)
    (sure c.requires.sure c.write_body.ensures.adds refl (omega (arith, c.requires.room, c.put_head.ensures.capacity)) (g.met.T.Target.nothing c.args.target) c.write_body.ensures.empty)

pub returns-clause-room : goal.returns-clause-room
returns-clause-room g c = c.write_body.ensures.adds.room (omega (arith, c.requires.room, c.put_head.ensures.capacity))
