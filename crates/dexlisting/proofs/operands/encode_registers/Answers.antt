use Rattle.dexio.proofs.Encoded.{given_all}
use Rattle.dexout.proofs.Given.{next_part, last_part}
use Rattle.std.proofs.Common.{◌≡◌, ◌∷◌, ◌++◌, ap, sym, ◌∙◌, rules}
use Rattle.std.specs.Prelude.{codes}
use Rattle.dexlisting.specs.FullListing.{register_text, registers_text}
use Rattle.dexlisting.proofs.OperandTexts.{registers_first}
use Rattle.dexlisting.proofs.operands.encode_registers.Goals as goal

pub returns : goal.returns
returns g c =
    let G = g.O.Output.gives in
    let B = g.met.O.Output.both in
    let whole : c.args.registers.now ≡ c.in-Some.first.now ∷ c.in-Some.others.now = search rules in
    last_part G B (registers_first c.in-Some.first.now c.in-Some.others.now ∙ ap registers_text (sym whole)) (next_part G B (ap register_text c.from.ensures) c.encode_register.ensures
    (given_all G B (λ n. codes ", " ++ register_text n) c.in-Some.others.now c.loop-register.register-index c.encode_register.new.out c.loop-register.out c.loop-register-test.false c.loop-register.invariant))
