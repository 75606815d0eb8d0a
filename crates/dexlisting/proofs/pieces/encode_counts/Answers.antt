use Rattle.std.proofs.Common.{ap, sym, ◌∙◌, ◌≡◌, ◌*◌, ℕ, List, arith, length, subst}
use Rattle.std.specs.Prelude.{codes}
use Rattle.dexinsn.specs.Numbered.{unit_count, numbered_bytes, NumberedCode}
use Rattle.dexcode.specs.Meaning.{code_in}
use Rattle.dexcode.specs.Numbered.{NumberedTry, NumberedHandler, handlers_of, all_named, try_meant}
use Rattle.dexout.specs.Printed.{count_text}
use Rattle.dexlisting.specs.Listing.{counts_line}
use Rattle.dexout.proofs.Given.{next_part}
use Rattle.dexlisting.proofs.Shown.{units_counted, tries_counted, bytes_counted}
use Rattle.dexlisting.proofs.pieces.encode_counts.Goals as goal

pub returns : goal.returns
unfolding counts_line
returns g c = λ m.
    let G = g.O.Output.gives in
    let B = g.met.O.Output.both in
    let body = c.pieces-pieces.ensures in
    let doubled : length (numbered_bytes c.args.code.now.body.pieces) ≡ 2 * unit_count c.args.code.now.body.pieces = bytes_counted c.args.code.now.body.pieces in
    let same = ap (λ (b : NumberedCode). length (numbered_bytes b.pieces)) body in
    let units : c.units.result ≡ unit_count c.args.code.now.body.pieces = omega (arith, c.units.ensures, same, doubled) in
    let tries = tries_counted (try_meant m) c.tries-2.result.now c.args.code.now.tries (subst (λ (ts : List NumberedTry). (hs : List NumberedHandler) → hs ≡ handlers_of ts → all_named hs c.tries-2.result.now ≡ ts) c.tries.ensures c.tries-2.ensures.tries) in
    next_part G B (ap (count_text (codes "    code registers=")) (c.from.ensures ∙ c.registers.ensures ∙ ap (λ (b : NumberedCode). b.registers) body)) c.encode_count.ensures
    (next_part G B (ap (count_text (codes " ins=")) (c.from-2.ensures ∙ c.ins.ensures ∙ ap (λ (b : NumberedCode). b.ins) body)) c.encode_count-2.ensures
    (next_part G B (ap (count_text (codes " outs=")) (c.from-3.ensures ∙ c.outs.ensures ∙ ap (λ (b : NumberedCode). b.outs) body)) c.encode_count-3.ensures
    (next_part G B (ap (count_text (codes " units=")) (units ∙ units_counted m c.args.code.now.body.pieces)) c.encode_count-4.ensures
    (next_part G B (ap (count_text (codes " tries=")) tries) c.encode_count-5.ensures c.byte.ensures))))
