use Rattle.std.proofs.Common.{◌≡◌, ◌++◌, map, ap, get_or, ◌∙◌, arith, rules, string_bytes}
use Rattle.std.proofs.lemmas.List.{take_all}
use Rattle.std.proofs.lemmas.Simd.{map-map}
use Rattle.dexspec.specs.Classes.{Definition}
use Rattle.dexspec.specs.Files.{definitions}
use Rattle.dexspec.specs.Depth.{in_class_order}
use Rattle.dexout.specs.Printed.{shown}
use Rattle.dexruns.proofs.Among.{text_more}
use Rattle.dexruns.proofs.dumping.printed_names.Goals as goal

pub loop-i-preserved : goal.loop-i-preserved
loop-i-preserved c =
    let name : c.index.result.now ≡ get_or c.in_ok-names.names.items c.loop-i.i c.index.result.now = search rules in
    text_more shown string_bytes c.in_ok-names.names.items c.loop-i.i c.index.result.now c.loop-i.printed.items c.push.new.self.items c.push_text.new.text (omega (arith, c.loop-i-test.true)) name
    c.loop-i.invariant c.in_ok-push.ensures.items (c.in_ok-push_text.ensures ∙ ap (λ l. l ++ shown c.index.result.now) c.new-text.ensures.bytes)

pub returns : goal.returns
returns c =
    c.loop-i.invariant ∙ ap (map shown) (take_all c.loop-i.i c.in_ok-names.names.items (omega arith) ∙ c.in_ok-names.ensures)
    ∙ map-map shown (λ (d : Definition). d.0) (in_class_order (definitions c.args.program.now))
