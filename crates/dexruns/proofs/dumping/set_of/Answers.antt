use Rattle.std.proofs.Common.{map, ap, ◌∙◌, arith, string_bytes}
use Rattle.std.proofs.lemmas.List.{take_all}
use Rattle.dexruns.specs.Listings.{is_among}
use Rattle.dexruns.proofs.Among.{among_more}
use Rattle.dexruns.proofs.dumping.set_of.Goals as goal

pub loop-text-preserved : goal.loop-text-preserved
loop-text-preserved c = λ text.
    among_more (λ key. key.now) string_bytes text c.args.texts.now c.loop-text.text-index c.text-item.result c.as_str.result c.loop-text.set.keys c.insert.new.self.keys (omega arith) c.text-item.is c.as_str.ensures.value c.in_ok-insert.ensures.keys (c.loop-text.invariant text)

pub returns : goal.returns
returns c = λ text. c.loop-text.invariant text ∙ ap (λ l. is_among (map string_bytes l) text) (take_all c.loop-text.text-index c.args.texts.now (omega arith))
