use Rattle.std.proofs.Common.{map, ap, ◌∙◌, arith, string_bytes}
use Rattle.std.proofs.lemmas.List.{take_all}
use Rattle.std.specs.List.{list_any}
use Rattle.std.specs.Ordering.{is_eq}
use Rattle.dexspec.specs.Texts.{text_cmp}
use Rattle.dexruns.specs.Listings.{is_among}
use Rattle.dexruns.proofs.Among.{flag_more}
use Rattle.dexruns.proofs.dumping.are_among.Goals as goal

pub loop-text-preserved : goal.loop-text-preserved
loop-text-preserved c =
    flag_more (is_among (map string_bytes c.args.others.now)) string_bytes c.args.texts.now c.loop-text.text-index c.text-item.result c.contains.result c.loop-text.flags.items c.push.new.self.items (omega arith) c.text-item.is
    (c.contains.ensures ∙ ap (λ text. list_any (λ key. is_eq (text_cmp text key.now)) c.in_ok-set.set.keys) c.as_str.ensures.value ∙ c.in_ok-set.ensures (string_bytes c.text-item.result)) c.in_ok-push.ensures.items c.loop-text.invariant

pub returns : goal.returns
returns c = c.loop-text.invariant ∙ ap (λ l. map (is_among (map string_bytes c.args.others.now)) (map string_bytes l)) (take_all c.loop-text.text-index c.args.texts.now (omega arith))
