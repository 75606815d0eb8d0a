use Rattle.std.proofs.Common.{arith, false, ◌≡◌, sym, subst, ap, ◌∙◌, map, string_bytes}
use Rattle.std.specs.Prelude.{All}
use Rattle.std.proofs.lemmas.List.{take_all}
use Rattle.std.proofs.lemmas.List.Elements.{All-push}
use Rattle.std.specs.List.{AllZip}
use Rattle.dexcmd.proofs.Named.{named_more}
use Rattle.dexcmd.proofs.named_job.inputs_of.Goals as goal

pub loop-name-preserved : goal.loop-name-preserved
loop-name-preserved g c = record {
  named = named_more (g.D.Inputs.is_input c.args.devices.now) string_bytes c.args.names.now c.loop-name.name-index c.name-item.result c.loop-name.inputs.items
      c.push.new.self.items c.input.result (omega arith) c.loop-name.invariant.named c.in_ok-push.ensures.items
      (subst (λ n. g.D.Inputs.is_input c.args.devices.now n c.input.result) (c.as_str.ensures.value ∙ ap string_bytes c.name-item.is) c.input.ensures.named);
  count = omega (arith, c.in_ok-push.ensures.len, c.loop-name.invariant.count);
  works = subst (All (λ input. g.D.Input.Source.has_failed input ≡ false)) (sym c.in_ok-push.ensures.items)
      (All-push (λ input. g.D.Input.Source.has_failed input ≡ false) c.loop-name.inputs.items c.input.result c.loop-name.invariant.works c.input.ensures.works);
}

pub returns-clause-named : goal.returns-clause-named
returns-clause-named g c =
    subst (λ l. AllZip (g.D.Inputs.is_input c.args.devices.now) (map string_bytes l) c.loop-name.inputs.items) (take_all c.loop-name.name-index c.args.names.now (omega arith)) c.loop-name.invariant.named
