use Rattle.std.proofs.Common.{◌≡◌, ◌-◌, ◌++◌, get_or, take, string_bytes, arith, subst, ap, ◌∙◌}
use Rattle.std.proofs.lemmas.Str.{IsCharBoundary-after_ascii}
use Rattle.dexstr.specs.Escapes.{escaped}
use Rattle.dexruns.specs.Names.{IsFirstControl}
use Rattle.dexruns.proofs.NamesShown.{control_is_ascii, printed_more}
use Rattle.dexruns.proofs.names.push_escaped.Goals as goal

pub range_from-rest-requires : goal.range_from-rest-requires
range_from-rest-requires c _ =
    let first : IsFirstControl c.loop-place.rest.now c.in-Some.place = subst (λ b. IsFirstControl b c.in-Some.place) c.as_bytes.ensures.value c.in-Some.ensures in
    IsCharBoundary-after_ascii c.loop-place.rest.now c.in-Some.place c.loop-place.invariant.text first.within (control_is_ascii (get_or c.loop-place.rest.now c.in-Some.place 0) first.control)

pub loop-place-preserved : goal.loop-place-preserved
loop-place-preserved c =
    let first : IsFirstControl c.loop-place.rest.now c.in-Some.place = subst (λ b. IsFirstControl b c.in-Some.place) c.as_bytes.ensures.value c.in-Some.ensures in
    let whole : c.in-Some.place - 0 ≡ c.in-Some.place = omega arith in
    record {
      printed = rw c.range_from-rest.ensures.value (printed_more (string_bytes c.loop-place.text) (string_bytes c.push_str.new.self) (string_bytes c.push_signs.new.text) c.loop-place.rest.now _ c.in-Some.place first
          (c.in_ok-push_str.ensures.bytes ∙ ap (λ l. string_bytes c.loop-place.text ++ l) (c.range.ensures.value ∙ ap (λ n. take n c.loop-place.rest.now) whole))
          (c.in_ok-push_signs.ensures ∙ ap (λ l. string_bytes c.push_str.new.self ++ l) (c.escaped.ensures.is ∙ ap escaped (c.from.ensures ∙ ap (λ b. get_or b c.in-Some.place 0) c.as_bytes-in-Some.ensures.value)))
          c.loop-place.invariant.printed);
      text = c.range_from-rest.utf8;
    }
