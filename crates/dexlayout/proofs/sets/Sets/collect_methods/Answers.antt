use Rattle.dexlayout.proofs.Common.{◌≡◌, ℕ, ◌+◌, ◌<◌, List, length, take, drop, sym, ap, ◌∙◌, arith, length-drop, drop-drop, flat_map, NumberedSet, methods_of, sets_of_method, parts_of_methods, collect_method, collect_methods}
use Rattle.dexlayout.proofs.SetsCollected.{next_parts, next_count}
use Rattle.dexlayout.proofs.sets.Sets.collect_methods.Goals as goal

pub collect_method-requires : goal.collect_method-requires
collect_method-requires c =
    let many : c.len.result ≡ length c.method_at.result.parameter_annotations = c.len.ensures ∙ ap (λ (l : List NumberedSet). length l) c.parameter_annotations-parameters.ensures in
    omega (arith, many, next_count (methods_of c.args.members.now) c.loop-i.i c.method_at.result (omega (arith, c.loop-i-test.true, c.method_count-i-end.ensures)) (sym c.method_at.ensures), c.loop-i.invariant.enough)

pub loop-i-preserved : goal.loop-i-preserved
loop-i-preserved c =
    let xs = methods_of c.args.members.now in
    let i = c.loop-i.i in
    let x = c.method_at.result in
    let offs = c.loop-i.offs in
    let n = length (sets_of_method x) in
    let more = drop (i + 1) xs in
    let k = length (flat_map sets_of_method more) in
    let h = c.loop-i.invariant in
    let many : c.len.result ≡ length x.parameter_annotations = c.len.ensures ∙ ap (λ (l : List NumberedSet). length l) c.parameter_annotations-parameters.ensures in
    let lt : i < length xs = omega (arith, c.loop-i-test.true, c.method_count-i-end.ensures) in
    let count : 1 + c.len.result ≡ n = omega (arith, many) in
    let self : c.collect_method.new.self ≡ collect_method c.loop-i.self (take n offs) = c.in_ok-collect_method.ensures.collected ∙ ap (λ j. collect_method c.loop-i.self (take j offs)) count in
    let back : c.collect_method.new.offs ≡ drop n offs = c.in_ok-collect_method.ensures.left ∙ ap (λ j. drop j offs) count in
    let counts : n + k ≡ length (flat_map sets_of_method (drop i xs)) = sym (next_count xs i x lt (sym c.method_at.ensures)) in
    record {
      collected = (λ j. collect_methods (self j) (parts_of_methods more (back j))) ∙ sym (next_parts xs i x lt (sym c.method_at.ensures) c.loop-i.self offs) ∙ h.collected;
      left = ap (drop k) back ∙ drop-drop k n offs ∙ ap (λ j. drop j offs) counts ∙ h.left;
      enough = omega (arith, ap (λ (l : List ℕ). length l) back, length-drop n offs, counts, h.enough);
    }
