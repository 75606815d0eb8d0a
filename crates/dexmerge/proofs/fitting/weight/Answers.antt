use Rattle.dexmerge.proofs.Common.{◌≡◌, ◌+◌, ◌∙◌, ℕ, min, take, sym, ap, arith, body_weight, NumberedClass, Definition, definition_of, ◌<◌, List, length, sum_by, take_more, get_or-map, Mentions, no_class}
use Rattle.dexmerge.specs.internal.Amounts.{weight_over}
use Rattle.dexmerge.specs.{class_of, classes_of, class_at}
use Rattle.dexmerge.proofs.CandidatePlaces.{count_classes}
use Rattle.std.proofs.lemmas.List.Sums.{sum_by_push}
use Rattle.dexmerge.proofs.fitting.weight.Goals as goal

-- one class more
pub weight_more : (m : Mentions) (cs : List NumberedClass) (i : ℕ) → i < length cs → weight_over m (take (i + 1) cs) ≡ weight_over m (take i cs) + body_weight (definition_of m (class_at cs i)).1
weight_more m cs i lt =
    let f : NumberedClass → ℕ = λ c. body_weight (definition_of m c).1 in
    omega (arith, ap (sum_by f) (take_more cs i no_class lt) ∙ sum_by_push f (take i cs) (class_at cs i))

pub loop-i-preserved : goal.loop-i-preserved
loop-i-preserved c =
    let m = c.args.numbering.now in
    let cs = c.args.classes.now in
    let most : ℕ = 18446744073709551615 in
    let part = c.requires c.loop-i.i c.index-classes-i.result c.loop-i-test.true in
    let own : c.weight-in-loop-i.result ≡ min most (body_weight (definition_of m (class_at (classes_of cs) c.loop-i.i)).1) =
    c.weight-in-loop-i.ensures part.part part.rising part.is.known ∙ ap (λ (d : Definition). min most (body_weight d.1)) (sym part.same)
    ∙ ap (λ (x : NumberedClass). min most (body_weight (definition_of m x).1)) (sym (get_or-map class_of cs c.loop-i.i c.index-classes-i.result no_class c.loop-i-test.true)) in
    omega (arith, c.saturating_add-weight-in-loop-i.ensures, c.loop-i.invariant, own, weight_more m (classes_of cs) c.loop-i.i (omega (arith, c.loop-i-test.true, count_classes cs)))
