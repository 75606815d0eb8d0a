use Rattle.dexval.proofs.Common.{◌≡◌, ◌∙◌, ◌<◌, length, map, arith, ap, rules, sym, value_of, element_of, values_of_list, renumbered, renumbered_values, renumbered_element, NumberedValues}
use Rattle.dexval.specs.Numbered as numbered
use Rattle.dexval.specs.declared.value.Value.TheVariants as variants
use Rattle.dexval.proofs.Compared.{same_count, same_at, same_all, values_same, same_values, elements_same, same_elements}
use Rattle.dexval.proofs.Heads.{held_values_same}
use Rattle.dexval.proofs.Members.{array_is}
use Rattle.dexval.proofs.same.+comparing.Goals as goal

pub are_same-returns-then-values-others : goal.are_same-returns-then-values-others
are_same-returns-then-values-others g t c =
    let r = g.M.NumberMap.maps c.args.mine.now in
    let q = g.N.NumberMap.maps c.args.theirs.now in
    let xs = c.args.values.now in
    let ys = c.args.others.now in
    ((λ t. absurd cc), (λ e. absurd (omega (arith, same_count value_of (renumbered r) (renumbered q) xs ys (values_same r q (map value_of xs) (map value_of ys) e), c.if-values-others.true))))

pub are_same-returns-then-not-is_same : goal.are_same-returns-then-not-is_same
are_same-returns-then-not-is_same g t c =
    let r = g.M.NumberMap.maps c.args.mine.now in
    let q = g.N.NumberMap.maps c.args.theirs.now in
    let xs = c.args.values.now in
    let ys = c.args.others.now in
    let i = c.loop-i.i in
    let others : i < length ys = omega (arith, c.loop-i.invariant.count) in (
      (λ t. absurd cc),
      (λ e. let same = c.is_same.ensures.1 (same_at value_of (renumbered r) (renumbered q) xs ys i c.index-values-i.result c.index-others-i.result (omega arith) others c.index-values-i.is c.index-others-i.is (values_same r q (map value_of xs) (map value_of ys) e)) in cc),
    )

pub are_same-returns : goal.are_same-returns
are_same-returns g t c =
    let r = g.M.NumberMap.maps c.args.mine.now in
    let q = g.N.NumberMap.maps c.args.theirs.now in
    let xs = c.args.values.now in
    let ys = c.args.others.now in (
      (λ t. same_values r q (map value_of xs) (map value_of ys) (same_all value_of (renumbered r) (renumbered q) xs ys c.loop-i.i (omega arith) (omega (arith, c.loop-i.invariant.count)) c.loop-i.invariant.same)),
      (λ e. search rules),
    )

pub are_same_elements-returns-then-elements-others : goal.are_same_elements-returns-then-elements-others
are_same_elements-returns-then-elements-others g t c =
    let r = g.M.NumberMap.maps c.args.mine.now in
    let q = g.N.NumberMap.maps c.args.theirs.now in
    let xs = c.args.elements.now in
    let ys = c.args.others.now in
    ((λ t. absurd cc), (λ e. absurd (omega (arith, same_count element_of (renumbered_element r) (renumbered_element q) xs ys (elements_same r q (map element_of xs) (map element_of ys) e), c.if-elements-others.true))))

pub are_same_elements-returns-then-not-is_same_element : goal.are_same_elements-returns-then-not-is_same_element
are_same_elements-returns-then-not-is_same_element g t c =
    let r = g.M.NumberMap.maps c.args.mine.now in
    let q = g.N.NumberMap.maps c.args.theirs.now in
    let xs = c.args.elements.now in
    let ys = c.args.others.now in
    let i = c.loop-i.i in
    let others : i < length ys = omega (arith, c.loop-i.invariant.count) in (
      (λ t. absurd cc),
      (λ e. let same = c.is_same_element.ensures.1 (same_at element_of (renumbered_element r) (renumbered_element q) xs ys i c.index-elements-i.result c.index-others-i.result (omega arith) others c.index-elements-i.is c.index-others-i.is (elements_same r q (map element_of xs) (map element_of ys) e)) in cc),
    )

pub are_same_elements-returns : goal.are_same_elements-returns
are_same_elements-returns g t c =
    let r = g.M.NumberMap.maps c.args.mine.now in
    let q = g.N.NumberMap.maps c.args.theirs.now in
    let xs = c.args.elements.now in
    let ys = c.args.others.now in (
      (λ t. same_elements r q (map element_of xs) (map element_of ys) (same_all element_of (renumbered_element r) (renumbered_element q) xs ys c.loop-i.i (omega arith) (omega (arith, c.loop-i.invariant.count)) c.loop-i.invariant.same)),
      (λ e. search rules),
    )
