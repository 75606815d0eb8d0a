use Rattle.dexval.proofs.Common.{◌+◌, ◌<◌, [], ap, arith, rules, value_of, elements_of, numbered_weight, numbered_values_weight, numbered_elements_weight}
use Rattle.std.specs.Hash as fed
use Rattle.dexval.proofs.Hashed.{value_fed, element_fed, values_are_fed, elements_are_fed, fed_more, fed_all, value_whole}
use Rattle.dexval.proofs.Heads.{held_values_lighter, held_elements_lighter}
use Rattle.dexval.proofs.Members.{value_lighter, element_lighter}
use Rattle.dexval.proofs.equality.+hashing.Goals as goal

pub hash_value-hash_value-requires : goal.hash_value-hash_value-requires
hash_value-hash_value-requires g t c =
    let none = c.requires in
    let member = value_lighter c.held_values-held-items.result.now c.loop-held.held-index c.held-item.result c.loop-held-test.true c.held-item.is in
    let lighter : numbered_weight (value_of c.held-item.result) < numbered_weight (value_of c.args.value.now) = omega (arith, member, held_values_lighter (value_of c.args.value.now), ap numbered_values_weight c.held_values-held-items.ensures) in search rules

pub hash_value-loop-held-preserved : goal.hash_value-loop-held-preserved
hash_value-loop-held-preserved g t c =
    fed_more g.H.Hasher.write value_fed [] c.held_values-held-items.result.now c.loop-held.held-index c.held-item.result c.hash.new.state c.loop-held.state c.hash_value.new.state c.loop-held-test.true c.held-item.is c.loop-held.invariant c.hash_value.ensures

pub hash_value-hash_elements-requires : goal.hash_value-hash_elements-requires
hash_value-hash_elements-requires g t c =
    let none = c.requires in
    let lighter : numbered_elements_weight (elements_of c.held_elements.result.now) + 2 < numbered_weight (value_of c.args.value.now) = omega (arith, held_elements_lighter (value_of c.args.value.now), ap numbered_elements_weight c.held_elements.ensures) in search rules

pub hash_value-returns : goal.hash_value-returns
hash_value-returns g t c =
    let values = fed.fed_along g.H.Hasher.write c.hash.new.state c.loop-held.state (values_are_fed c.held_values-held-items.result.now) (fed_all g.H.Hasher.write value_fed [] c.held_values-held-items.result.now c.loop-held.held-index c.hash.new.state c.loop-held.state (omega arith) c.loop-held.invariant) in
    value_whole g.H.Hasher.write (value_of c.args.value.now) c.args.nowhere.now c.head.result _ _ c.args.state.now c.hash.new.state c.loop-held.state c.hash_elements.new.state c.requires c.head.ensures c.held_values-held-items.ensures c.held_elements.ensures c.hash.ensures values c.hash_elements.ensures

pub hash_elements-hash_value-requires : goal.hash_elements-hash_value-requires
hash_elements-hash_value-requires g t c =
    let none = c.requires in
    let lighter = element_lighter c.args.elements.now c.loop-element.element-index c.element-item.result c.loop-element-test.true c.element-item.is in search rules

pub hash_elements-loop-element-preserved : goal.hash_elements-loop-element-preserved
hash_elements-loop-element-preserved g t c =
    fed_more g.H.Hasher.write element_fed [] c.args.elements.now c.loop-element.element-index c.element-item.result c.args.state.now c.loop-element.state c.hash_value.new.state c.loop-element-test.true c.element-item.is c.loop-element.invariant
    (fed.fed_then g.H.Hasher.write c.loop-element.state c.hash.new.state c.hash_value.new.state (fed.u32 c.element-item.result.name) (value_fed c.element-item.result.value) c.hash.ensures c.hash_value.ensures)

pub hash_elements-returns : goal.hash_elements-returns
hash_elements-returns g t c =
    fed.fed_along g.H.Hasher.write c.args.state.now c.loop-element.state (elements_are_fed c.args.elements.now) (fed_all g.H.Hasher.write element_fed [] c.args.elements.now c.loop-element.element-index c.args.state.now c.loop-element.state (omega arith) c.loop-element.invariant)
