use Rattle.dexval.proofs.Common.{ℕ, List, Element, ◌++◌, ap, length, arith, elements_of, encoded_type, encoded_elements, elements_input}
use Rattle.std.specs.Hash as fed
use Rattle.dexval.proofs.Hashed.{annotation_fed, annotations_are_fed, fed_more, fed_all}
use Rattle.dexval.proofs.equality.hash_annotations.Goals as goal

pub loop-annotation-preserved : goal.loop-annotation-preserved
loop-annotation-preserved g c =
    let x = c.annotation-item.result in
    let rest = fed.u32 (encoded_type x.annotation) ++ elements_input (encoded_elements x.annotation) in
    let elements = fed.fed_along g.H.Hasher.write c.hash-in-loop-annotation.new.state c.hash_elements.new.state (ap (λ (l : List Element). elements_input (elements_of l)) c.deref.ensures.value) c.hash_elements.ensures in
    let one = fed.fed_along g.H.Hasher.write c.loop-annotation.state c.hash_elements.new.state (ap (λ (n : ℕ). fed.u8 n ++ rest) c.number.ensures) (fed.fed_then g.H.Hasher.write c.loop-annotation.state c.write_u8.new.self c.hash_elements.new.state (fed.u8 c.number.result) rest c.write_u8.ensures (fed.fed_then g.H.Hasher.write c.write_u8.new.self c.hash-in-loop-annotation.new.state c.hash_elements.new.state (fed.u32 (encoded_type x.annotation)) (elements_input (encoded_elements x.annotation)) c.hash-in-loop-annotation.ensures elements)) in
    fed_more g.H.Hasher.write annotation_fed (fed.usize (length c.args.annotations.now)) c.args.annotations.now c.loop-annotation.annotation-index c.annotation-item.result c.args.state.now c.loop-annotation.state c.hash_elements.new.state c.loop-annotation-test.true c.annotation-item.is
    c.loop-annotation.invariant one

pub returns : goal.returns
returns g c =
    let xs = c.args.annotations.now in
    fed.fed_along g.H.Hasher.write c.args.state.now c.loop-annotation.state (annotations_are_fed xs) (fed_all g.H.Hasher.write annotation_fed (fed.usize (length xs)) xs c.loop-annotation.annotation-index c.args.state.now c.loop-annotation.state (omega arith) c.loop-annotation.invariant)
