use Rattle.dexinsn.proofs.Common.{◌≡◌, ◌∙◌, sym}
use Rattle.std.specs.Cmp.Lexicographic.{bytes_decides, pointwise_decides}
use Rattle.dexinsn.specs.Units.{units_in}
use Rattle.dexinsn.specs.Stored.{parts_in, pieces_with}
use Rattle.dexinsn.proofs.pieces.Pieces.is_same.Goals as goal

pub returns-then-eq : goal.returns-then-eq
returns-then-eq c = λ t.
    let x = c.self.inside in
    let y = c.other.inside in
    let bytes : x.bytes.now ≡ y.bytes.now = (bytes_decides x.bytes.now y.bytes.now).0 (sym c.if-eq.ensures) in
    let indices : x.indices.items ≡ y.indices.items = (pointwise_decides c.index_equality_law.ensures x.indices.items y.indices.items).0 (sym c.eq-then-eq.ensures ∙ t) in
    sym c.self.view_is
    ∙ (λ i. record { registers = c.if-self-other.false i; ins = c.if-self-other-2.false i; outs = c.if-self-other-3.false i; pieces = pieces_with (parts_in (units_in (bytes i))) (indices i) })
    ∙ c.other.view_is
