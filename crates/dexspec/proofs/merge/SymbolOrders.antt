-- The orders of texts and symbols are total, and only equal symbols are equal by order.
use Rattle.dexspec.proofs.Common.{◌≡◌, refl, Ordering, Equal, ordering_then, IsTotalOrder, slice_cmp, then_total, on_total, nat_list_cmp_total, lists_total}
use Rattle.std.specs.FinMap.{IsAntisymmetric, slice_cmp-IsAntisymmetric, nat_cmp-IsAntisymmetric}
use Rattle.dexspec.specs.{text_cmp, Proto, Field, Method, proto_cmp, field_cmp, method_cmp}

pub text_total : IsTotalOrder text_cmp
text_total = nat_list_cmp_total

pub text_exact : IsAntisymmetric text_cmp
text_exact = slice_cmp-IsAntisymmetric nat_cmp-IsAntisymmetric

-- if one of two orders decides, they are equal together only if both are equal
pub both_tie : (a b : Ordering) → ordering_then a b ≡ Equal → (a ≡ Equal) × (b ≡ Equal)
both_tie Equal b e = (refl, e)
both_tie _ b e = absurd cc

pub proto_total : IsTotalOrder proto_cmp
proto_total = then_total (on_total (λ (p : Proto). p.return_type) text_total) (on_total (λ (p : Proto). p.parameters) (lists_total text_total))

pub proto_exact : IsAntisymmetric proto_cmp
proto_exact p q e =
    let k = both_tie (text_cmp p.return_type q.return_type) (slice_cmp text_cmp p.parameters q.parameters) e in
    λ i. record {
      return_type = text_exact p.return_type q.return_type k.0 i;
      parameters = slice_cmp-IsAntisymmetric text_exact p.parameters q.parameters k.1 i;
    }

pub field_total : IsTotalOrder field_cmp
field_total = then_total (on_total (λ (f : Field). f.class) text_total) (then_total (on_total (λ (f : Field). f.name) text_total) (on_total (λ (f : Field). f.type) text_total))

pub field_exact : IsAntisymmetric field_cmp
field_exact f g e =
    let k = both_tie (text_cmp f.class g.class) (ordering_then (text_cmp f.name g.name) (text_cmp f.type g.type)) e in
    let l = both_tie (text_cmp f.name g.name) (text_cmp f.type g.type) k.1 in
    λ i. record {
      class = text_exact f.class g.class k.0 i;
      name = text_exact f.name g.name l.0 i;
      type = text_exact f.type g.type l.1 i;
    }

pub method_total : IsTotalOrder method_cmp
method_total = then_total (on_total (λ (m : Method). m.class) text_total) (then_total (on_total (λ (m : Method). m.name) text_total) (on_total (λ (m : Method). m.proto) proto_total))

pub method_exact : IsAntisymmetric method_cmp
method_exact m n e =
    let k = both_tie (text_cmp m.class n.class) (ordering_then (text_cmp m.name n.name) (proto_cmp m.proto n.proto)) e in
    let l = both_tie (text_cmp m.name n.name) (proto_cmp m.proto n.proto) k.1 in
    λ i. record {
      class = text_exact m.class n.class k.0 i;
      name = text_exact m.name n.name l.0 i;
      proto = proto_exact m.proto n.proto l.1 i;
    }
