use Rattle.dexval.proofs.Common.{ℕ, ◌∷◌, [], subst, encoded_type, encoded_elements, visibility_of, encoded_annotation_bytes}
use Rattle.dexval.proofs.encoding.AnnotationEncode.encode.Goals as goal

pub returns : goal.returns
returns g c =
    let visibility = subst (λ (n : ℕ). g.O.Output.gives (n ∷ []) c.args.out.now c.byte.new.self) c.number.ensures c.byte.ensures in
    g.met.O.Output.both (visibility_of c.args.self.now.visibility ∷ []) (encoded_annotation_bytes (encoded_type c.args.self.now.annotation) (encoded_elements c.args.self.now.annotation)) c.args.out.now c.byte.new.self c.encode_annotation.new.out visibility c.encode_annotation.ensures
