use Rattle.dexval.proofs.Common.{◌≡◌, annotation_of, set_of, visibility_of}
use Rattle.dexval.proofs.Members.{annotation_with}
use Rattle.dexval.proofs.Copies.{clones_are, clone_made}
use Rattle.dexval.proofs.set.AnnotationSet.copy.Goals as goal

pub returns : goal.returns
returns c =
    clone_made _ (λ copy. set_of copy ≡ set_of c.args.self.now) _ (λ copy is. clones_are annotation_of _ (λ x y e. λ k. annotation_with (visibility_of (e.0 k)) (e.1 k)) c.args.self.now.annotations.items copy.annotations.items is.0) c.clone.result c.clone.ensures.cases
