use Rattle.dexspec.proofs.Common.{◌++◌, ap, Contains-append_left}
use Rattle.dexspec.specs.Files.{definitions}
use Rattle.dexspec.specs.Canonical.{canonical}
use Rattle.dexspec.proofs.merge.Absorption.{IsCause-within}
use Rattle.dexlaws.proofs.SameUnions.{same_result, one_collection, step-same}
use Rattle.dexlaws.proofs.merge.steps.Goals as goal

pub returns : goal.returns
returns c = record { bytes = λ first rest K L M h k l. ap canonical (one_collection (definitions K ++ rest) (first ++ rest) L M (step-same first rest K h) k l); result_agrees = λ caps first rest K h. same_result caps (definitions K ++ rest) (first ++ rest) (step-same first rest K h); causes = λ caps first rest cause x. IsCause-within first (first ++ rest) (λ d. Contains-append_left first rest d) caps cause x }
