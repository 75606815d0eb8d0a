use Rattle.dexspec.specs.Header.{StringIds, TypeIds, ProtoIds, FieldIds, MethodIds, ClassDefs}
use Rattle.dexspec.specs.Files.{Collection, definitions}
use Rattle.dexspec.specs.Mentions.{mentions}
use Rattle.dexspec.specs.Canonical.{ordered}
use Rattle.dexspec.proofs.layout.HeaderLaws.{AreFew}
use Rattle.dexspec.proofs.layout.Frames.{canonical_frame, fitting_frame}
use Rattle.dexlaws.specs.{HasFewSymbols}
use Rattle.dexlaws.proofs.frame.frame_law.Goals as goal

-- no table has too many rows
few_rows : (K : Collection) → HasFewSymbols (mentions (definitions K)) → AreFew (ordered (definitions K))
few_rows K h StringIds = tt
few_rows K h TypeIds = h.types
few_rows K h ProtoIds = h.protos
few_rows K h FieldIds = h.fields
few_rows K h MethodIds = h.methods
few_rows K h ClassDefs = tt

pub returns : goal.returns
returns c = record { frame = λ K few most. canonical_frame K (few_rows K few) most; fits = fitting_frame }
