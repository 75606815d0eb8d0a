-- A canonical file meets conditions 1 to 15.
use Rattle.dexspec.proofs.Common.{ℕ, List, arith}
use Rattle.dexspec.specs.{StringIds, TypeIds, ProtoIds, FieldIds, MethodIds, Condition, HoldBelow, IsFrame, Collection, definitions, AreWellFormed, Caps, AreCaps, Fits, Ordered, canonical}
use Rattle.dexspec.proofs.layout.SectionPlaces.{Laid}
use Rattle.dexspec.proofs.layout.HeaderLaws.{AreFew}
use Rattle.dexspec.proofs.layout.Frames.{fits_few, fitting_laid, fitting_frame}
use Rattle.dexspec.proofs.layout.PoolsAreAt.{ArePools}
use Rattle.dexspec.proofs.layout.PoolsInOrder.{string_holds, type_holds, proto_holds, field_holds, method_holds}
use Rattle.dexspec.proofs.wellformed.Formed.{mentions-pools}

-- the conditions on the rows of the pools, in addition to those on the frame
pub laid_rows : {K : Ordered} {b : List ℕ} → Laid K b → AreFew K → ArePools K.pools → IsFrame b → HoldBelow 16 b
laid_rows {K} {b} h few p frame = each
  where
    each : HoldBelow 16 b
    each Condition.Size lt = frame Condition.Size (omega arith)
    each Condition.Magic lt = frame Condition.Magic (omega arith)
    each Condition.Version lt = frame Condition.Version (omega arith)
    each Condition.Lengths lt = frame Condition.Lengths (omega arith)
    each Condition.Endian lt = frame Condition.Endian (omega arith)
    each Condition.Link lt = frame Condition.Link (omega arith)
    each Condition.Checksum lt = frame Condition.Checksum (omega arith)
    each Condition.Signature lt = frame Condition.Signature (omega arith)
    each Condition.Layout lt = frame Condition.Layout (omega arith)
    each Condition.Map lt = frame Condition.Map (omega arith)
    each Condition.Strings lt = λ r at. string_holds h few p r (omega (arith, at, h.count StringIds))
    each Condition.Types lt = λ r at. type_holds h few p r (omega (arith, at, h.count TypeIds))
    each Condition.Protos lt = λ r at. proto_holds h few p r (omega (arith, at, h.count ProtoIds))
    each Condition.Fields lt = λ r at. field_holds h few p r (omega (arith, at, h.count FieldIds))
    each Condition.Methods lt = λ r at. method_holds h few p r (omega (arith, at, h.count MethodIds))
    each _ lt = absurd (omega (arith, lt))

-- the canonical file of well-formed definitions that fit caps meets all of these conditions
pub canonical_rows : (caps : Caps) (K : Collection) → AreCaps caps → Fits caps (definitions K) → AreWellFormed (definitions K) → HoldBelow 16 (canonical K)
canonical_rows caps K are fits formed =
    laid_rows (fitting_laid caps K are fits) (fits_few caps K are fits) (mentions-pools (definitions K) formed) (fitting_frame caps K are fits)
