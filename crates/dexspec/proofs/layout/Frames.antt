-- A canonical file has a valid frame: conditions 1 to 10.
use Rattle.dexspec.proofs.Common.{ℕ, ◌^◌, ◌<◌, ◌≤◌, List, length, arith}
use Rattle.dexspec.specs.{TypeIds, ProtoIds, FieldIds, MethodIds, HasSize, Condition, IsFrame, Collection, definitions, Caps, AreCaps, Fits, Ordered, with_sums, unsigned_file, ordered, canonical}
use Rattle.dexspec.proofs.layout.Sums.{with_sums_magic, with_sums_version, with_sums_checksum, with_sums_signature}
use Rattle.dexspec.proofs.layout.SectionPlaces.{Laid, laid, data_before_map}
use Rattle.dexspec.proofs.size.SizeFile.{canonical-has_size}
use Rattle.dexspec.proofs.layout.HeaderLaws.{AreFew, laid_lengths, laid_endian, laid_no_link, laid_layout}
use Rattle.dexspec.proofs.layout.MapLaws.{laid_map}

-- 1 Size: there is at least the header
pub laid_size : {K : Ordered} {b : List ℕ} → Laid K b → length b ≤ 2 ^ 30 → HasSize b
laid_size {K} {b} h most = record { least = omega (arith, h.size, data_before_map K); most = most }

-- the file of classes in order has a valid frame
pub file_frame : (K : Ordered) → AreFew K → length (with_sums (unsigned_file K)) ≤ 2 ^ 30 → IsFrame (with_sums (unsigned_file K))
file_frame K few most = each
  where
    rest : List ℕ
    rest = unsigned_file K

    h : Laid K (with_sums rest)
    h = laid K (omega (arith, most))

    each : IsFrame (with_sums rest)
    each Condition.Size lt r at = laid_size h most
    each Condition.Magic lt r at = with_sums_magic rest
    each Condition.Version lt r at = with_sums_version rest
    each Condition.Lengths lt r at = laid_lengths h
    each Condition.Endian lt r at = laid_endian h
    each Condition.Link lt r at = laid_no_link h
    each Condition.Checksum lt r at = with_sums_checksum rest
    each Condition.Signature lt r at = with_sums_signature rest
    each Condition.Layout lt r at = laid_layout h few
    each Condition.Map lt r at = laid_map h
    each _ lt r at = absurd (omega (arith, lt))

-- a collection that fits caps has few symbols
pub fits_few : (caps : Caps) (K : Collection) → AreCaps caps → Fits caps (definitions K) → AreFew (ordered (definitions K))
fits_few caps K c f TypeIds = omega (arith, c.types, f.types)
fits_few caps K c f ProtoIds = omega (arith, c.protos, f.protos)
fits_few caps K c f FieldIds = omega (arith, c.fields, f.fields)
fits_few caps K c f MethodIds = omega (arith, c.methods, f.methods)
fits_few caps _ c f _ = tt

-- a canonical file has this layout
pub canonical_laid : (K : Collection) → length (canonical K) < 2 ^ 32 → Laid (ordered (definitions K)) (canonical K)
unfolding canonical
canonical_laid K small = laid (ordered (definitions K)) small

-- a canonical file has a valid frame
pub canonical_frame : (K : Collection) → AreFew (ordered (definitions K)) → length (canonical K) ≤ 2 ^ 30 → IsFrame (canonical K)
unfolding canonical
canonical_frame K few most = file_frame (ordered (definitions K)) few most

-- the layout of the file of a collection that fits caps
pub fitting_laid : (caps : Caps) (K : Collection) → AreCaps caps → Fits caps (definitions K) → Laid (ordered (definitions K)) (canonical K)
fitting_laid caps K are fits = canonical_laid K (omega (arith, (canonical-has_size caps K are fits).most))

-- its frame is valid
pub fitting_frame : (caps : Caps) (K : Collection) → AreCaps caps → Fits caps (definitions K) → IsFrame (canonical K)
fitting_frame caps K are fits = canonical_frame K (fits_few caps K are fits) (canonical-has_size caps K are fits).most
