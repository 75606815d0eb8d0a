-- The definitions of accepted files are well formed, and definitions that are good under caps of the format are good
-- under the greatest caps.
use Rattle.dexspec.proofs.Common.{ℕ, List, arith, AllZip, flat_map}
use Rattle.dexspec.specs.Classes.{Definition}
use Rattle.dexspec.specs.Files.{Collection, definitions, IsCollectionOf}
use Rattle.dexspec.specs.WellFormed.{AreWellFormed}
use Rattle.dexspec.specs.Merging.{Caps, AreCaps, greatest_caps, IsGood}
use Rattle.dexspec.specs.Canonical.{canonical}
use Rattle.dexspec.proofs.lists.Members.{Contains-flat_map_source}
use Rattle.dexspec.proofs.wellformed.Fitting.{zip_source}
use Rattle.dexspec.proofs.merge.Absorption.{IsGood-within}
use Rattle.dexspec.proofs.merge.Collections.{definitions-same}
use Rattle.dexspec.proofs.wellformed.FormedCode.{denoted_well_formed}
use Rattle.dexspec.proofs.normal.NormalForm.{IsFileOf}
use Rattle.dexspec.proofs.normal.RowsReadable.{whole_normal_form}
use Rattle.dexlaws.specs.{IsAcceptedAs}

-- also under the greatest caps
good_greatest : (caps : Caps) (D : List Definition) → AreCaps caps → IsGood caps D → IsGood greatest_caps D
good_greatest caps D are good = record {
  consistent = good.consistent;
  acyclic = good.acyclic;
  fits = record {
    types = omega (arith, good.fits.types, are.types);
    protos = omega (arith, good.fits.protos, are.protos);
    fields = omega (arith, good.fits.fields, are.fields);
    methods = omega (arith, good.fits.methods, are.methods);
    short_strings = λ s h. omega (arith, good.fits.short_strings s h, are.short_strings);
    weight = λ E apart within. omega (arith, good.fits.weight E apart within, are.weight);
  };
}

-- the definitions of accepted files are well formed
parts_formed : (files : List (List ℕ)) (parts : List Collection) → AllZip IsAcceptedAs files parts → AreWellFormed (flat_map definitions parts)
parts_formed files parts are d c =
    let s = Contains-flat_map_source definitions parts d c in
    let w = zip_source IsAcceptedAs files parts s.0 are s.1 in
    denoted_well_formed w.0 w.2.bytes w.2.accepted s.0 w.2.denotes d s.2

-- the canonical file of their collection
pub union_form : (caps : Caps) (files : List (List ℕ)) (parts : List Collection) (K : Collection) → AreCaps caps → AllZip IsAcceptedAs files parts → IsGood caps (flat_map definitions parts) → IsCollectionOf (flat_map definitions parts) K → IsFileOf K (canonical K)
union_form caps files parts K caps_are are good is =
    let D = flat_map definitions parts in
    let same = definitions-same D K is in
    whole_normal_form K (good_greatest caps (definitions K) caps_are (IsGood-within (definitions K) D (λ d. (same d).0) caps good)) (λ d c. parts_formed files parts are d ((same d).0 c))
