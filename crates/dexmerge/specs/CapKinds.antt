-- The kinds of caps of the code are those of the definitions; their names. This project's rule.
use Rattle.std.specs.Prelude.{ℕ, List, codes}
use Rattle.dexspec.specs.Merging as merging
use Rattle.dexmerge.specs.declared.caps.CapKind.{CapKind}
use Rattle.dexmerge.specs.declared.caps.CapKind.TheVariants as code

-- the kind that is meant
abbrev pub cap_meant : CapKind → merging.Cap
cap_meant code.Types = merging.TypeCap
cap_meant code.Protos = merging.ProtoCap
cap_meant code.Fields = merging.FieldCap
cap_meant code.Methods = merging.MethodCap
cap_meant code.ShortStrings = merging.ShortStringCap
cap_meant code.Weight = merging.WeightCap

-- the name of a kind, as it is printed
abbrev pub cap_name : merging.Cap → List ℕ
cap_name merging.TypeCap = codes "types"
cap_name merging.ProtoCap = codes "protos"
cap_name merging.FieldCap = codes "fields"
cap_name merging.MethodCap = codes "methods"
cap_name merging.ShortStringCap = codes "short-strings"
cap_name merging.WeightCap = codes "weight"
