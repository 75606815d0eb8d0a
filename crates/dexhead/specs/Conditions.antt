-- The conditions of the code are those of the definitions; their names. This project's rule.
use Rattle.std.specs.Prelude.{ℕ, List, codes}
use Rattle.dexspec.specs.Conditions as conditions
use Rattle.dexhead.specs.declared.condition.Condition.{Condition}
use Rattle.dexhead.specs.declared.condition.Condition.TheVariants as code

-- the condition that is meant
abbrev pub condition_meant : Condition → conditions.Condition
condition_meant code.Size = conditions.Size
condition_meant code.Magic = conditions.Magic
condition_meant code.Version = conditions.Version
condition_meant code.Lengths = conditions.Lengths
condition_meant code.Endian = conditions.Endian
condition_meant code.Link = conditions.Link
condition_meant code.Checksum = conditions.Checksum
condition_meant code.Signature = conditions.Signature
condition_meant code.Layout = conditions.Layout
condition_meant code.Map = conditions.Map
condition_meant code.Strings = conditions.Strings
condition_meant code.Types = conditions.Types
condition_meant code.Protos = conditions.Protos
condition_meant code.Fields = conditions.Fields
condition_meant code.Methods = conditions.Methods
condition_meant code.Classes = conditions.Classes
condition_meant code.Members = conditions.Members
condition_meant code.Code = conditions.Code
condition_meant code.Tries = conditions.Tries
condition_meant code.Debug = conditions.Debug
condition_meant code.Values = conditions.Values
condition_meant code.Annotations = conditions.Annotations
condition_meant code.Weight = conditions.Weight

-- the name of a condition, as it is printed
abbrev pub condition_name : conditions.Condition → List ℕ
condition_name conditions.Size = codes "Size"
condition_name conditions.Magic = codes "Magic"
condition_name conditions.Version = codes "Version"
condition_name conditions.Lengths = codes "Lengths"
condition_name conditions.Endian = codes "Endian"
condition_name conditions.Link = codes "Link"
condition_name conditions.Checksum = codes "Checksum"
condition_name conditions.Signature = codes "Signature"
condition_name conditions.Layout = codes "Layout"
condition_name conditions.Map = codes "Map"
condition_name conditions.Strings = codes "Strings"
condition_name conditions.Types = codes "Types"
condition_name conditions.Protos = codes "Protos"
condition_name conditions.Fields = codes "Fields"
condition_name conditions.Methods = codes "Methods"
condition_name conditions.Classes = codes "Classes"
condition_name conditions.Members = codes "Members"
condition_name conditions.Code = codes "Code"
condition_name conditions.Tries = codes "Tries"
condition_name conditions.Debug = codes "Debug"
condition_name conditions.Values = codes "Values"
condition_name conditions.Annotations = codes "Annotations"
condition_name conditions.Weight = codes "Weight"
