-- Definitions without their debug programs and source texts. This project's rule.
use Rattle.std.specs.Prelude.{List, map, None}
use Rattle.std.specs.Option.{option_map}
use Rattle.std.specs.FinMap as map
use Rattle.dexspec.specs.Code.{Code}
use Rattle.dexspec.specs.Classes.{MethodDef, Body, Definition}
use Rattle.dexspec.specs.Files.{Collection, definitions}

-- code without its debug program
abbrev pub strip_code : Code → Code
strip_code c = record c { debug = None }

-- a method with its code stripped
abbrev pub strip_method : MethodDef → MethodDef
strip_method m = record m { code = option_map strip_code m.code }

-- a body without its source text and its methods' debug programs
abbrev pub strip_body : Body → Body
strip_body c =
    record c {
      source = None;
      direct_methods = map strip_method c.direct_methods;
      virtual_methods = map strip_method c.virtual_methods;
    }

-- the same name with a stripped body
abbrev pub strip_definition : Definition → Definition
strip_definition d = (d.0, strip_body d.1)

-- all definitions stripped
abbrev pub strip : List Definition → List Definition
strip D = map strip_definition D

-- a collection stripped
unfoldable pub strip_collection : Collection → Collection
strip_collection K = map.from_entries (strip (definitions K))
