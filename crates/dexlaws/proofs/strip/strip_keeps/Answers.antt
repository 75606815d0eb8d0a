use Rattle.dexspec.proofs.Common.{◌≡◌, List, [], ◌∷◌, map, Option, Some, None, refl, option_map, AllZip, Code}
use Rattle.dexspec.specs.Classes.{MethodDef}
use Rattle.dexspec.specs.Stripping.{strip_code, strip_method}
use Rattle.dexspec.proofs.strip.StripWithoutDebug.{no_debug}
use Rattle.dexspec.proofs.strip.StripWellFormed.{method_keys-strip}
use Rattle.dexlaws.specs.{code_parts, IsMethodLeft}
use Rattle.dexlaws.proofs.strip.strip_keeps.Goals as goal

parts : (o : Option Code) → option_map code_parts (option_map strip_code o) ≡ option_map code_parts o
parts None = refl
parts (Some c) = refl

left : (ms : List MethodDef) → AllZip IsMethodLeft ms (map strip_method ms)
left [] = tt
left (m ∷ ms) = (record { name = refl; proto = refl; flags = refl; code = parts m.code; no_debug = no_debug m.code; annotations = refl; parameter_annotations = refl }, left ms)

pub returns : goal.returns
returns c = λ d. record {
  name = refl;
  flags = refl;
  superclass = refl;
  interfaces = refl;
  both = refl;
  annotations = refl;
  static_fields = refl;
  instance_fields = refl;
  direct_methods = left d.1.direct_methods;
  virtual_methods = left d.1.virtual_methods;
  direct_names = method_keys-strip d.1.direct_methods;
  virtual_names = method_keys-strip d.1.virtual_methods;
  static_values = refl;
}
