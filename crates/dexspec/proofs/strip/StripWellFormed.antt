-- Stripped well-formed definitions are well formed.
use Rattle.dexspec.proofs.Common.{IsTrue, ◌≡◌, List, map, All, Option, Some, None, refl, sym, subst, option_map, IfSome, flat_map, length-map, All-map, All-weaker, Code}
use Rattle.dexspec.specs.{rises, ShareNone, MethodDef, Body, Definition, declared_methods, symbols_of, texts_in, FitsUint, IsText, IsSymbol, IsCodeItem, IsMethodDef, method_key, method_key_cmp, IsWellFormed, AreWellFormed, strip_code, strip_method, strip_body, strip_definition, strip}
use Rattle.dexspec.proofs.lists.{AreAmong-flat_map, All-among, Contains-map_source, map-kept}
use Rattle.dexspec.proofs.strip.StripUnion.{declared_methods-strip}
use Rattle.dexspec.proofs.strip.StripMentions.{symbols_of-strip}

-- stripped code of a code_item is code of a code_item
IsCodeItem-strip : (c : Code) → IsCodeItem c → IsCodeItem (strip_code c)
IsCodeItem-strip c h = record {
  registers = h.registers;
  ins = h.ins;
  outs = h.outs;
  cuts = h.cuts;
  pieces = h.pieces;
  many = h.many;
  tries = h.tries;
  apart = h.apart;
  few = h.few;
  debug = tt;
}

-- optional code
code-strip : (o : Option Code) → IfSome o IsCodeItem → IfSome (option_map strip_code o) IsCodeItem
code-strip None h = tt
code-strip (Some c) h = IsCodeItem-strip c h

-- a stripped method of a class is a method of a class
IsMethodDef-strip : (m : MethodDef) → IsMethodDef m → IsMethodDef (strip_method m)
IsMethodDef-strip m h = record {
  name = h.name;
  proto = h.proto;
  flags = h.flags;
  code = code-strip m.code h.code;
  annotations = h.annotations;
  parameters = h.parameters;
  parameters_count = h.parameters_count;
}

-- all declared methods of a body
declared-strip : (c : Body) → All IsMethodDef (declared_methods c) → All IsMethodDef (declared_methods (strip_body c))
declared-strip c h =
    subst (All IsMethodDef) (sym (declared_methods-strip c))
    (All-map IsMethodDef strip_method (declared_methods c) (All-weaker IsMethodDef (λ m. IsMethodDef (strip_method m)) IsMethodDef-strip (declared_methods c) h))

-- methods keep their keys
pub method_keys-strip : (ms : List MethodDef) → map method_key (map strip_method ms) ≡ map method_key ms
method_keys-strip ms = map-kept strip_method method_key (λ m. refl) ms

-- a stripped well-formed definition is well formed
pub IsWellFormed-strip : (d : Definition) → IsWellFormed d → IsWellFormed (strip_definition d)
IsWellFormed-strip d h =
    let direct = d.1.direct_methods in
    let virtual = d.1.virtual_methods in
    let symbols = symbols_of-strip d in record {
      name = h.name;
      superclass = h.superclass;
      interfaces = h.interfaces;
      interfaces_count = h.interfaces_count;
      flags = h.flags;
      annotations = h.annotations;
      fields = h.fields;
      methods = declared-strip d.1 h.methods;
      static_fields_count = h.static_fields_count;
      instance_fields_count = h.instance_fields_count;
      direct_methods_count = subst FitsUint (sym (length-map direct strip_method)) h.direct_methods_count;
      virtual_methods_count = subst FitsUint (sym (length-map virtual strip_method)) h.virtual_methods_count;
      static_fields = h.static_fields;
      instance_fields = h.instance_fields;
      fields_apart = h.fields_apart;
      direct_methods = subst (λ ks. IsTrue (rises method_key_cmp ks)) (sym (method_keys-strip direct)) h.direct_methods;
      virtual_methods = subst (λ ks. IsTrue (rises method_key_cmp ks)) (sym (method_keys-strip virtual)) h.virtual_methods;
      methods_apart = subst (ShareNone (map method_key (map strip_method direct))) (sym (method_keys-strip virtual))
          (subst (λ ks. ShareNone ks (map method_key virtual)) (sym (method_keys-strip direct)) h.methods_apart);
      static_values = h.static_values;
      shallow = h.shallow;
      few_values = h.few_values;
      symbols = All-among IsSymbol (symbols_of (strip_definition d)) (symbols_of d) symbols h.symbols;
      texts = All-among IsText (flat_map texts_in (symbols_of (strip_definition d))) (flat_map texts_in (symbols_of d)) (AreAmong-flat_map texts_in (symbols_of (strip_definition d)) (symbols_of d) symbols) h.texts;
    }

-- all of them
pub AreWellFormed-strip : (D : List Definition) → AreWellFormed D → AreWellFormed (strip D)
AreWellFormed-strip D h d c = let s = Contains-map_source strip_definition D d c in subst IsWellFormed s.2 (IsWellFormed-strip s.0 (h s.0 s.1))
