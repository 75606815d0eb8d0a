-- The statements of the laws of stripping.
use Rattle.std.specs.Prelude.{◌≡◌, ◌↔◌, ℕ, ◌≤◌, List, map, All, IfSome, None}
use Rattle.std.specs.List.{Contains, AllZip}
use Rattle.std.specs.Option.{option_map}
use Rattle.std.specs.FinMap as finite
use Rattle.dexspec.specs.Lists.{AreDistinct}
use Rattle.dexspec.specs.Texts.{Text, text_cmp}
use Rattle.dexspec.specs.Symbols.{Symbol, proto_cmp, field_cmp, method_cmp}
use Rattle.dexspec.specs.Pieces.{Piece}
use Rattle.dexspec.specs.Code.{Try, Code}
use Rattle.dexspec.specs.Classes.{MethodDef, Body, Definition}
use Rattle.dexspec.specs.Files.{Collection, definitions, AreWithin, IsCollectionOf}
use Rattle.dexspec.specs.Mentions.{Mentions, symbols_of}
use Rattle.dexspec.specs.WellFormed.{method_key}
use Rattle.dexspec.specs.Weight.{weight}
use Rattle.dexspec.specs.Depth.{parents, is_defined, above, is_below, HasDepth, IsAcyclic, depth, in_class_order}
use Rattle.dexspec.specs.Merging.{Caps, IsCycle, IsGood, Plan, union}
use Rattle.dexspec.specs.Stripping.{strip_body, strip_definition, strip, strip_collection}
use Rattle.dexlaws.specs.Growth.{IsPartOf}

-- ---- definitions

-- the definition is the stripped one of a member
pub record IsLeft (D : List Definition) (d : Definition) : Type 0 where
  pub original : Definition
  pub member : Contains D original
  pub left : strip_definition original ≡ d

-- the stripped union is the union of the stripped files
abbrev pub StripsUnion : List (List Definition) → Plan → Type 0
StripsUnion files plan = strip (union files plan) ≡ union (map strip files) plan

-- a method's code has no debug program
abbrev pub HasNoDebug : MethodDef → Type 0
HasNoDebug m = IfSome m.code (λ c. c.debug ≡ None)

-- nothing can be stripped from it
pub record IsWithoutDebug (c : Body) : Type 0 where
  pub source : c.source ≡ None
  pub direct_methods : All HasNoDebug c.direct_methods
  pub virtual_methods : All HasNoDebug c.virtual_methods

-- all of a code_item without its debug program
abbrev pub code_parts : Code → ℕ × ℕ × ℕ × List Piece × List Try
code_parts c = (c.registers, c.ins, c.outs, c.pieces, c.tries)

-- the second method is the first without its code's debug program
pub record IsMethodLeft (m n : MethodDef) : Type 0 where
  pub name : n.name ≡ m.name
  pub proto : n.proto ≡ m.proto
  pub flags : n.flags ≡ m.flags
  pub code : option_map code_parts n.code ≡ option_map code_parts m.code
  pub no_debug : HasNoDebug n
  pub annotations : n.annotations ≡ m.annotations
  pub parameter_annotations : n.parameter_annotations ≡ m.parameter_annotations

-- all of a definition but its source text is kept, and its methods are in the same order under the same names
pub record KeepsDefinition (d : Definition) : Type 0 where
  pub name : (strip_definition d).0 ≡ d.0
  pub flags : (strip_body d.1).flags ≡ d.1.flags
  pub superclass : (strip_body d.1).superclass ≡ d.1.superclass
  pub interfaces : (strip_body d.1).interfaces ≡ d.1.interfaces
  pub both : parents (strip_body d.1) ≡ parents d.1
  pub annotations : (strip_body d.1).annotations ≡ d.1.annotations
  pub static_fields : (strip_body d.1).static_fields ≡ d.1.static_fields
  pub instance_fields : (strip_body d.1).instance_fields ≡ d.1.instance_fields
  pub direct_methods : AllZip IsMethodLeft d.1.direct_methods (strip_body d.1).direct_methods
  pub virtual_methods : AllZip IsMethodLeft d.1.virtual_methods (strip_body d.1).virtual_methods
  pub direct_names : map method_key (strip_body d.1).direct_methods ≡ map method_key d.1.direct_methods
  pub virtual_names : map method_key (strip_body d.1).virtual_methods ≡ map method_key d.1.virtual_methods
  pub static_values : (strip_body d.1).static_values ≡ d.1.static_values

-- names, parents and depths are those of the definitions, and the class order is the same
pub record KeepsDepths (D : List Definition) : Type 0 where
  pub defined : (name : Text) → is_defined (strip D) name ≡ is_defined D name
  pub parents : (name : Text) → above (strip D) name ≡ above D name
  pub below : (n : ℕ) (name : Text) → is_below (strip D) n name ≡ is_below D n name
  pub some : (name : Text) → HasDepth (strip D) name ↔ HasDepth D name
  pub acyclic : IsAcyclic (strip D) ↔ IsAcyclic D
  pub cycles : (name : Text) → IsCycle (strip D) name ↔ IsCycle D name
  pub depths : (name : Text) → depth (strip D) name ≡ depth D name
  pub order : in_class_order (strip D) ≡ strip (in_class_order D)

-- ---- mentions

-- each symbol of the first definition is a symbol of the second
abbrev pub HasSymbolsOf : Definition → Definition → Type 0
HasSymbolsOf d e = (s : Symbol) → Contains (symbols_of d) s → Contains (symbols_of e) s

-- each of the five lists of the first is part of that of the second
pub record AreParts (m n : Mentions) : Type 0 where
  pub texts : IsPartOf text_cmp m.texts n.texts
  pub types : IsPartOf text_cmp m.types n.types
  pub protos : IsPartOf proto_cmp m.protos n.protos
  pub fields : IsPartOf field_cmp m.fields n.fields
  pub methods : IsPartOf method_cmp m.methods n.methods

-- ---- weights

-- distinct members whose stripped definitions these are, and which weigh at least as much
pub record HasHeavier (D E : List Definition) : Type 0 where
  pub originals : List Definition
  pub distinct : AreDistinct originals
  pub within : AreWithin originals D
  pub left : strip originals ≡ E
  pub heavier : weight E ≤ weight originals

-- ---- collections

-- a collection's definitions, names and look-ups after stripping
pub record StripsCollection (K : Collection) : Type 0 where
  pub is : IsCollectionOf (strip (definitions K)) (strip_collection K)
  pub in_order : definitions (strip_collection K) ≡ strip (definitions K)
  pub names : finite.keys (strip_collection K) ≡ finite.keys K
  pub found : (name : Text) → finite.get (strip_collection K) name ≡ option_map strip_body (finite.get K name)
  pub twice : strip_collection (strip_collection K) ≡ strip_collection K

-- the stripped list forms the stripped collection
abbrev pub FormsStripped : List Definition → Collection → Type 0
FormsStripped D K = IsCollectionOf (strip D) (strip_collection K)

-- If the collections merge to K, the stripped ones are mergeable under the caps if these are, and merge only to K
-- stripped.
pub record StripCommutes (caps : Caps) (Ks : List Collection) (plan : Plan) (K : Collection) : Type 0 where
  pub parts : union (map definitions (map strip_collection Ks)) plan ≡ strip (union (map definitions Ks) plan)
  pub good : IsGood caps (union (map definitions Ks) plan)
      → IsGood caps (union (map definitions (map strip_collection Ks)) plan)
  pub is : IsCollectionOf (union (map definitions (map strip_collection Ks)) plan) (strip_collection K)
  pub alone : (L : Collection) → IsCollectionOf (union (map definitions (map strip_collection Ks)) plan) L
      → L ≡ strip_collection K

-- stripping commutes with this merge
abbrev pub MergesStripped : Caps → List Collection → Plan → Type 0
MergesStripped caps Ks plan =
    (K : Collection) → IsCollectionOf (union (map definitions Ks) plan) K → StripCommutes caps Ks plan K
