-- What is known of the parts of a well-formed class.
use Rattle.dexspec.proofs.Common.{List, ◌++◌, map, flat_map, All, AllByRecursion}
use Rattle.dexspec.specs.Texts.{AreUnits}
use Rattle.dexspec.specs.Symbols.{Symbol, TypeSymbol}
use Rattle.dexspec.specs.Classes.{Definition, declared_fields, declared_methods}
use Rattle.dexspec.specs.Mentions.{optional_text, optional_type, set_symbols, field_symbols, method_symbols, values_symbols, symbols_of}
use Rattle.dexspec.specs.WellFormed.{IsFieldDef, IsMethodDef, IsWellFormed}
use Rattle.dexlisting.proofs.law.Reads.{IfAny}
use Rattle.dexlisting.proofs.law.Types.{KnownType}
use Rattle.dexlisting.proofs.law.Symbols.{KnownSymbol}
use Rattle.dexlisting.proofs.law.Goods.{Knows, known_symbols, each_append, each_flat_map, each_map, each_from_all, each_both, each_so}
use Rattle.dexlisting.proofs.law.Operations.{known_text, known_type}
use Rattle.dexlisting.proofs.law.Annotations.{KnownSet, known_set}
use Rattle.dexlisting.proofs.law.Values.{KnownValues}
use Rattle.dexlisting.proofs.law.Fields.{KnownFieldDef, known_field_def}
use Rattle.dexlisting.proofs.law.Methods.{KnownMethodDef}

-- types, texts, annotations, members and values
pub record KnownClass (d : Definition) : Type 0 where
  pub formed : IsWellFormed d
  pub name : KnownType d.0
  pub superclass : IfAny KnownType d.1.superclass
  pub interfaces : AllByRecursion KnownType d.1.interfaces
  pub source : IfAny AreUnits d.1.source
  pub annotations : KnownSet d.1.annotations
  pub static_fields : AllByRecursion KnownFieldDef d.1.static_fields
  pub instance_fields : AllByRecursion KnownFieldDef d.1.instance_fields
  pub direct_methods : AllByRecursion (KnownMethodDef d.0) d.1.direct_methods
  pub virtual_methods : AllByRecursion (KnownMethodDef d.0) d.1.virtual_methods
  pub static_values : KnownValues d.1.static_values

-- members of a class, and the symbols of each
members_known : {M : Type 0} (Is : M → Type 0) (symbols : M → List Symbol) (ms ns : List M) → All Is (ms ++ ns) → Knows (flat_map symbols (ms ++ ns))
    → AllByRecursion (λ m. Is m × Knows (symbols m)) ms × AllByRecursion (λ m. Is m × Knows (symbols m)) ns
members_known Is symbols ms ns are named =
    each_append (λ m. Is m × Knows (symbols m)) ms ns (each_both Is (λ m. Knows (symbols m)) (ms ++ ns) (each_from_all Is (ms ++ ns) are) (each_flat_map KnownSymbol symbols (ms ++ ns) named))

-- of a class whose symbols are known
known_by : (d : Definition) → IsWellFormed d → Knows (symbols_of d) → KnownClass d
unfolding symbols_of
known_by d is named =
    let methods = flat_map (method_symbols d.0) (declared_methods d.1) in
    let fields = flat_map (field_symbols d.0) (declared_fields d.1) in
    let values = values_symbols d.1.static_values in
    let set = set_symbols d.1.annotations in
    let source = optional_text d.1.source in
    let interfaces = map TypeSymbol d.1.interfaces in
    let one = each_append KnownSymbol (optional_type d.1.superclass) (interfaces ++ (source ++ (set ++ (fields ++ (methods ++ values))))) named.1 in
    let two = each_append KnownSymbol interfaces (source ++ (set ++ (fields ++ (methods ++ values)))) one.1 in
    let three = each_append KnownSymbol source (set ++ (fields ++ (methods ++ values))) two.1 in
    let four = each_append KnownSymbol set (fields ++ (methods ++ values)) three.1 in
    let five = each_append KnownSymbol fields (methods ++ values) four.1 in
    let six = each_append KnownSymbol methods values five.1 in
    let known_fields = members_known IsFieldDef (field_symbols d.0) d.1.static_fields d.1.instance_fields is.fields five.0 in
    let known_methods = members_known IsMethodDef (method_symbols d.0) d.1.direct_methods d.1.virtual_methods is.methods six.0 in
    record {
      formed = is;
      name = named.0;
      superclass = known_type d.1.superclass one.0;
      interfaces = each_map KnownSymbol TypeSymbol d.1.interfaces two.0;
      source = known_text d.1.source three.0;
      annotations = known_set d.1.annotations is.annotations four.0;
      static_fields = each_so (λ f. IsFieldDef f × Knows (field_symbols d.0 f)) (λ f both. known_field_def d.0 f both.0 both.1) d.1.static_fields known_fields.0;
      instance_fields = each_so (λ f. IsFieldDef f × Knows (field_symbols d.0 f)) (λ f both. known_field_def d.0 f both.0 both.1) d.1.instance_fields known_fields.1;
      direct_methods = known_methods.0;
      virtual_methods = known_methods.1;
      static_values = (is.static_values, six.1);
    }

-- of a well-formed class
pub known_class : (d : Definition) → IsWellFormed d → KnownClass d
known_class d is = known_by d is (known_symbols d is)
