-- Protos, fields, methods and symbols of a listing are read back.
use Rattle.dexspec.proofs.Common.{◌≡◌, ℕ, List, ◌∷◌, ◌++◌, refl, sym, ap, ◌∙◌, AllByRecursion, flat_map, arith, codes}
use Rattle.dexspec.specs.Texts.{Text, AreUnits}
use Rattle.dexspec.specs.Symbols.{Proto, Field, Method, Symbol, TextSymbol, TypeSymbol, ProtoSymbol, FieldSymbol, MethodSymbol, Pool, StringPool, TypePool, ProtoPool, FieldPool, MethodPool, pool_of}
use Rattle.dexout.specs.Printed.{shown}
use Rattle.dexlisting.specs.Listing.{proto_text, own_field_text, own_method_text, symbol_text}
use Rattle.dexlisting.specs.FullListing.{plain}
use Rattle.dexlisting.proofs.law.Reads.{Reads, Anything, after, part, reads_list, reads_weaker}
use Rattle.dexlisting.proofs.law.Texts.{reads_quoted, reads_plain}
use Rattle.dexlisting.proofs.law.Types.{KnownType, reads_type, type_begins}

-- ---- protos and members

-- the types of a proto are known
pub record KnownProto (p : Proto) : Type 0 where
  pub return_type : KnownType p.return_type
  pub parameters : AllByRecursion KnownType p.parameters

-- the types of a field are known, and its name has units of 16 bits
pub record KnownField (f : Field) : Type 0 where
  pub class : KnownType f.class
  pub name : AreUnits f.name
  pub type : KnownType f.type

-- the same of a method
pub record KnownMethod (m : Method) : Type 0 where
  pub class : KnownType m.class
  pub name : AreUnits m.name
  pub proto : KnownProto m.proto

-- what begins with the bracket after parameters
abbrev pub Closes : List ℕ → Type 0
Closes r = (s : List ℕ) × (r ≡ 0x29 ∷ s)

-- the types of parameters are read back
reads_parameters : Reads (AllByRecursion KnownType) Closes (flat_map shown)
reads_parameters = reads_weaker (λ x g. g) (λ r f. (tt, f)) (reads_list Closes reads_type (λ x r g. tt)
    (λ x r s g f e. absurd (omega (arith, type_begins x 0x29 r f.0 g (e ∙ f.1)))))

-- a proto is read back
pub reads_proto : Reads KnownProto Anything proto_text
reads_proto = record {
  read = λ x y r s gx gy fr fs e.
      let p = part reads_parameters x.parameters y.parameters (codes ")" ++ shown x.return_type) (codes ")" ++ shown y.return_type) r s gx.parameters gy.parameters
      (shown x.return_type ++ r, refl) (shown y.return_type ++ s, refl) (after (codes "(") e) in
      let q = reads_type.read x.return_type y.return_type r s gx.return_type gy.return_type tt tt (after (codes ")") p.1) in
      (λ i. record { return_type = q.0 i; parameters = p.0 i }, q.1);
}

-- a name and a type
pub reads_own_field : Reads (λ p. AreUnits p.0 × KnownType p.1) Anything (λ (p : Text × Text). own_field_text plain p.0 p.1)
reads_own_field = record {
  read = λ x y r s gx gy fr fs e.
      let p = part reads_plain x.0 y.0 (codes ":" ++ shown x.1) (codes ":" ++ shown y.1) r s gx.0 gy.0 refl refl e in
      let q = reads_type.read x.1 y.1 r s gx.1 gy.1 tt tt (after (codes ":") p.1) in
      (λ i. (p.0 i, q.0 i), q.1);
}

-- a name and a proto
pub reads_own_method : Reads (λ p. AreUnits p.0 × KnownProto p.1) Anything (λ (p : Text × Proto). own_method_text plain p.0 p.1)
reads_own_method = record {
  read = λ x y r s gx gy fr fs e.
      let p = part reads_plain x.0 y.0 (proto_text x.1) (proto_text y.1) r s gx.0 gy.0 refl refl e in
      let q = reads_proto.read x.1 y.1 r s gx.1 gy.1 tt tt p.1 in
      (λ i. (p.0 i, q.0 i), q.1);
}

-- a field is read back
pub reads_field : Reads KnownField Anything (λ f. symbol_text plain (FieldSymbol f))
reads_field = record {
  read = λ x y r s gx gy fr fs e.
      let p = part reads_type x.class y.class (codes "->" ++ own_field_text plain x.name x.type) (codes "->" ++ own_field_text plain y.name y.type) r s gx.class gy.class tt tt e in
      let q = reads_own_field.read (x.name, x.type) (y.name, y.type) r s (gx.name, gx.type) (gy.name, gy.type) tt tt (after (codes "->") p.1) in
      (λ i. record { class = p.0 i; name = (q.0 i).0; type = (q.0 i).1 }, q.1);
}

-- a method is read back
pub reads_method : Reads KnownMethod Anything (λ m. symbol_text plain (MethodSymbol m))
reads_method = record {
  read = λ x y r s gx gy fr fs e.
      let p = part reads_type x.class y.class (codes "->" ++ own_method_text plain x.name x.proto) (codes "->" ++ own_method_text plain y.name y.proto) r s gx.class gy.class tt tt e in
      let q = reads_own_method.read (x.name, x.proto) (y.name, y.proto) r s (gx.name, gx.proto) (gy.name, gy.proto) tt tt (after (codes "->") p.1) in
      (λ i. record { class = p.0 i; name = (q.0 i).0; proto = (q.0 i).1 }, q.1);
}

-- ---- symbols

-- a symbol that a row can denote, of units of 16 bits
abbrev pub KnownSymbol : Symbol → Type 0
KnownSymbol (TextSymbol s) = AreUnits s
KnownSymbol (TypeSymbol t) = KnownType t
KnownSymbol (ProtoSymbol p) = KnownProto p
KnownSymbol (FieldSymbol f) = KnownField f
KnownSymbol (MethodSymbol m) = KnownMethod m

-- pools by number, to tell them apart
abbrev number_of : Pool → ℕ
number_of StringPool = 0
number_of TypePool = 1
number_of ProtoPool = 2
number_of FieldPool = 3
number_of MethodPool = 4

-- symbol by symbol
symbol_from : (x y : Symbol) (r s : List ℕ) → KnownSymbol x → KnownSymbol y → pool_of x ≡ pool_of y → symbol_text plain x ++ r ≡ symbol_text plain y ++ s → (x ≡ y) × (r ≡ s)
symbol_from (TextSymbol a) (TextSymbol b) r s gx gy same e = let p = reads_quoted.read a b r s gx gy tt tt e in (ap TextSymbol p.0, p.1)
symbol_from (TypeSymbol a) (TypeSymbol b) r s gx gy same e = let p = reads_type.read a b r s gx gy tt tt e in (ap TypeSymbol p.0, p.1)
symbol_from (ProtoSymbol a) (ProtoSymbol b) r s gx gy same e = let p = reads_proto.read a b r s gx gy tt tt e in (ap ProtoSymbol p.0, p.1)
symbol_from (FieldSymbol a) (FieldSymbol b) r s gx gy same e = let p = reads_field.read a b r s gx gy tt tt e in (ap FieldSymbol p.0, p.1)
symbol_from (MethodSymbol a) (MethodSymbol b) r s gx gy same e = let p = reads_method.read a b r s gx gy tt tt e in (ap MethodSymbol p.0, p.1)
symbol_from _ _ r s gx gy same e = absurd (omega (arith, ap number_of same))

-- a symbol of a pool that is known
pub reads_symbol : (pool : Pool) → Reads (λ s. KnownSymbol s × (pool_of s ≡ pool)) Anything (symbol_text plain)
reads_symbol pool = record { read = λ x y r s gx gy fr fs e. symbol_from x y r s gx.0 gy.0 (gx.1 ∙ sym gy.1) e }
