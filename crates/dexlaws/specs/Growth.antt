-- The statements of the laws of orders, lists in order, ranks, and of what grows with class definitions.
use Rattle.std.specs.Prelude.{◌≡◌, ◌↔◌, ℕ, ◌<◌, ◌≤◌, List, length, slice_index_or, true, IsTrue}
use Rattle.std.specs.List.{Contains}
use Rattle.std.specs.Cmp.{IsTotalOrder}
use Rattle.std.specs.FinMap.{IsAntisymmetric}
use Rattle.std.specs.declared.cmp.Ordering.{Ordering}
use Rattle.dexspec.specs.Lists.{rises, in_order, rank}
use Rattle.dexspec.specs.Texts.{Text, text_cmp}
use Rattle.dexspec.specs.Names.{shorty}
use Rattle.dexspec.specs.Symbols.{Symbol, Proto, Field, Method, proto_cmp, field_cmp, method_cmp}
use Rattle.dexspec.specs.Classes.{Definition}
use Rattle.dexspec.specs.Mentions.{Mentions, mentions, symbols_of, texts_in, types_in, protos_in, fields_in, methods_in}
use Rattle.dexspec.specs.Mentions.{proto_types}
use Rattle.dexspec.specs.Depth.{is_defined, above, is_below, HasDepth, IsAcyclic}
use Rattle.dexspec.specs.Merging.{Caps, IsGood, Cause, IsCause}

-- a total order by which only equal values are equal
pub record IsExactOrder {K : Type 0} (R : K → K → Ordering) : Type 0 where
  pub total : IsTotalOrder R
  pub antisymmetric : IsAntisymmetric R

-- a list put in order rises, has the same members, and depends on these alone
pub record PutsInOrder {K : Type 0} (R : K → K → Ordering) : Type 0 where
  pub rising : (xs : List K) → IsTrue (rises R (in_order R xs))
  pub members : (xs : List K) (x : K) → Contains (in_order R xs) x ↔ Contains xs x
  pub alone : (xs ys : List K) → ((x : K) → Contains xs x ↔ Contains ys x) → in_order R xs ≡ in_order R ys

-- in a rising list the rank of the member at an index is the index, and a member is at its rank
pub record RanksArePlaces {K : Type 0} (R : K → K → Ordering) : Type 0 where
  pub rank_at : (xs : List K) (i : ℕ) (d : K) → IsTrue (rises R xs) → i < length xs
      → rank R (slice_index_or xs i d) xs ≡ i
  pub within : (xs : List K) (s : K) → IsTrue (rises R xs) → Contains xs s → rank R s xs < length xs
  pub place : (xs : List K) (s d : K) → IsTrue (rises R xs) → Contains xs s → slice_index_or xs (rank R s xs) d ≡ s

-- the members of the first list are members of the second, which is at least as long and gives ranks at least as great
pub record IsPartOf {K : Type 0} (R : K → K → Ordering) (xs ys : List K) : Type 0 where
  pub members : (x : K) → Contains xs x → Contains ys x
  pub lengths : length xs ≤ length ys
  pub ranks : (s : K) → rank R s xs ≤ rank R s ys

-- the mentions of the first definitions are part of the mentions of the second
pub record MentionsGrow (D E : List Definition) : Type 0 where
  pub texts : IsPartOf text_cmp (mentions D).texts (mentions E).texts
  pub types : IsPartOf text_cmp (mentions D).types (mentions E).types
  pub protos : IsPartOf proto_cmp (mentions D).protos (mentions E).protos
  pub fields : IsPartOf field_cmp (mentions D).fields (mentions E).fields
  pub methods : IsPartOf method_cmp (mentions D).methods (mentions E).methods

-- each of the five lists of mentions rises
pub record MentionsRise (D : List Definition) : Type 0 where
  pub texts : IsTrue (rises text_cmp (mentions D).texts)
  pub types : IsTrue (rises text_cmp (mentions D).types)
  pub protos : IsTrue (rises proto_cmp (mentions D).protos)
  pub fields : IsTrue (rises field_cmp (mentions D).fields)
  pub methods : IsTrue (rises method_cmp (mentions D).methods)

-- some symbol that occurs in one of the definitions has this part
pub record Occurs {X : Type 0} (parts : Symbol → List X) (D : List Definition) (x : X) : Type 0 where
  pub definition : Definition
  pub symbol : Symbol
  pub member : Contains D definition
  pub occurs : Contains (symbols_of definition) symbol
  pub part : Contains (parts symbol) x

-- the five lists of mentions have the parts of the symbols that occur, and nothing else
pub record MentionsAreParts (D : List Definition) : Type 0 where
  pub texts : (s : Text) → Contains (mentions D).texts s ↔ Occurs texts_in D s
  pub types : (t : Text) → Contains (mentions D).types t ↔ Occurs types_in D t
  pub protos : (p : Proto) → Contains (mentions D).protos p ↔ Occurs protos_in D p
  pub fields : (f : Field) → Contains (mentions D).fields f ↔ Occurs fields_in D f
  pub methods : (m : Method) → Contains (mentions D).methods m ↔ Occurs methods_in D m

-- the parts of a mentioned symbol are mentioned
pub record AreClosed (m : Mentions) : Type 0 where
  pub type_text : (t : Text) → Contains m.types t → Contains m.texts t
  pub shorty_text : (p : Proto) → Contains m.protos p → Contains m.texts (shorty p.return_type p.parameters)
  pub proto_type : (p : Proto) (t : Text) → Contains m.protos p → Contains (proto_types p) t → Contains m.types t
  pub field_class : (f : Field) → Contains m.fields f → Contains m.types f.class
  pub field_name : (f : Field) → Contains m.fields f → Contains m.texts f.name
  pub field_type : (f : Field) → Contains m.fields f → Contains m.types f.type
  pub method_class : (x : Method) → Contains m.methods x → Contains m.types x.class
  pub method_name : (x : Method) → Contains m.methods x → Contains m.texts x.name
  pub method_proto : (x : Method) → Contains m.methods x → Contains m.protos x.proto

-- names, parents and depths of the first definitions are as among the second
pub record DepthsGrow (D E : List Definition) : Type 0 where
  pub defined : (name : Text) → is_defined D name ≡ true → is_defined E name ≡ true
  pub parents : (name parent : Text) → Contains (above D name) parent → Contains (above E name) parent
  pub below : (n : ℕ) (name : Text) → is_below E n name ≡ true → is_below D n name ≡ true
  pub depth : (name : Text) → HasDepth E name → HasDepth D name
  pub acyclic : IsAcyclic E → IsAcyclic D

-- if the whole is mergeable, so is the part; a cause against the part is a cause against the whole
pub record Absorbs (D E : List Definition) : Type 0 where
  pub good : (caps : Caps) → IsGood caps E → IsGood caps D
  pub causes : (caps : Caps) (cause : Cause) → IsCause caps D cause → IsCause caps E cause
