use Rattle.dexspec.proofs.Common.{List}
use Rattle.dexspec.specs.Symbols.{Symbol}
use Rattle.dexspec.specs.Classes.{Definition}
use Rattle.dexspec.specs.Mentions.{texts_in, types_in, protos_in, fields_in, methods_in}
use Rattle.dexspec.proofs.merge.MentionMembers as members
use Rattle.dexlaws.specs.{Occurs}
use Rattle.dexlaws.proofs.growth.parts_law.Goals as goal

module _ {X : Type 0} (parts : Symbol → List X) (D : List Definition) (x : X) where
  into : Occurs parts D x → members.Occurs parts D x
  into w = record { definition = w.definition; symbol = w.symbol; member = w.member; occurs = w.occurs; part = w.part }

  out : members.Occurs parts D x → Occurs parts D x
  out w = record { definition = w.definition; symbol = w.symbol; member = w.member; occurs = w.occurs; part = w.part }

pub returns-clause-parts : goal.returns-clause-parts
returns-clause-parts c = λ D. record {
  texts = λ x. (λ m. out texts_in D x (members.texts-source D x m), λ w. members.texts-listed D x (into texts_in D x w));
  types = λ x. (λ m. out types_in D x (members.types-source D x m), λ w. members.types-listed D x (into types_in D x w));
  protos = λ x. (λ m. out protos_in D x (members.protos-source D x m), λ w. members.protos-listed D x (into protos_in D x w));
  fields = λ x. (λ m. out fields_in D x (members.fields-source D x m), λ w. members.fields-listed D x (into fields_in D x w));
  methods = λ x. (λ m. out methods_in D x (members.methods-source D x m), λ w. members.methods-listed D x (into methods_in D x w));
}

pub returns-clause-closed : goal.returns-clause-closed
returns-clause-closed c = λ D. record {
  type_text = members.type-text D;
  shorty_text = members.proto-shorty D;
  proto_type = members.proto-types D;
  field_class = members.field-class D;
  field_name = members.field-name D;
  field_type = members.field-type D;
  method_class = members.method-class D;
  method_name = members.method-name D;
  method_proto = members.method-proto D;
}
