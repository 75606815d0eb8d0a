use Rattle.dexids.proofs.Common.{sym, subst, ◌∙◌, false≢true, HasField, StringRow, TypeRow, IsClass, IsMemberName, IsValueType, field_of}
use Rattle.std.specs.Prelude.{MatchOption}
use Rattle.dexids.specs.internal.FileRows.{IsFileField}
use Rattle.dexids.proofs.Tested.{by_test}
use Rattle.dexids.proofs.ReadTables.{formed_field}
use Rattle.dexids.proofs.members.field_at.Goals as goal

pub returns-in_err-class-clause-field : goal.returns-in_err-class-clause-field
returns-in_err-class-clause-field c = rw c.from_residual.ensures (λ holds. let f = holds.item in let h = holds.is in c.in_err-class.ensures f.class (subst (λ n. TypeRow c.args.names.now.frame.now n f.class) c.field_numbers-field.ensures.class h.class))

pub returns-in_err-typ-clause-field : goal.returns-in_err-typ-clause-field
returns-in_err-typ-clause-field c = rw c.from_residual-in_err-typ.ensures (λ holds. let f = holds.item in let h = holds.is in c.in_err-typ.ensures f.type (subst (λ n. TypeRow c.args.names.now.frame.now n f.type) c.field_numbers-field.ensures.type h.type))

pub returns-in_err-name-clause-field : goal.returns-in_err-name-clause-field
returns-in_err-name-clause-field c = rw c.from_residual-in_err-name.ensures (λ holds. let f = holds.item in let h = holds.is in c.in_err-name.ensures f.name (subst (λ n. StringRow c.args.names.now.frame.now n f.name) c.field_numbers-field.ensures.name h.name))

pub returns-clause-field : goal.returns-clause-field
returns-clause-field c =
    let b = c.args.names.now.frame.now in
    let of = field_of c.args.names.now.strings.now c.args.names.now.types.now c.field_numbers-field.result in
    let n = c.field_numbers-field.ensures in
    let class = c.in_ok-class.ensures in
    let type = c.in_ok-typ.ensures in
    let name = c.in_ok-name.ensures in
    by_test (λ r. MatchOption r (HasField b c.args.i → ⊥) (IsFileField c.args.names.now c.args.i)) c.field_numbers-field.result c.is_field.result c.then_some.result c.then_some.ensures
    (λ yes.
    let formed = c.is_field.ensures.field.0 yes in
    record {
      numbers = n;
      is = record {
        row = c.requires.row;
        class = subst (λ k. TypeRow b k of.class) (sym n.class) (subst (TypeRow b c.field_numbers-field.result.class) class.is class.row);
        type = subst (λ k. TypeRow b k of.type) (sym n.type) (subst (TypeRow b c.field_numbers-field.result.typ) type.is type.row);
        name = subst (λ k. StringRow b k of.name) (sym n.name) (subst (StringRow b c.field_numbers-field.result.name) name.is name.row);
        formed = record { class = subst IsClass class.is formed.class; name = subst IsMemberName name.is formed.name; type = subst IsValueType type.is formed.type };
      };
    })
    (λ no holds. let f = holds.item in let h = holds.is in false≢true (sym no ∙ c.is_field.ensures.field.1 (formed_field b c.args.i c.field_numbers-field.result f _ _ _ n h class.row name.row type.row)))
