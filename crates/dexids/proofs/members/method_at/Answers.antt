use Rattle.dexids.proofs.Common.{sym, subst, ◌∙◌, arith, false≢true, HasMethod, StringRow, TypeRow, file_numbers}
use Rattle.std.specs.Prelude.{MatchOption}
use Rattle.dexids.specs.internal.FileRows.{IsFileMethod}
use Rattle.dexids.proofs.Tested.{by_test}
use Rattle.dexids.proofs.ReadTables.{method_names, no_proto_row, method_has_row}
use Rattle.dexids.proofs.members.method_at.Goals as goal

pub returns-in_err-class-clause-method : goal.returns-in_err-class-clause-method
returns-in_err-class-clause-method c = rw c.from_residual.ensures (λ holds. let m = holds.item in let h = holds.is in c.in_err-class.ensures m.class (subst (λ n. TypeRow c.args.names.now.frame.now n m.class) c.method_numbers-method.ensures.class h.class))

pub returns-in_err-name-clause-method : goal.returns-in_err-name-clause-method
returns-in_err-name-clause-method c = rw c.from_residual-in_err-name.ensures (λ holds. let m = holds.item in let h = holds.is in c.in_err-name.ensures m.name (subst (λ n. StringRow c.args.names.now.frame.now n m.name) c.method_numbers-method.ensures.name h.name))

pub returns-then-protos-method-clause-method : goal.returns-then-protos-method-clause-method
returns-then-protos-method-clause-method c = λ holds.
    no_proto_row c.args.names.now.frame.now c.args.names.now.strings.now c.args.names.now.types.now (file_numbers c.args.names.now.frame.now) c.args.protos.now c.args.i c.method_numbers-method.result holds.item
    c.requires.protos c.method_numbers-method.ensures (omega (arith, c.if-protos-method.true)) holds.is

pub returns-clause-method : goal.returns-clause-method
returns-clause-method c =
    by_test (λ r. MatchOption r (HasMethod c.args.names.now.frame.now c.args.i → ⊥) (IsFileMethod c.args.names.now c.args.protos.now c.args.i)) c.method_numbers-method.result c.is_method.result c.then_some.result c.then_some.ensures
    (λ yes. method_has_row c.args.names.now.strings.now c.args.names.now.types.now (file_numbers c.args.names.now.frame.now) c.args.protos.now c.args.names.now.frame.now c.args.i c.method_numbers-method.result
    c.in_ok-class.class.now c.in_ok-name.name.now c.requires.row c.requires.protos c.method_numbers-method.ensures c.in_ok-class.ensures c.in_ok-name.ensures
    (omega (arith, c.if-protos-method.false)) (c.is_method.ensures.method.0 yes))
    (λ no holds. let m = holds.item in let h = holds.is in false≢true (sym no ∙ c.is_method.ensures.method.1 (method_names c.args.names.now.frame.now c.args.i c.method_numbers-method.result m _ _ c.method_numbers-method.ensures h c.in_ok-class.ensures.row c.in_ok-name.ensures.row)))
