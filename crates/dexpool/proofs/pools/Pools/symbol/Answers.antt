use Rattle.dexpool.proofs.Common.{sym, subst, ◌∙◌, arith, IsProtoEntry, IsFieldRow, IsMethodRow}
use Rattle.dexpool.proofs.KindCounts.{text_in, type_in, proto_in, field_in, method_in}
use Rattle.dexpool.proofs.pools.Pools.symbol.Goals as goal

pub index-requires : goal.index-requires
index-requires c = omega (arith, text_in c.tables-tables.result.now c.args.self.now (c.tables-tables.ensures.symbols ∙ c.self.view_is) c.args.kind c.args.i c.requires c.in-Text.is)

pub type_name-requires-clause-row : goal.type_name-requires-clause-row
type_name-requires-clause-row c = type_in c.tables-tables.result.now c.args.self.now (c.tables-tables.ensures.symbols ∙ c.self.view_is) c.args.kind c.args.i c.requires c.in-Typ.is

pub index-requires-in-Proto : goal.index-requires-in-Proto
index-requires-in-Proto c = omega (arith, proto_in c.tables-tables.result.now c.args.self.now (c.tables-tables.ensures.symbols ∙ c.self.view_is) c.args.kind c.args.i c.requires c.in-Proto.is)

pub index-requires-in-Field : goal.index-requires-in-Field
index-requires-in-Field c = omega (arith, field_in c.tables-tables.result.now c.args.self.now (c.tables-tables.ensures.symbols ∙ c.self.view_is) c.args.kind c.args.i c.requires c.in-Field.is)

pub index-requires-in-Method : goal.index-requires-in-Method
index-requires-in-Method c = omega (arith, method_in c.tables-tables.result.now c.args.self.now (c.tables-tables.ensures.symbols ∙ c.self.view_is) c.args.kind c.args.i c.requires c.in-Method.is)

pub proto-requires-clause-row : goal.proto-requires-clause-row
proto-requires-clause-row c = subst (IsProtoEntry c.tables-tables.result.now) (sym c.index-in-Proto.ensures) (c.tables-tables.ensures.tables.protos_at_ranks c.args.i c.index-in-Proto.result.now
    (proto_in c.tables-tables.result.now c.args.self.now (c.tables-tables.ensures.symbols ∙ c.self.view_is) c.args.kind c.args.i c.requires c.in-Proto.is))

pub field-requires-clause-row : goal.field-requires-clause-row
field-requires-clause-row c = subst (IsFieldRow c.tables-tables.result.now) (sym c.index-in-Field.ensures) (c.tables-tables.ensures.tables.fields_at_ranks c.args.i c.index-in-Field.result.now
    (field_in c.tables-tables.result.now c.args.self.now (c.tables-tables.ensures.symbols ∙ c.self.view_is) c.args.kind c.args.i c.requires c.in-Field.is))

pub method-requires-clause-row : goal.method-requires-clause-row
method-requires-clause-row c = subst (IsMethodRow c.tables-tables.result.now) (sym c.index-in-Method.ensures) (c.tables-tables.ensures.tables.methods_at_ranks c.args.i c.index-in-Method.result.now
    (method_in c.tables-tables.result.now c.args.self.now (c.tables-tables.ensures.symbols ∙ c.self.view_is) c.args.kind c.args.i c.requires c.in-Method.is))
