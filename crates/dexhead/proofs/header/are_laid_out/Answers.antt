use Rattle.dexhead.proofs.Common.{arith, false, IsTrue, List, [], ◌∷◌}
use Rattle.dexhead.specs.declared.tables.Table.{Table}
use Rattle.dexhead.specs.declared.tables.Table.TheVariants.{StringIds, TypeIds, ProtoIds, FieldIds, MethodIds, ClassDefs}
use Rattle.dexhead.proofs.HeaderChecks.{laid_more, laid_no_more}
use Rattle.dexhead.proofs.header.are_laid_out.Goals as goal

abbrev all : List Table
all = StringIds ∷ TypeIds ∷ ProtoIds ∷ FieldIds ∷ MethodIds ∷ ClassDefs ∷ []

pub returns-in-None : goal.returns-in-None
returns-in-None c = (λ (x : IsTrue false). absurd cc, λ h. absurd (laid_no_more all c.loop-table.table-index StringIds (omega arith) c.loop-table.invariant c.in-None.ensures h))

pub loop-table-preserved : goal.loop-table-preserved
loop-table-preserved c = laid_more all c.loop-table.table-index StringIds (omega arith) c.loop-table.invariant c.in-Some.ensures
