use Rattle.dexval.proofs.Common.{◌∙◌, List, ap, sym, subst, FoldsTo, Value, values_of, values_uses}
use Rattle.std.specs.Prelude.{◌||◌}
use Rattle.dexpool.specs.Uses.{occurs}
use Rattle.dexval.proofs.FewSymbols.{step, all_kept}
use Rattle.dexval.specs.FewSymbols.{uses_of}
use Rattle.dexval.proofs.weighed_values.few_symbols.Goals as goal

pub returns-then-are_all : goal.returns-then-are_all
returns-then-are_all c =
    let none = c.none-few.result in
    let few = c.visit_values.new.visitor in
    let us = values_uses (values_of c.args.values.now.items) in
    let visits = subst (λ (xs : List Value). FoldsTo step none (values_uses (values_of xs)) few) c.deref.ensures.value c.visit_values.ensures in
    let kept = all_kept us none few visits (sym c.are_all.ensures ∙ c.if-are_all.true) in
    λ kind i. kept.1 kind i ∙ ap (λ xs. occurs (uses_of xs) kind i || occurs us kind i) c.none-few.ensures
