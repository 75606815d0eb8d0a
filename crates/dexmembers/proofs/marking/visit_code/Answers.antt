use Rattle.dexmembers.proofs.Common.{◌≡◌, append-nil, option_to_list, Option, Some, sym, subst, FoldsTo, flat_map, NumberedItem, item_uses}
use Rattle.dexmembers.specs.{IsBorrowedCode}
use Rattle.dexmembers.proofs.marking.visit_code.Goals as goal

pub returns-in-Some : goal.returns-in-Some
returns-in-Some g c = λ visited is.
    let step = g.V.Visitor.step in
    let a = c.args.visitor.now in
    let end = c.visit.new.visitor in
    let here : visited ≡ Some c.in-Some.code = subst (λ (o : Option NumberedItem). IsBorrowedCode o visited) c.in-Some.is is in
    subst (λ (o : Option NumberedItem). FoldsTo step a (flat_map item_uses (option_to_list o)) end) (sym here)
    (subst (λ us. FoldsTo step a us end) (sym (append-nil (item_uses c.in-Some.code))) c.visit.ensures)
