use Rattle.dexmembers.proofs.Common.{◌∷◌, ◌++◌, ℕ, List, option_to_list, subst, FoldsTo, flat_map, Use, visited_both, NumberedSet, set_uses, item_uses}
use Rattle.dexpool.specs.declared.symbols.SymbolKind.TheVariants as kinds
use Rattle.dexmembers.proofs.marking.MethodSymbols.visit.Goals as goal

-- a method's symbol
abbrev method_use : ℕ → Use
method_use n = record { kind = kinds.Method; number = n }

pub returns : goal.returns
returns g c =
    let step = g.V.Visitor.step in
    let x = c.args.self.now in
    let code = flat_map item_uses (option_to_list x.code) in
    let own = set_uses x.annotations in
    let list = flat_map set_uses x.parameter_annotations in
    let a = c.args.visitor.now in
    let b = c.symbol.new.self in
    let d = c.visit_code.new.visitor in
    let e = c.visit_set.new.visitor in
    let end = c.visit.new.visitor in
    let sets = subst (λ (l : List NumberedSet). FoldsTo step e (flat_map set_uses l) end) c.parameter_annotations.ensures c.visit.ensures in
    let both = visited_both step d own e list end (c.visit_set.ensures x.annotations c.annotations.ensures) sets in
    subst (λ n. FoldsTo step a (method_use n ∷ (code ++ (own ++ list))) end) c.number.ensures
    (b, c.symbol.ensures, visited_both step b code d (own ++ list) end (c.visit_code.ensures x.code c.code.ensures) both)
