use Rattle.dexmembers.proofs.Common.{◌∷◌, ℕ, subst, FoldsTo, Use, set_uses}
use Rattle.dexpool.specs.declared.symbols.SymbolKind.TheVariants as kinds
use Rattle.dexmembers.proofs.marking.FieldSymbols.visit.Goals as goal

-- a field's symbol
abbrev field_use : ℕ → Use
field_use n = record { kind = kinds.Field; number = n }

pub returns : goal.returns
returns g c =
    let step = g.V.Visitor.step in
    let set = c.args.self.now.annotations in
    let a = c.args.visitor.now in
    let b = c.symbol.new.self in
    let end = c.visit_set.new.visitor in
    subst (λ n. FoldsTo step a (field_use n ∷ set_uses set) end) c.number.ensures (b, c.symbol.ensures, c.visit_set.ensures set c.annotations.ensures)
