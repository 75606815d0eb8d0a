use Rattle.dexval.proofs.Common.{◌∙◌, sym, Use}
use Rattle.dexval.proofs.FewSymbols.{already, occurs_any}
use Rattle.dexval.specs.FewSymbols.{uses_of}
use Rattle.dexval.proofs.few_symbols.FewSymbolsVisitor.symbol.Goals.{else-self-via-then-self+else-not-has, else-self-via-else-self}
use Rattle.dexval.proofs.few_symbols.FewSymbolsVisitor.symbol.Goals as goal

pub returns-else-self : goal.returns-else-self
returns-else-self c =
    let kept = c.args.self.now.symbols.items in
    let symbol : Use = record { kind = c.args.kind; number = c.args.number } in
    elim c.else-self.branch [
      | else-self-via-then-self+else-not-has w ↦ (λ all. (all, already (uses_of kept) symbol (sym (occurs_any kept c.args.kind c.args.number) ∙ sym w.has.ensures ∙ w.if-not-has.false)))
      | else-self-via-else-self w ↦ (λ all. let off = w.if-self.false in absurd cc)
    ]
