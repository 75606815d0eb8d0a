-- What the lines of a report are about.
use Rattle.std.proofs.Common.{◌≡◌, ℕ, List, [], ◌∷◌, ◌++◌, sym, subst}
use Rattle.std.specs.List.{AllZip}
use Rattle.dexcmd.specs.declared.outcome_report.LineKind.{LineKind}
use Rattle.dexcmd.specs.Reports.{IsLineOf}
use Rattle.dexcmd.proofs.Named.{zip_push}

-- a line more
pub kind_more : (lines more : List (List ℕ)) (kinds others : List LineKind) (line : List ℕ) (kind : LineKind) → more ≡ lines ++ line ∷ [] → others ≡ kinds ++ kind ∷ [] →
    AllZip IsLineOf lines kinds → IsLineOf line kind → AllZip IsLineOf more others
kind_more lines more kinds others line kind are are_kinds all here =
    subst (λ l. AllZip IsLineOf l others) (sym are) (subst (AllZip IsLineOf (lines ++ line ∷ [])) (sym are_kinds) (zip_push IsLineOf lines kinds line kind all here))
