-- The lines of debug operations, one by one.
use Rattle.std.proofs.Common.{ℕ, ℤ, ◌≡◌, ◌+◌, ◌+ℤ◌, List, ◌∷◌, ◌++◌, map, ap, sym, ◌∙◌}
use Rattle.dexspec.specs.Mentions.{Mentions}
use Rattle.dexdebug.specs.declared.debug_operation.Operation.{Operation}
use Rattle.dexdebug.specs.Meaning.{operation_in}
use Rattle.dexdebug.specs.Positions.{address_step, line_step}
use Rattle.dexlisting.specs.FullListing.{operation_line, operation_lines}

-- the line of the first operation, and those of the others
pub operation_next : (m : Mentions) (iter : List Operation) (op : Operation) (next : List Operation) (a b : ℕ) (l k : ℤ) → iter ≡ op ∷ next
    → b ≡ a + address_step (operation_in m op) → k ≡ l +ℤ line_step (operation_in m op)
    → operation_lines a l (map (operation_in m) iter) ≡ operation_line b k (operation_in m op) ++ operation_lines b k (map (operation_in m) next)
operation_next m iter op next a b l k steps address line =
    let x = operation_in m op in
    let xs = map (operation_in m) next in
    ap (λ ops. operation_lines a l (map (operation_in m) ops)) steps
    ∙ ap (λ n. operation_line n (l +ℤ line_step x) x ++ operation_lines n (l +ℤ line_step x) xs) (sym address)
    ∙ ap (λ z. operation_line b z x ++ operation_lines b z xs) (sym line)
