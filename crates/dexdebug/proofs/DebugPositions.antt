-- Positions that are found operation by operation.
use Rattle.dexdebug.proofs.Common.{◌≡◌, ℕ, ◌+◌, Bool, true, false, List, [], ◌∷◌, ◌++◌, map, ap, subst, ◌∙◌, append_assoc, ℤ, ◌+ℤ◌, if◌then◌else◌, Operation, unindexed_operation}
use Rattle.dexdebug.specs.Positions as recorded

-- one that is recorded, or none
one_kept : (t : Bool) (found more rest whole : List (ℕ × ℤ)) (p : ℕ × ℤ) → found ++ (if t then p ∷ rest else rest) ≡ whole → more ≡ (if t then found ++ p ∷ [] else found) → more ++ rest ≡ whole
one_kept true found more rest whole p h e = ap (λ xs. xs ++ rest) e ∙ append_assoc found (p ∷ []) rest ∙ h
one_kept false found more rest whole p h e = ap (λ xs. xs ++ rest) e ∙ h

-- an operation more
pub position_more : (ops : List Operation) (op : Operation) (rest : List Operation) (found more whole : List (ℕ × ℤ)) (address a : ℕ) (line l : ℤ) (t : Bool) → ops ≡ op ∷ rest → found ++ recorded.positions_from address line (map unindexed_operation ops) ≡ whole
    → a ≡ address + recorded.address_step (unindexed_operation op) → l ≡ line +ℤ recorded.line_step (unindexed_operation op) → t ≡ recorded.is_special (unindexed_operation op)
    → more ≡ (if t then found ++ (a, l) ∷ [] else found) → more ++ recorded.positions_from a l (map unindexed_operation rest) ≡ whole
position_more ops op rest found more whole address a line l t first h ea el et e =
    let left = recorded.positions_from a l (map unindexed_operation rest) in
    let here : found ++ (if t then (a, l) ∷ left else left) ≡ whole =
    (λ i. found ++ (if et i then (ea i, el i) ∷ recorded.positions_from (ea i) (el i) (map unindexed_operation rest) else recorded.positions_from (ea i) (el i) (map unindexed_operation rest)))
    ∙ subst (λ xs. found ++ recorded.positions_from address line (map unindexed_operation xs) ≡ whole) first h in
    one_kept t found more left whole (a, l) here e
