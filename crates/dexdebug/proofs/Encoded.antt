-- The parts of a debug program, written one after the other.
use Rattle.dexdebug.proofs.Common.{◌≡◌, ℕ, List, [], ◌∷◌, ◌++◌, length, ap, ◌∙◌, append_assoc, flat_map, uleb128, uleb128p1, NumberedDebug, numbered_operation_bytes, numbered_debug_bytes}

pub regrouped : (r n t s : List ℕ) → (r ++ (n ++ t)) ++ s ≡ r ++ (n ++ (t ++ s))
regrouped r n t s = append_assoc r (n ++ t) s ∙ ap (λ bs. r ++ bs) (append_assoc n t s)

-- the parts of a debug program one after the other
pub debug_given : {O : Type 0} (gives : List ℕ → O → O → Type 0) (both : (x y : List ℕ) (a b c : O) → gives x a b → gives y b c → gives (x ++ y) a c) (d : NumberedDebug) (a b c e f g : O)
    → gives (uleb128 d.line_start) a b → gives (uleb128 (length d.parameter_names)) b c → gives (flat_map uleb128p1 d.parameter_names) c e → gives (flat_map numbered_operation_bytes d.operations) e f → gives (0x00 ∷ []) f g → gives (numbered_debug_bytes d) a g
unfolding numbered_debug_bytes
debug_given gives both d a b c e f g start count names operations end =
    both (uleb128 d.line_start) _ a b g start (both (uleb128 (length d.parameter_names)) _ b c g count (both (flat_map uleb128p1 d.parameter_names) _ c e g names (both (flat_map numbered_operation_bytes d.operations) (0x00 ∷ []) e f g operations end)))
