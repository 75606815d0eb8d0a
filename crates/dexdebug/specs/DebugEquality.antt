-- Debug programs that are the same are equal and have equal hashes, where this holds of operations.
use Rattle.std.specs.Prelude.{◌≡◌, ◌==◌, ◌&&◌, ◌++◌, Bool, IsTrue}
use Rattle.std.proofs.lemmas.Cmp.{on_equiv, and_equiv, lists_equiv, nat_eq_equiv}
use Rattle.std.specs.Cmp.{IsEquivalence, decided, unsigned_Decides}
use Rattle.std.specs.Cmp.Lexicographic.{pointwise}
use Rattle.std.specs.Hash as fed
use Rattle.std.specs.Option.{option_eq}
use Rattle.dexdebug.specs.declared.debug_operation.Operation.{Operation}
use Rattle.dexdebug.specs.Debug.{NumberedDebug}
use Rattle.dexdebug.specs.Equality.{option_decides}

-- whether two debug programs are the same, by a test of operations
abbrev pub same_debug : (Operation → Operation → Bool) → NumberedDebug → NumberedDebug → Bool
same_debug operation d e =
    d.line_start == e.line_start && pointwise (option_eq ◌==◌) d.parameter_names e.parameter_names
    && pointwise operation d.operations e.operations

-- what a hasher is fed
abbrev pub debug_input : (Operation → fed.HashWrites) → NumberedDebug → fed.HashWrites
debug_input operation d =
    fed.u32 d.line_start ++ fed.slice (fed.option fed.u32) d.parameter_names ++ fed.slice operation d.operations

pub debug_equiv : {operation : Operation → Operation → Bool} → IsEquivalence operation
    → IsEquivalence (same_debug operation)
debug_equiv equiv = and_equiv
    (and_equiv (on_equiv (λ (d : NumberedDebug). d.line_start) nat_eq_equiv)
    (on_equiv (λ (d : NumberedDebug). d.parameter_names) (lists_equiv (decided (option_eq ◌==◌) option_decides))))
    (on_equiv (λ (d : NumberedDebug). d.operations) (lists_equiv equiv))

module _ (operation : Operation → Operation → Bool) (input : Operation → fed.HashWrites)
    (fed_alike : (x y : Operation) → IsTrue (operation x y) → input x ≡ input y) where
  pub debugs_equal : (d e : NumberedDebug) → IsTrue (same_debug operation d e)
      → debug_input input d ≡ debug_input input e
  debugs_equal = (fed.and-Alike
      (fed.and-Alike (fed.on_Alike (λ (d : NumberedDebug). d.line_start) (fed.same_Alike fed.u32 unsigned_Decides))
      (fed.on_Alike (λ (d : NumberedDebug). d.parameter_names)
      (fed.items_Alike (fed.same_Alike (fed.option fed.u32) option_decides))))
      (fed.on_Alike (λ (d : NumberedDebug). d.operations)
      (fed.items_Alike {E = operation} {F = input} (record { fed = fed_alike })))).fed
