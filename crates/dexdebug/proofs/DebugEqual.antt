-- Debug programs that are equal are the same.
use Rattle.dexdebug.proofs.Common.{◌≡◌, ◌==◌, ◌&&◌, Bool, ap, pointwise, pointwise_decides, option_eq, Operation, NumberedDebug, same_debug, both, option_decides}
use Rattle.std.specs.Bool.{Decides}
use Rattle.std.specs.Cmp.{unsigned_Decides, first_so, second_so}

pub debug_decides : (operation : Operation → Operation → Bool) → ((x y : Operation) → Decides (operation x y) (x ≡ y)) → (d e : NumberedDebug) → Decides (same_debug operation d e) (d ≡ e)
debug_decides operation operations_decided d e =
    let start = d.line_start == e.line_start in
    let names = pointwise (option_eq ◌==◌) d.parameter_names e.parameter_names in
    let operations = pointwise operation d.operations e.operations in
    let names_decided = pointwise_decides option_decides d.parameter_names e.parameter_names in
    let decided = pointwise_decides operations_decided d.operations e.operations in (
      λ t. let front = first_so (start && names) operations t in
          λ i. record {
            line_start = ((unsigned_Decides d.line_start e.line_start).0 (first_so start names front)) i;
            parameter_names = (names_decided.0 (second_so start names front)) i;
            operations = (decided.0 (second_so (start && names) operations t)) i;
          },
      λ p. both (start && names) operations
          (both start names ((unsigned_Decides d.line_start e.line_start).1 (ap (λ x. x.line_start) p)) (names_decided.1 (ap (λ x. x.parameter_names) p)))
          (decided.1 (ap (λ x. x.operations) p)),
    )
