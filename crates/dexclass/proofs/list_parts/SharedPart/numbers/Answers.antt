use Rattle.std.specs.Prelude.{◌/◌}
use Rattle.dexclass.proofs.Common.{◌≡◌, length, ap, ◌∙◌, arith, length-ushorts_at}
use Rattle.dexclass.specs.internal.Shared.{shared_in}
use Rattle.dexclass.proofs.list_parts.SharedPart.numbers.Goals as goal

pub shorts_between-requires-clause-within : goal.shorts_between-requires-clause-within
shorts_between-requires-clause-within c =
    let bytes = c.in-Shorts.bytes.value.items in
    let many = ap (λ numbers. length (shared_in numbers)) c.in-Shorts.is ∙ length-ushorts_at bytes 0 (length bytes / 2) in
    let all : length c.deref-in-Shorts.result.now ≡ length bytes = search in
    omega (arith, c.self.invariant.1, many, all)
