use Rattle.std.specs.Prelude.{◌/◌}
use Rattle.dexclass.proofs.Common.{◌≡◌, length, ap, sym, ◌∙◌, length-ushorts_at}
use Rattle.dexclass.specs.internal.Shared.{shared_in}
use Rattle.dexclass.proofs.list_parts.SharedNumbers.len.Goals as goal

pub returns-in-Shorts : goal.returns-in-Shorts
returns-in-Shorts c =
    let bytes = c.in-Shorts.bytes.value.items in
    let many : c.len.result ≡ length bytes = search in
    ap (λ n. n / 2) many ∙ sym (length-ushorts_at bytes 0 (length bytes / 2)) ∙ ap (λ numbers. length (shared_in numbers)) (sym c.in-Shorts.is)
