use Rattle.dexinsn.proofs.Common.{◌≡◌, ℕ, ◌+◌, drop, get_or, slice_index, ap, sym, ◌∙◌, arith, option_map, option_and_then, get_or-drop, Opcode, opcode_of, low_byte, kind_of_pool}
use Rattle.dexinsn.proofs.IndexRoom.{pool_of_first}
use Rattle.dexinsn.proofs.instruction.kind_at.Goals as goal

pub returns : goal.returns
returns c =
    let z : c.args.unit + 0 ≡ c.args.unit = omega arith in
    let op : c.opcode_in.result ≡ low_byte (slice_index (drop c.args.unit c.args.units.now) 0) = c.opcode_in.ensures ∙ ap low_byte (c.at.ensures.is ∙ (sym (get_or-drop c.args.unit c.args.units.now 0 0 ∙ ap (λ (k : ℕ). get_or c.args.units.now k 0) z))) in
    c.index_kind.ensures ∙ ap (option_map kind_of_pool) (ap (λ (n : ℕ). option_and_then (λ (o : Opcode). o.index) (opcode_of n)) op ∙ sym (pool_of_first (drop c.args.unit c.args.units.now)))
