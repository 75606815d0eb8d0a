use Rattle.dexinsn.proofs.Common.{ℕ, ◌*◌, ◌/◌, ◌%◌, ◌^◌, set, subst, sym, ◌↔◌, bit_or, from_bool, get_or_read, HasBit}
use Rattle.dexinsn.proofs.StartBits.{bit_is_put, others_kept}
use Rattle.dexinsn.proofs.start_bits.put_bit.Goals as goal

pub returns-clause-set : goal.returns-clause-set
returns-clause-set c = λ put.
    let words = c.args.words.now.items in
    let word : ℕ = c.args.unit / 64 in
    subst (λ (m : ℕ). HasBit (set words word (bit_or c.index_mut.result.now (m * 2 ^ (c.args.unit % 64) % 2 ^ 64))) c.args.unit) (sym c.from.ensures)
    (subst (λ (w : ℕ). HasBit (set words word (bit_or w (from_bool c.args.bit * 2 ^ (c.args.unit % 64) % 2 ^ 64))) c.args.unit) (sym (get_or_read words word c.index_mut.result.now c.requires c.index_mut.ensures.value 0)) (bit_is_put words c.args.unit c.args.bit c.requires put))

pub returns-clause-others : goal.returns-clause-others
returns-clause-others c = λ k other.
    let words = c.args.words.now.items in
    let word : ℕ = c.args.unit / 64 in
    subst (λ (m : ℕ). HasBit (set words word (bit_or c.index_mut.result.now (m * 2 ^ (c.args.unit % 64) % 2 ^ 64))) k ↔ HasBit words k) (sym c.from.ensures)
    (subst (λ (w : ℕ). HasBit (set words word (bit_or w (from_bool c.args.bit * 2 ^ (c.args.unit % 64) % 2 ^ 64))) k ↔ HasBit words k) (sym (get_or_read words word c.index_mut.result.now c.requires c.index_mut.ensures.value 0)) (others_kept words c.args.unit k c.args.bit c.requires other))
