use Rattle.dexmembers.proofs.Common.{ℕ, ◌+◌, Some, refl, subst, IsNextIndex, one_uleb128}
use Rattle.dexmembers.specs.internal.EncodedMembers.{HeadAt}
use Rattle.dexmembers.proofs.OneMember.{one_head, no_flags}
use Rattle.dexmembers.proofs.encodings.head_at.Goals as goal

pub returns-in_err-index-clause-only : goal.returns-in_err-index-clause-only
returns-in_err-index-clause-only c = rw c.from_residual-in_err-index.ensures (λ index flags size short h.
    let d = one_uleb128 c.args.bytes.now c.args.at h.difference c.in_ok-difference.difference h.index_size c.in_ok-difference.index_size h.difference_is c.in_ok-difference.ensures.some in
    absurd (c.in_err-index.ensures index short (subst (λ (k : ℕ). IsNextIndex c.args.last k index) d.0 h.next)))

pub returns-in_err-flags-clause-only : goal.returns-in_err-flags-clause-only
returns-in_err-flags-clause-only c = λ index flags size short h.
    absurd (no_flags c.args.bytes.now c.args.at c.args.last c.in_ok-difference.difference c.in_ok-difference.index_size c.in_ok-difference.ensures.some c.in_err-flags.ensures.none index flags size h)

pub returns-clause-only : goal.returns-clause-only
returns-clause-only c = λ index flags size short h.
    let here : HeadAt c.args.bytes.now c.args.at c.args.last c.in_ok-index.index c.in_ok-flags.flags (c.in_ok-difference.index_size + c.in_ok-flags.flags_size) =
    record { difference = c.in_ok-difference.difference; index_size = c.in_ok-difference.index_size; flags_size = c.in_ok-flags.flags_size; difference_is = c.in_ok-difference.ensures.some; next = c.in_ok-index.ensures; flags_is = c.in_ok-flags.ensures.some; size = refl } in
    let same = one_head c.args.bytes.now c.args.at c.args.last c.in_ok-index.index index c.in_ok-flags.flags flags (c.in_ok-difference.index_size + c.in_ok-flags.flags_size) size here h in
    λ i. Some (same.0 i, same.1 i, same.2 i)
