use Rattle.dexcanon.proofs.Common.{◌≡◌, ◌≤◌, ◌+◌, ◌++◌, length, arith, ap, ◌∙◌, vec_len, vec_capacity, length-append, with_sums_set, after_header, head_bytes, ordered_in}
use Rattle.dexcanon.proofs.WholeFile.{written_over, length_after}
use Rattle.dexcanon.proofs.writing.whole_file.Goals as goal
use Rattle.dexcanon.proofs.writing.whole_file.Goals.{After-deref_mut}

-- the file before its sums
unsummed : (c : After-deref_mut) → c.encode_body.new.out.items ≡ head_bytes c.args.contents.now.layout.now.head ++ after_header (ordered_in c.args.contents.now)
unsummed c =
    let rest = after_header (ordered_in c.args.contents.now) in
    let puts = c.in_ok-put.ensures.puts in
    let room : vec_len c.put.new.out + length rest ≤ vec_capacity c.put.new.out =
    omega (arith, length_after (ordered_in c.args.contents.now), c.requires.laid.head_states.file_ends, c.len.ensures, c.in_ok-file.ensures.capacity, c.in_ok-file.ensures.len, puts.len, puts.capacity, c.in_ok-put.ensures.len) in
    let head : c.put.new.out.items ≡ head_bytes c.args.contents.now.layout.now.head = puts.ok ∙ ap (λ z. z ++ head_bytes c.head.result) c.in_ok-file.ensures.items ∙ ap head_bytes c.head.ensures in
    (c.encode_body.ensures room).items ∙ ap (λ z. z ++ rest) head

pub set_sums-requires : goal.set_sums-requires
set_sums-requires c =
    omega (arith, ap (λ z. length z) (c.deref_mut.ensures.value ∙ unsummed c), length-append (head_bytes c.args.contents.now.layout.now.head) (after_header (ordered_in c.args.contents.now)), ap (λ h. length (head_bytes h)) c.head.ensures, c.in_ok-put.ensures.len)

pub returns : goal.returns
returns c =
    written_over c.encode_body.new.out.len c.set_sums.new.file c.encode_body.new.out.items (omega (arith, c.set_sums.auto.file, ap (λ z. length z) c.deref_mut.ensures.value)) (omega (arith, c.encode_body.new.out.ok.0))
    ∙ c.set_sums.ensures ∙ ap with_sums_set (c.deref_mut.ensures.value ∙ unsummed (goal.at.returns c).After-deref_mut)
    ∙ c.file_law.ensures.set c.args.contents.now.layout.now.head (ordered_in c.args.contents.now) c.requires.laid.signature_length c.requires.laid.head_states
