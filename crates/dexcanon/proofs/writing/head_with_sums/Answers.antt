use Rattle.dexcanon.proofs.Common.{◌≡◌, [], ◌++◌, length, drop, refl, sym, ap, subst, ◌∙◌, arith, sha1, adler_32, adler_number, adler_sums, Head, StatesLayout, after_header, head_bytes, field_bytes, ordered_of, signed_of}
use Rattle.dexcanon.proofs.WholeFile.{length_signed, summed, length_after}
use Rattle.dexcanon.proofs.writing.head_with_sums.Goals as goal

pub overflow_sub-head : goal.overflow_sub-head
overflow_sub-head c = omega (arith, length_after (ordered_of c.args.contents.now.numbering.now c.args.contents.now.classes.now), c.requires.ready.laid.head_states.file_ends, ap (λ (h : Head). h.file_size) c.head-head.ensures)

pub returns-clause-bytes : goal.returns-clause-bytes
unfolding adler_32 field_bytes
returns-clause-bytes c =
    let l = c.head-head.result in
    let K = ordered_of c.args.contents.now.numbering.now c.args.contents.now.classes.now in
    let twenty : length l.signature ≡ 20 = ap (λ (h : Head). length h.signature) c.head-head.ensures ∙ c.requires.ready.laid.signature_length in
    let reports : StatesLayout l K = subst (λ h. StatesLayout h K) (sym c.head-head.ensures) c.requires.ready.laid.head_states in
    let rest = drop 32 (head_bytes l) ++ after_header K in
    let given = c.write_signed-buffer.ensures.given in
    let same : signed_of c.args.contents.now ≡ rest = ap (λ h. drop 32 (head_bytes h) ++ after_header K) (sym c.head-head.ensures) in
    let signature : c.finalize-head.result ≡ sha1 rest = c.finalize-head.ensures _ (given.0 [] c.new.ensures) ∙ ap sha1 same in
    let back : c.value.result ≡ adler_32 rest = c.value.ensures ∙ ap adler_number (given.1 ∙ ap (λ s. adler_sums s (signed_of c.args.contents.now)) c.new-2.ensures ∙ ap (adler_sums (1, 0)) same) in
    let checksum : c.adler_combine.result ≡ adler_32 (c.finalize-head.result ++ rest) = c.adler_combine.ensures c.finalize-head.result rest c.adler-front.ensures back (omega (arith, length_signed l K twenty reports c.fields_law.ensures)) in
    summed _ l K twenty reports refl signature checksum c.sums_law.ensures.reported c.sums_law.ensures.head c.file_law.ensures.set
