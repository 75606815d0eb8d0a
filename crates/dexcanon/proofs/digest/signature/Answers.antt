use Rattle.dexcanon.proofs.Common.{[], take, drop, ap, ◌∙◌, ordered_of}
use Rattle.dexcanon.proofs.Digested.{signed_is}
use Rattle.dexcanon.proofs.digest.signature.Goals as goal

pub returns : goal.returns
returns c =
    let contents = c.of-contents.result in
    let laid = c.of-contents.ensures.ready.laid in
    signed_is contents.layout.now.head (ordered_of contents.numbering.now contents.classes.now) laid.signature_length laid.head_states c.sums_law.ensures.head c.file_law.ensures.set c.finalize.result
    (c.finalize.ensures _ (c.write_signed-buffer.ensures.given [] c.new.ensures))
    ∙ ap (λ z. take 20 (drop 12 z)) c.of-contents.ensures.whole
