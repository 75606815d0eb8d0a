use Rattle.dexhead.proofs.Common.{◌∙◌}
use Rattle.dexhead.proofs.Overwritten.{sums_set, checksum_set, signature_set}
use Rattle.dexhead.proofs.sums.set_sums.Goals as goal
use borrow.Rule.Slice.PartMut.{put_mid}

pub returns : goal.returns
returns c =
    let signature = c.copy_from_slice.new.self in
    let checksum = c.copy_from_slice-2.new.self in
    let g = put_mid 12 20 c.args.file.now signature in
    sums_set c.args.file.now g (put_mid 8 4 g checksum) c.requires (signature_set c.args.file.now signature (c.copy_from_slice.ensures.after ∙ c.digest-signature.ensures))
    (checksum_set g checksum c.adler-checksum.result (c.copy_from_slice-2.ensures.after ∙ c.to_le_bytes.ensures) c.adler-checksum.ensures)
