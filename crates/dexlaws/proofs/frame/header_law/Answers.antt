use Rattle.dexspec.proofs.layout.PlainHeaders.{opened}
use Rattle.dexspec.proofs.layout.Sums.{with_sums_magic, with_sums_version, with_sums_checksum, with_sums_signature}
use Rattle.dexlaws.specs.{opening}
use Rattle.dexlaws.proofs.frame.header_law.Goals as goal

pub returns : goal.returns
returns c = λ size tail is least most.
    let h = opened size tail is least most in
    record {
      bytes = h.bytes;
      magic = with_sums_magic (opening size tail);
      version = with_sums_version (opening size tail);
      lengths = h.lengths;
      endian = h.endian;
      link = h.link;
      checksum = with_sums_checksum (opening size tail);
      signature = with_sums_signature (opening size tail);
    }
