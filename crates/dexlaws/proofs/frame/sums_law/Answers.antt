use Rattle.dexspec.proofs.layout.Sums.{with_sums_magic, with_sums_version, with_sums_checksum, with_sums_signature}
use Rattle.dexlaws.proofs.frame.sums_law.Goals as goal

pub returns : goal.returns
returns c = record { magic = with_sums_magic; version = with_sums_version; checksum = with_sums_checksum; signature = with_sums_signature }
