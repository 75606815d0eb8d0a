use Rattle.dexexamples.proofs.Common.{refl, sha1, digest_bytes, hash_after, compress, rounds, schedule, first_words, bytes_of, uint, adler_32, with_sums}
use Rattle.dexexamples.proofs.files.sums.Goals as goal

pub returns-clause-word : goal.returns-clause-word
unfolding sha1 digest_bytes hash_after compress rounds schedule first_words
returns-clause-word c = refl

pub returns-clause-file : goal.returns-clause-file
unfolding with_sums adler_32 uint bytes_of sha1 digest_bytes hash_after compress rounds schedule first_words
returns-clause-file c = refl
