use Rattle.dexdebug.proofs.DebugMeanings.{debug_kept}
use Rattle.dexdebug.proofs.DebugRanked.{same_debug}
use Rattle.dexdebug.proofs.debug_laws.debug_remapped_law.Goals as goal

pub returns : goal.returns
returns c = record {
  keeps = λ m n r d maps_to images known. debug_kept m n r maps_to d images;
  same = λ m n whole r s d e rising first second images images' known known'. same_debug m n whole r s rising first second d e images images';
}
