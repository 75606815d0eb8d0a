use Rattle.dexcode.proofs.CodeMeanings.{code_kept}
use Rattle.dexcode.proofs.MeaningRanked.{same_code}
use Rattle.dexcode.proofs.code_laws.code_remapped_law.Goals as goal

pub returns : goal.returns
returns c = record {
  keeps = λ m n r d maps_to. code_kept m n r maps_to d;
  same = λ m n whole r s d e rising first second. same_code m n whole r s rising first second d e;
}
