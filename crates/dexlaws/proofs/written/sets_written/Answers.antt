use Rattle.dexspec.proofs.written.SetsWritten.{set_written, ref_list_written}
use Rattle.dexlaws.proofs.written.sets_written.Goals as goal

pub returns : goal.returns
returns c = record { set = λ b o offs set short. set_written b short o offs set; ref_list = λ b o offs list short. ref_list_written b short o offs list }
