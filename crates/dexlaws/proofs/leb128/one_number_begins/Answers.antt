use Rattle.dexspec.proofs.Common.{◌<◌, ◌^◌, FitsSigned, w32}
use Rattle.dexspec.specs.Numbers.{sum_of_groups, signed_sum}
use Rattle.dexspec.proofs.numbers.Spellings.{one_number, one_number_plus_one}
use Rattle.dexlaws.proofs.leb128.one_number_begins.Goals as goal

pub returns : goal.returns
returns c = record { unsigned = one_number sum_of_groups (λ v. v < 2 ^ 32); signed = one_number signed_sum (FitsSigned w32); one_more = one_number_plus_one }
