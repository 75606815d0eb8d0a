use Rattle.dexspec.proofs.determined.OneDebug.{one_operation, one_optional_text, one_optional_type}
use Rattle.dexlaws.proofs.items.debug.operation_is_determined.Goals as goal

pub returns : goal.returns
returns c = record { operation = one_operation; text = one_optional_text; descriptor = one_optional_type }
