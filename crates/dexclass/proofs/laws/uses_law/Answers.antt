use Rattle.dexclass.proofs.Common.{members_uses, AllZip, Mentions, symbols_of, IsUseOf, members_in, members_symbols, type_at}
use Rattle.dexclass.specs.{type_numbers, text_numbers, NumberedClass, definition_of, class_uses, IsKnownClass}
use Rattle.dexclass.proofs.OwnUses.{own_marks, own_zip}
use Rattle.dexclass.proofs.laws.uses_law.Goals as goal

-- they go together, where those of what it declares do
pub class_zip : (m : Mentions) (c : NumberedClass) → IsKnownClass m c → AllZip (IsUseOf m) (members_uses c.members) (members_symbols (type_at m c.name) (members_in m c.members)) → AllZip (IsUseOf m) (class_uses c) (symbols_of (definition_of m c))
unfolding symbols_of
class_zip m c known rest = own_zip m (members_uses c.members) (members_symbols (type_at m c.name) (members_in m c.members)) rest c.interfaces c.source known.texts_in c.name c.superclass known.types_in

pub returns-clause-uses : goal.returns-clause-uses
returns-clause-uses c = λ m class rising known. class_zip m class known (c.members_uses_law.ensures.uses m (type_at m class.name) class.members rising known.members_known known.members_own)

pub returns-clause-marks : goal.returns-clause-marks
returns-clause-marks c = λ m marks class are known.
    own_marks m marks (type_numbers class) (text_numbers class) (members_uses class.members) are known.types_in known.texts_in (c.members_uses_law.ensures.marks m marks class.members are known.members_known)
