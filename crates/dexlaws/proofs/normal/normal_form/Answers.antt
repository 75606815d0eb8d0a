use Rattle.dexspec.proofs.Common.{sym, subst}
use Rattle.dexspec.specs.Files.{Denotes}
use Rattle.dexspec.specs.Canonical.{canonical}
use Rattle.dexspec.proofs.determined.OneCollection.{one_collection}
use Rattle.dexspec.proofs.normal.RowsReadable.{whole_normal_form}
use Rattle.dexlaws.proofs.normal.normal_form.Goals as goal

pub returns-clause-accepted : goal.returns-clause-accepted
returns-clause-accepted c = λ K good formed. (whole_normal_form K good formed).accepted

pub returns-clause-denotes : goal.returns-clause-denotes
returns-clause-denotes c = λ K good formed. (whole_normal_form K good formed).denotes

pub returns-clause-one : goal.returns-clause-one
returns-clause-one c = λ K L good formed fine whole same.
    one_collection (canonical K) K L (whole_normal_form K good formed).denotes (subst (λ b. Denotes b L) (sym same) (whole_normal_form L fine whole).denotes)
