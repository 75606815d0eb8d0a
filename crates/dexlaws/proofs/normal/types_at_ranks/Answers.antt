use Rattle.dexspec.proofs.Common.{subst}
use Rattle.dexspec.specs.Rows.{TypeRow}
use Rattle.dexspec.specs.Files.{definitions}
use Rattle.dexspec.specs.Canonical.{canonical}
use Rattle.dexspec.proofs.normal.NormalRows.{type_encoded, type_ranked, only_type, has_type}
use Rattle.dexspec.proofs.normal.NormalForm.{canonical_normal}
use Rattle.dexlaws.proofs.normal.types_at_ranks.Goals as goal

pub returns-clause-rows : goal.returns-clause-rows
returns-clause-rows c = λ K fits formed i x.
    let n = canonical_normal K fits formed in (
      (λ h. let p = only_type (definitions K) (canonical K) n i x h in record { within = p.0; there = p.1 }),
      (λ h. subst (TypeRow (canonical K) i) h.there (type_encoded (definitions K) (canonical K) n i x h.within)),
    )

pub returns-clause-ranks : goal.returns-clause-ranks
returns-clause-ranks c = λ K fits formed. type_ranked (definitions K) (canonical K) (canonical_normal K fits formed)

pub returns-clause-holds : goal.returns-clause-holds
returns-clause-holds c = λ K fits formed. has_type (definitions K) (canonical K) (canonical_normal K fits formed)
