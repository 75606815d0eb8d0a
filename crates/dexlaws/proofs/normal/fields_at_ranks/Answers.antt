use Rattle.dexspec.proofs.Common.{subst}
use Rattle.dexspec.specs.Rows.{FieldRow}
use Rattle.dexspec.specs.Files.{definitions}
use Rattle.dexspec.specs.Canonical.{canonical}
use Rattle.dexspec.proofs.normal.NormalRows.{field_has_row, field_ranked, only_field, has_field}
use Rattle.dexspec.proofs.normal.NormalForm.{canonical_normal}
use Rattle.dexlaws.proofs.normal.fields_at_ranks.Goals as goal

pub returns-clause-rows : goal.returns-clause-rows
returns-clause-rows c = λ K fits formed i x.
    let n = canonical_normal K fits formed in (
      (λ h. let p = only_field (definitions K) (canonical K) n i x h in record { within = p.0; there = p.1 }),
      (λ h. subst (FieldRow (canonical K) i) h.there (field_has_row (definitions K) (canonical K) n i x h.within)),
    )

pub returns-clause-ranks : goal.returns-clause-ranks
returns-clause-ranks c = λ K fits formed. field_ranked (definitions K) (canonical K) (canonical_normal K fits formed)

pub returns-clause-holds : goal.returns-clause-holds
returns-clause-holds c = λ K fits formed. has_field (definitions K) (canonical K) (canonical_normal K fits formed)
