use Rattle.dexspec.proofs.Common.{subst}
use Rattle.dexspec.specs.Rows.{ProtoRow}
use Rattle.dexspec.specs.Files.{definitions}
use Rattle.dexspec.specs.Canonical.{canonical}
use Rattle.dexspec.proofs.normal.NormalRows.{proto_has_row, proto_ranked, only_proto, has_proto}
use Rattle.dexspec.proofs.normal.NormalForm.{canonical_normal}
use Rattle.dexlaws.proofs.normal.protos_at_ranks.Goals as goal

pub returns-clause-rows : goal.returns-clause-rows
returns-clause-rows c = λ K fits formed i x.
    let n = canonical_normal K fits formed in (
      (λ h. let p = only_proto (definitions K) (canonical K) n i x h in record { within = p.0; there = p.1 }),
      (λ h. subst (ProtoRow (canonical K) i) h.there (proto_has_row (definitions K) (canonical K) n i x h.within)),
    )

pub returns-clause-ranks : goal.returns-clause-ranks
returns-clause-ranks c = λ K fits formed. proto_ranked (definitions K) (canonical K) (canonical_normal K fits formed)

pub returns-clause-holds : goal.returns-clause-holds
returns-clause-holds c = λ K fits formed. has_proto (definitions K) (canonical K) (canonical_normal K fits formed)
