use Rattle.dexspec.proofs.Common.{subst}
use Rattle.dexspec.specs.Classes.{Definition, ClassRow}
use Rattle.dexspec.specs.Files.{definitions}
use Rattle.dexspec.specs.Conditions.{Condition}
use Rattle.dexspec.specs.Canonical.{canonical}
use Rattle.dexspec.proofs.normal.NormalClasses.{has_class}
use Rattle.dexspec.proofs.normal.NormalForm.{some_class, class_row_is, only_class, canonical_all_normal}
use Rattle.dexspec.proofs.normal.RowsReadable.{items_right, whole_normal_form}
use Rattle.dexlaws.proofs.normal.classes_at_ranks.Goals as goal

pub returns : goal.returns
returns c = record {
  holds = λ K good formed r lt. has_class (definitions K) (canonical K) (canonical_all_normal K good formed) r some_class lt;
  rows = λ K good formed r d.
      let n = canonical_all_normal K good formed in
      let items = items_right K good formed in (
        (λ h. let p = only_class (definitions K) (canonical K) n items r d h in record { within = p.0; there = p.1 }),
        (λ h. subst (λ (x : Definition). ClassRow (canonical K) r x.0 x.1) h.there (class_row_is (definitions K) (canonical K) n items r d h.within)),
      );
  readable = λ K good formed. (items_right K good formed).readable;
  weight = λ K good formed. (whole_normal_form K good formed).accepted Condition.Weight;
}
