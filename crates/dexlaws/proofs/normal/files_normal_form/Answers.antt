use Rattle.dexspec.proofs.Common.{ap, sym, subst}
use Rattle.dexspec.specs.Files.{Denotes}
use Rattle.dexspec.specs.Canonical.{canonical}
use Rattle.dexspec.proofs.determined.OneCollection.{one_collection}
use Rattle.dexspec.proofs.wellformed.ShortStrings.{denoted_good}
use Rattle.dexspec.proofs.wellformed.FormedCode.{denoted_well_formed}
use Rattle.dexspec.proofs.normal.RowsReadable.{whole_normal_form}
use Rattle.dexlaws.proofs.normal.files_normal_form.Goals as goal

pub returns : goal.returns
returns c = record {
  accepted = λ b K bytes accepted denotes. (whole_normal_form K (denoted_good b bytes accepted K denotes) (denoted_well_formed b bytes accepted K denotes)).accepted;
  denotes = λ b K bytes accepted denotes. (whole_normal_form K (denoted_good b bytes accepted K denotes) (denoted_well_formed b bytes accepted K denotes)).denotes;
  same = λ a b K L a_bytes a_accepted a_denotes b_bytes b_accepted b_denotes.
      let of_a = whole_normal_form K (denoted_good a a_bytes a_accepted K a_denotes) (denoted_well_formed a a_bytes a_accepted K a_denotes) in
      let of_b = whole_normal_form L (denoted_good b b_bytes b_accepted L b_denotes) (denoted_well_formed b b_bytes b_accepted L b_denotes) in (
        (λ same. one_collection (canonical K) K L of_a.denotes (subst (λ x. Denotes x L) (sym same) of_b.denotes)),
        (λ same. ap canonical same),
      );
  twice = λ b K L bytes accepted denotes again.
      let normal = whole_normal_form K (denoted_good b bytes accepted K denotes) (denoted_well_formed b bytes accepted K denotes) in
      ap canonical (one_collection (canonical K) L K again normal.denotes);
}
