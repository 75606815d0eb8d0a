use Rattle.dexmembers.proofs.Common.{refl, set_in, values_in}
use Rattle.dexmembers.proofs.Images.{members_images}
use Rattle.dexmembers.proofs.RenumberingKept.{SetsKeep, ValuesKeep, CodesKeep, members_keep, order_kept, class_kept}
use Rattle.dexmembers.proofs.laws.members_remapped_law.Goals as goal

pub returns : goal.returns
returns c = record {
  keeps = λ m n r x maps_to remapped known.
      let sets : SetsKeep m n r = λ xs go is. let encodes = c.renumber_law.ensures.set m n r xs (set_in m xs) maps_to go (record { known = is; means = refl }) in (encodes.known, encodes.means) in
      let values : ValuesKeep m n r = λ xs go is. let are_encoded = c.renumber_law.ensures.values m n r xs (values_in m xs) maps_to go (record { known = is; mean = refl }) in (are_encoded.known, are_encoded.mean) in
      let codes : CodesKeep m n r = λ code go is. c.code_remapped_law.ensures.keeps m n r code maps_to go is in
      members_keep m n r x maps_to sets codes values (members_images r (c.code_kept_law.ensures.code r) x remapped) known;
  order = λ m n r x maps_to remapped. order_kept m n r x maps_to (members_images r (c.code_kept_law.ensures.code r) x remapped);
  class = λ m n r name x maps_to remapped. class_kept m n r name x maps_to (members_images r (c.code_kept_law.ensures.code r) x remapped);
}
