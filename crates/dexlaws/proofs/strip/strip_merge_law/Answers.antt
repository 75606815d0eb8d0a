use Rattle.dexspec.proofs.Common.{map, sym, subst}
use Rattle.dexspec.specs.Files.{definitions}
use Rattle.dexspec.specs.Merging.{IsGood, union}
use Rattle.dexspec.proofs.strip.StripGood.{IsGood-strip}
use Rattle.dexspec.proofs.strip.StripCollection.{union-strip_collection, merged-strip_collection, merged_one-strip_collection}
use Rattle.dexlaws.proofs.strip.strip_merge_law.Goals as goal

pub returns : goal.returns
returns c = λ caps Ks plan K h. record {
  parts = union-strip_collection Ks plan;
  good = λ g. subst (IsGood caps) (sym (union-strip_collection Ks plan)) (IsGood-strip (union (map definitions Ks) plan) caps g);
  is = merged-strip_collection Ks plan K h;
  alone = λ L l. merged_one-strip_collection Ks plan K L h l;
}
