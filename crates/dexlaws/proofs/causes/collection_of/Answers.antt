use Rattle.dexspec.specs.Texts.{text_cmp}
use Rattle.dexspec.specs.Files.{definitions}
use Rattle.dexspec.proofs.merge.SymbolOrders.{text_total}
use Rattle.dexspec.proofs.lists.InOrder.{rises-from_Rises, AreDistinct-from_Rises}
use Rattle.dexspec.proofs.merge.Depths.{names_in}
use Rattle.dexspec.proofs.merge.Collections.{collection-is, collection-one, collection-consistent, names-rise, definitions-are, definitions-same, definitions-distinct, definitions-weigh_most}
use Rattle.dexlaws.proofs.causes.collection_of.Goals as goal

pub returns : goal.returns
returns c = record {
  is = collection-is;
  one = collection-one;
  members = λ D K h. record {
    members = definitions-same D K h;
    rise = rises-from_Rises text_cmp (names_in (definitions K)) (names-rise K);
    names = AreDistinct-from_Rises text_cmp text_total (names_in (definitions K)) (names-rise K);
    distinct = definitions-distinct K;
    most = definitions-weigh_most D K h;
  };
  consistent = collection-consistent;
  own = definitions-are;
}
