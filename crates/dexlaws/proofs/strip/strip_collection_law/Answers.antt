use Rattle.dexspec.proofs.strip.StripCollection.{definitions-strip_collection, get-strip_collection, strip_collection-is, strip_collection-of, keys-strip_collection, strip_collection-twice}
use Rattle.dexlaws.proofs.strip.strip_collection_law.Goals as goal

pub returns-clause-whole : goal.returns-clause-whole
returns-clause-whole c = λ K. record {
  is = strip_collection-is K;
  in_order = definitions-strip_collection K;
  names = keys-strip_collection K;
  found = get-strip_collection K;
  twice = strip_collection-twice K;
}

pub returns-clause-listed : goal.returns-clause-listed
returns-clause-listed c = strip_collection-of
