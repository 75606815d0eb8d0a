use Rattle.dexmembers.proofs.Common.{◌≡◌, None}
use Rattle.dexmembers.specs.internal.EncodedMembers.{IsListRead, last_index}
use Rattle.dexmembers.proofs.encoded_lists.ClassReader.read_list.Given as goal

abbrev pub invariant-loop : goal.invariant-loop
invariant-loop g l = record {
  read : IsListRead (g.T.Encoded.encodes l.self.pools.now l.self.class) g.T.Encoded.index_of l.self.bytes.now l.at l.counter l.members.items l.size;
  last : l.last ≡ last_index g.T.Encoded.index_of None l.members.items;
}
