use Rattle.dexmerge.proofs.JoinedPlaces.{places_by}
use Rattle.dexmerge.proofs.class_union.places_law.Goals as goal

pub returns : goal.returns
returns c = λ m K r x part known has. places_by c.joined_places_law.ensures.images c.members_joined_law.ensures c.renumbering_law.ensures.same c.renumbering_law.ensures.all m K r part x known has
