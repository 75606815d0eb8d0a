use Rattle.dexval.proofs.Common.{◌≡◌, take, map, set_of, set_at, lists_of_members}
use Rattle.dexval.proofs.directory.SharedDirectory.unshared.Given as goal

abbrev pub invariant-loop-member : goal.invariant-loop-member
invariant-loop-member l = lists_of_members l.self.table (take l.member-index l.self.parameters.items) ≡ map (λ e. (e.0, map set_of e.1.items)) l.parameters.items

abbrev pub invariant-loop-place : goal.invariant-loop-place
invariant-loop-place l = map set_of l.sets.items ≡ map (set_at l.self.table.sets) (take l.place-index l.places)
