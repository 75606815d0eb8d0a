use Rattle.dexmembers.proofs.Common.{◌≡◌, ◌<◌, ℕ, All, IfSome, map, take}
use Rattle.dexmembers.specs.internal.Attaching.{EntriesRise, held_field}
use Rattle.dexmembers.proofs.attaching.attach_fields.Given as goal

abbrev pub invariant-loop-field : goal.invariant-loop-field
invariant-loop-field l = record {
  done : EntriesRise l.sets → l.fields.items ≡ map (held_field l.sets) (take l.field-index l.listed);
  held : (limit : ℕ) → All (λ e. e.1 < limit) l.sets → All (λ f. IfSome f.set (λ place. place < limit)) l.fields.items;
}
