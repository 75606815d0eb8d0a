-- What lists of interfaces are parts of, remapped.
use Rattle.std.specs.Prelude.{◌≡◌, map}
use Rattle.dexpool.specs.Numberings.{Maps}
use Rattle.dexclass.specs.declared.shared_renumbering.Whole.{Whole}
use Rattle.dexclass.specs.Renumbering.{image_or_same}
use Rattle.dexclass.specs.internal.Shared.{shared_in}

-- its images are those of its numbers
abbrev pub IsRemapped : Maps → Whole → Type 0
IsRemapped r whole = shared_in whole.images ≡ map (image_or_same r.types) whole.numbers
