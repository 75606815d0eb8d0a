-- What some words ask for, by the definitions: these compute.
use Rattle.std.proofs.Common.{◌≡◌, List, [], ◌∷◌, Some, None, refl, codes, true, false}
use Rattle.clap.specs.Walk.{Text}
use Rattle.clap.specs.declared.error.kind.ErrorKind.TheVariants.{DisplayHelp, MissingSubcommand, UnknownArgument, ValueValidation}
use Rattle.clap.proofs.OnLiterals.{clap_on_literals}
use Rattle.dexspec.specs.Merging.{greatest_caps}
use Rattle.dexargs.specs.declared.lists.Ending.TheVariants.{Line, Null}
use Rattle.dexargs.specs.declared.words.Placing.TheVariants.{InPlace, Atomic}
use Rattle.dexargs.specs.Asked.{Check, Diff, Merge, Normalise, asked, refusal}

merged : asked Line (codes "merge" ∷ codes "-o" ∷ codes "out" ∷ codes "--fan" ∷ codes "4" ∷ codes "--strip" ∷ codes "a" ∷ codes "b" ∷ [])
    ≡ Some (Merge (codes "out") InPlace (Some 4) greatest_caps true (codes "a" ∷ codes "b" ∷ []))
unfolding clap_on_literals
merged = refl

normalised : asked Line (codes "normalize" ∷ codes "a" ∷ codes "b" ∷ codes "--atomic" ∷ []) ≡ Some (Normalise (codes "a") (codes "b") Atomic)
unfolding clap_on_literals
normalised = refl

compared : asked Line (codes "diff" ∷ codes "--to" ∷ codes "c" ∷ codes "--from" ∷ codes "a" ∷ codes "b" ∷ []) ≡ Some (Diff 2 false (codes "a" ∷ codes "b" ∷ codes "c" ∷ []))
unfolding clap_on_literals
compared = refl

checked : asked Null (codes "check" ∷ codes "-z" ∷ codes "--" ∷ codes "--verbose" ∷ []) ≡ Some (Check Null (codes "--verbose" ∷ []))
unfolding clap_on_literals
checked = refl

moved : refusal Line (codes "repair" ∷ codes "a" ∷ codes "-" ∷ codes "--atomic" ∷ []) ≡ ValueValidation ∷ []
unfolding clap_on_literals
moved = refl

unknown : refusal Line (codes "check" ∷ codes "--strip" ∷ codes "a" ∷ []) ≡ UnknownArgument ∷ []
unfolding clap_on_literals
unknown = refl

no_command : refusal Line [] ≡ MissingSubcommand ∷ []
unfolding clap_on_literals
no_command = refl

helped : refusal Line (codes "--help" ∷ []) ≡ DisplayHelp ∷ []
unfolding clap_on_literals
helped = refl
