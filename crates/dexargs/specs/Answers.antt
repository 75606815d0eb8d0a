-- What the calls that read matches return, beside what the definitions say of the matches.
use Rattle.std.specs.Prelude.{◌≡◌, ◌≢◌, Option, Some, None, Result, Ok, Err}
use Rattle.dexargs.specs.declared.words.NoJob.{NoJob}
use Rattle.dexargs.specs.declared.words.NoJob.TheVariants.{Memory}

-- what is asked for, or a fault where there is none; a call that ran out of memory says nothing
abbrev pub Returns : {A B : Type 0} → (A → B) → Option B → Result A NoJob → Type 0
Returns view asked (Ok x) = asked ≡ Some (view x)
Returns view asked (Err fault) = fault ≢ Memory → asked ≡ None
