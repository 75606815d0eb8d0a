-- Whether arguments ask for more on each fault. This project's rule.
use Rattle.std.specs.Prelude.{ℕ, Bool, false, true, List, [], ◌∷◌, if◌then◌else◌, codes}
use Rattle.std.specs.Str.{bytes_eq}
use Rattle.dexargs.specs.Lists.{is_separator}

-- one of the arguments is `--verbose`, before `--`
abbrev pub is_verbose : List (List ℕ) → Bool
is_verbose [] = false
is_verbose (argument ∷ arguments) =
    if is_separator argument then false else if bytes_eq argument (codes "--verbose") then true
    else is_verbose arguments
