-- Lines, as the program prints them.
use Rattle.std.proofs.Common.{ℕ, ◌≡◌, refl, List, [], ◌∷◌, ◌++◌}
use Rattle.std.specs.Prelude.{codes}
use Rattle.std.specs.Fmt.{digits}
use Rattle.dexhead.specs.declared.refusal.Refusal.{Refusal}
use Rattle.dexruns.specs.declared.lines.Verdict.TheVariants.{Accepted, Refused}
use Rattle.dexruns.specs.Lines.{check_line, condition_name_by_number, cap_name_by_number}
use Rattle.dexout.specs.Printed.{shown}
use Rattle.dexruns.specs.Digests.{digest_line}
use Rattle.dexruns.specs.Names.{name_in_form}
use Rattle.dexruns.specs.declared.names.NameForm.TheVariants.{Escaped, Null}
use Rattle.dexruns.specs.Counts.{cap_line, number_line}

pub accepted_line : check_line (name_in_form Escaped (codes "a.dex") (codes ": ")) (Accepted 1) ≡ codes "a.dex: ok classes=1\n"
unfolding digits
accepted_line = refl

pub refused_line : check_line (name_in_form Escaped (codes "a.dex") (codes ": ")) (Refused (record { number = 3; place = 38 })) ≡ codes "a.dex: refused 3 Version at 38\n"
unfolding digits condition_name_by_number
refused_line = refl

pub forged_line : check_line (name_in_form Escaped (codes "a\nb\\") (codes ": ")) (Accepted 1) ≡ codes "a\\u000ab\\: ok classes=1\n"
unfolding digits
forged_line = refl

pub null_line : check_line (name_in_form Null (codes "a\nb") (codes ": ")) (Accepted 1) ≡ codes "a\nb\0ok classes=1\n"
unfolding digits
null_line = refl

pub escaped_class : codes "conflict " ++ shown (0x4c ∷ 0x22 ∷ 0xe9 ∷ 0x3b ∷ []) ≡ codes "conflict L\\\"\\u00e9;"
escaped_class = refl

pub counted : cap_line (codes "methods") 65603 65536 ≡ codes "methods 65603 of 65536\n"
unfolding cap_line digits
counted = refl

pub digested : digest_line (name_in_form Escaped (codes "a.dex") (codes "\n")) (0xa9 ∷ 0x09 ∷ []) (codes "LA;") ≡ codes "a909\tLA;\ta.dex\n"
unfolding digest_line
digested = refl
