-- The command line of the program is one of which clap's definitions say each match and each refusal.
use Rattle.std.proofs.Common.{◌≡◌, true, refl}
use Rattle.clap.specs.Simple.{is_simple}
use Rattle.clap.specs.Faults.{is_simple_and_free}
use Rattle.dexargs.specs.CommandLine.{program_app}

pub program_is_simple : is_simple program_app ≡ true
program_is_simple = refl

pub program_is_free : is_simple_and_free program_app ≡ true
program_is_free = refl
