use Rattle.std.proofs.Common.{◌≡◌, ◌<◌, ◌+◌, ◌^◌, suc, drop, length, false}
use Rattle.std.specs.Fmt.{digits, digits_onto}
use Rattle.dexout.proofs.numbers.encode_hexadecimal.Given as goal

-- the digits after the place are written; there is a place for each digit that is left
abbrev pub invariant-loop-rest : goal.invariant-loop-rest
invariant-loop-rest g l = record {
  len : length l.digits ≡ 8;
  place : l.start < 8;
  written : digits_onto (57 + l.start) 16 false l.rest (drop (l.start + 1) l.digits) ≡ digits 16 false l.number;
  fits : l.rest < 16 ^ suc l.start;
}

abbrev pub decreases-loop-rest : goal.decreases-loop-rest
decreases-loop-rest g l = l.rest
