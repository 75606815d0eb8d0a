use Rattle.std.proofs.Common.{◌≡◌, ◌++◌, length, string_bytes}
use Rattle.std.specs.Str.{IsUtf8}
use Rattle.dexruns.specs.Names.{escaped_name}
use Rattle.dexruns.proofs.names.push_escaped.Given as goal

-- the text with what is left of the name is the text with the name
abbrev pub invariant-loop-place : goal.invariant-loop-place
invariant-loop-place l = record {
  printed : string_bytes l.text ++ escaped_name l.rest ≡ string_bytes l.fn.text ++ escaped_name l.fn.name;
  text : IsUtf8 l.rest;
}

abbrev pub decreases-loop-place : goal.decreases-loop-place
decreases-loop-place l = length l.rest
