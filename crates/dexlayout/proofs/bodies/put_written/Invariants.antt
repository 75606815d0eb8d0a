use Rattle.dexlayout.proofs.Common.{◌≡◌, map, drop, Some, encode_uses, encoded_debugs}
use Rattle.dexlayout.proofs.bodies.put_written.Given as goal

-- encoding what is left gives the whole
abbrev pub invariant-loop-key : goal.invariant-loop-key
invariant-loop-key l = encode_uses 1 l.items (map Some (drop l.key-index l.written)) ≡ encoded_debugs l.fn.from l.written
