use Rattle.dexlayout.proofs.Common.{◌+◌, ◌++◌, drop, methods_of, code_items, encode_uses, no_items_from}
use Rattle.dexlayout.proofs.CodeItems.{CodesLeftOf, methods_in_all}
use Rattle.dexlayout.proofs.EncodedUses.{IsGiven}
use Rattle.dexlayout.proofs.codes.encode_codes.Given as goal

abbrev pub invariant-loop-class : goal.invariant-loop-class
invariant-loop-class g l = CodesLeftOf (IsGiven g.O.Output.gives l.fn.out l.at l.out) (methods_in_all (drop l.class-index l.classes)) l.rest (encode_uses 4 (no_items_from l.debugs.end) (code_items (methods_in_all l.classes) l.debugs.offsets))

-- what is left of a class, and the classes after it
abbrev pub invariant-loop-i : goal.invariant-loop-i
invariant-loop-i g l = CodesLeftOf (IsGiven g.O.Output.gives l.fn.out l.at l.out) (drop l.i (methods_of l.members ++ methods_in_all (drop (l.class-index + 1) l.classes))) (drop l.i l.rest) (encode_uses 4 (no_items_from l.debugs.end) (code_items (methods_in_all l.classes) l.debugs.offsets))
