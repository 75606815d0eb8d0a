use Rattle.dexlayout.proofs.Common.{◌+◌, ◌++◌, drop, methods_of, AreKept, code_items, encode_uses, no_items_from}
use Rattle.dexlayout.proofs.CodeItems.{CodesLeftOf, methods_in_all}
use Rattle.dexlayout.proofs.codes.place_codes.Given as goal

abbrev pub invariant-loop-class : goal.invariant-loop-class
invariant-loop-class l = CodesLeftOf (λ items. AreKept items l.codes) (methods_in_all (drop l.class-index l.input.classes.now)) l.rest (encode_uses 4 (no_items_from l.debugs.end) (code_items (methods_in_all l.input.classes.now) l.debugs.offsets))

-- what is left of a class, and the classes after it
abbrev pub invariant-loop-i : goal.invariant-loop-i
invariant-loop-i l = CodesLeftOf (λ items. AreKept items l.codes) (drop l.i (methods_of l.members ++ methods_in_all (drop (l.class-index + 1) l.input.classes.now))) (drop l.i l.rest) (encode_uses 4 (no_items_from l.debugs.end) (code_items (methods_in_all l.input.classes.now) l.debugs.offsets))
