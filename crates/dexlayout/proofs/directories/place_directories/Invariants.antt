use Rattle.dexlayout.proofs.Common.{drop, directory_items, encode_uses, no_items_from}
use Rattle.dexlayout.proofs.SetDirectories.{DirectoriesLeft}
use Rattle.dexlayout.proofs.directories.place_directories.Given as goal

abbrev pub invariant-loop-i : goal.invariant-loop-i
invariant-loop-i l = DirectoriesLeft l.items (drop l.i l.classes) (drop l.i l.own) l.fields l.methods l.lists (encode_uses 4 (no_items_from l.from) (directory_items l.classes l.own l.initial.fields l.initial.methods l.initial.lists))
