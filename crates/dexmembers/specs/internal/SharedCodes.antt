-- Code and debug programs that several lists have in common memory.
use Rattle.std.specs.Prelude.{List, map}
use Rattle.dexcode.specs.Numbered.{NumberedItem}
use Rattle.dexdebug.specs.Debug.{NumberedDebug}
use Rattle.dexpool.specs.Sharing.{shared_in}
use Rattle.dexpool.specs.declared.sharing.SharedItem.{SharedItem}
use Rattle.dexmembers.specs.declared.code_list.StoredCode.{StoredCode}

-- the debug program
abbrev pub debug_in : SharedItem NumberedDebug → NumberedDebug
debug_in x = shared_in (λ debug. debug) x

-- the code
abbrev pub code_in : SharedItem NumberedItem → NumberedItem
code_in x = shared_in (λ code. code) x

-- the debug programs of a list
abbrev pub debugs_in : List (SharedItem NumberedDebug) → List NumberedDebug
debugs_in xs = map debug_in xs

-- code as it is stored in memory of its own
abbrev pub stored_with : StoredCode (SharedItem NumberedItem) → StoredCode NumberedItem
stored_with x = record { code = code_in x.code; debug = x.debug }

-- all code of a list so
abbrev pub stored_in : List (StoredCode (SharedItem NumberedItem)) → List (StoredCode NumberedItem)
stored_in xs = map stored_with xs
