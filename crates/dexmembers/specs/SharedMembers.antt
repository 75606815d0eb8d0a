-- What the classes of a file have in common memory.
use Rattle.std.specs.Prelude.{ℕ, List}
use Rattle.dexspec.specs.Mentions.{Mentions}
use Rattle.dexval.specs.SharedItems.{AreSharedIn}
use Rattle.dexmembers.specs.declared.shared_members.SharedMembers.{SharedMembers}

-- each set of annotations and each array of static values there is at its offset; of code nothing is said
abbrev pub AreSharedMembers : List ℕ → Mentions → SharedMembers → Type 0
AreSharedMembers b m x = AreSharedIn b m x.items
