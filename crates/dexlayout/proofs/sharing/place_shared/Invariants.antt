use Rattle.dexlayout.proofs.Common.{◌≡◌, take, numbers_offsets}
use Rattle.dexlayout.proofs.sharing.place_shared.Given as goal

abbrev pub invariant-loop-number : goal.invariant-loop-number
invariant-loop-number l = l.offsets.items ≡ numbers_offsets (take l.number-index l.numbers) l.written.offsets
