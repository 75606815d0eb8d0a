use Rattle.dexpool.proofs.Common.{◌≡◌, ℕ, List, map, drop, get_or, slice_cmp, text_cmp}
use Rattle.dexpool.proofs.numbering.Numbering.compare_types.Given as goal

abbrev pub invariant-loop-i : goal.invariant-loop-i
invariant-loop-i l = (d : List ℕ) → slice_cmp text_cmp (map (λ n. get_or l.self.types n d) (drop l.i l.numbers)) (drop l.i l.descriptors) ≡ slice_cmp text_cmp (map (λ n. get_or l.self.types n d) l.numbers) l.descriptors
