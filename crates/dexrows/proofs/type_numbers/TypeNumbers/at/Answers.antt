use Rattle.dexrows.proofs.Common.{◌≡◌, ◌<◌, ◌∙◌, ◌+◌, ◌*◌, ◌/◌, ℕ, List, length, slice_index, sym, ap, subst, arith, ushort_at, length-ushorts_at}
use Rattle.dexrows.specs.Listed.{numbers_in}
use Rattle.dexrows.proofs.Shorts.{short_of}
use Rattle.dexrows.proofs.type_numbers.TypeNumbers.at.Goals as goal

pub word_at-requires : goal.word_at-requires
word_at-requires c = subst (λ (ns : List ℕ). c.args.place < length ns) (sym c.self.view_is ∙ ap numbers_in c.in-Words.is) c.requires

pub returns-in-Words : goal.returns-in-Words
returns-in-Words c = c.word_at.ensures ∙ ap (λ (ns : List ℕ). slice_index ns c.args.place) (sym (ap numbers_in c.in-Words.is) ∙ c.self.view_is)

pub short_at-requires : goal.short_at-requires
short_at-requires c =
    omega (arith, subst (λ (ns : List ℕ). c.args.place < length ns) (sym c.self.view_is ∙ ap numbers_in c.in-Shorts.is) c.requires, length-ushorts_at c.in-Shorts.bytes.now 0 (length c.in-Shorts.bytes.now / 2))

pub returns-in-Shorts : goal.returns-in-Shorts
returns-in-Shorts c =
    let b = c.in-Shorts.bytes.now in
    let lt = subst (λ (ns : List ℕ). c.args.place < length ns) (sym c.self.view_is ∙ ap numbers_in c.in-Shorts.is) c.requires in
    let first : 2 * c.args.place ≡ 0 + 2 * c.args.place = omega arith in
    c.short_at.ensures ∙ ap (ushort_at b) first ∙ sym (short_of b 0 (length b / 2) c.args.place 0 (omega (arith, lt, length-ushorts_at b 0 (length b / 2)))) ∙ ap (λ (ns : List ℕ). slice_index ns c.args.place) (sym (ap numbers_in c.in-Shorts.is) ∙ c.self.view_is)
