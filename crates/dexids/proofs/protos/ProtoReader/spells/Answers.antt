use Rattle.dexids.proofs.Common.{ℕ, List, ap, sym, subst, ◌∙◌, arith, ◌-◌, ◌∷◌, length, get_or, take, drop, drop_more, take_all, length-drop, span_of, HasSpan, file_numbers}
use Rattle.dexids.proofs.Spellings.{span_letters, part_letters, these_spelled, spelled_after}
use Rattle.dexids.proofs.protos.ProtoReader.spells.Goals as goal

pub of-requires-clause-ordered : goal.of-requires-clause-ordered
of-requires-clause-ordered c = c.requires.span.ordered

pub of-requires-clause-within : goal.of-requires-clause-within
of-requires-clause-within c =
    (subst (λ (found : List ℕ). HasSpan found c.args.list.span) (sym (c.deref.ensures.value ∙ (rw c.in-Some.is at c.requires.lists.letters_are))) (span_letters c.args.self.now.letters.now (file_numbers c.args.self.now.names.now.frame.now) c.args.list.span c.requires.span)).within

pub returns-in-Some : goal.returns-in-Some
returns-in-Some c =
    let letters = c.args.self.now.letters.now in
    let units = c.args.units.now in
    let numbers = file_numbers c.args.self.now.names.now.frame.now in
    let ns = span_of numbers c.args.list.span in
    let found = c.of.ensures ∙ ap (λ (found : List ℕ). span_of found c.args.list.span) (c.deref.ensures.value ∙ (rw c.in-Some.is at c.requires.lists.letters_are)) ∙ part_letters letters numbers c.args.list.span in
    let rest = take (length units - 1) (drop 1 units) in
    let whole = drop_more units 0 0 (omega (arith, c.in-len1-up.len_at_least)) ∙ ap (λ (us : List ℕ). get_or units 0 0 ∷ us) (sym (take_all (length units - 1) (drop 1 units) (omega (arith, length-drop 1 units)))) in
    spelled_after letters units rest ns (get_or units 0 0) c.args.list.letter whole (sym c.from.ensures ∙ c.if-from-list.false) c.are_these.result
    (these_spelled letters rest ns c.of.result.now found c.are_these.result c.are_these.ensures)
