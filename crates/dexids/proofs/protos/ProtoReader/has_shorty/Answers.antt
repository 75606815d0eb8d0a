use Rattle.dexids.proofs.Common.{refl, sym, subst, ◌∙◌, false≢true, span_of, file_numbers, IsSpelled}
use Rattle.dexids.proofs.SpelledLists.{known_checked, spelled_checked, not_spelled, other_units}
use Rattle.dexids.proofs.protos.ProtoReader.has_shorty.Goals as goal

pub returns-then-known-list-2-clause-yes : goal.returns-then-known-list-2-clause-yes
returns-then-known-list-2-clause-yes c = λ e.
    known_checked c.args.self.now.names.now.frame.now c.args.self.now.names.now.strings.now c.args.self.now.names.now.types.now c.args.off c.in-Some.known.now c.args.list
    (c.requires.lists.checked c.args.off c.in-Some.known.now (sym c.in-Some.ensures.value)) c.requires.placed c.if-known-list.true c.if-known-list-2.true

pub returns-in-Some-ascii-clause-yes : goal.returns-in-Some-ascii-clause-yes
returns-in-Some-ascii-clause-yes c = λ e.
    let part = span_of (file_numbers c.args.self.now.names.now.frame.now) c.args.list.span in
    spelled_checked c.args.self.now.names.now.frame.now c.args.self.now.names.now.strings.now c.args.self.now.names.now.types.now c.args.self.now.letters.now c.requires.reader.names_are c.requires.reader.letters_are c.args.off c.args.list c.in-Some-ascii.units.now part
    c.requires.placed (c.in-Some-ascii.ensures.units ∙ c.requires.text) refl (c.spells.ensures.0 e)

pub returns-in-Some-ascii-clause-no : goal.returns-in-Some-ascii-clause-no
returns-in-Some-ascii-clause-no c = λ e.
    let part = span_of (file_numbers c.args.self.now.names.now.frame.now) c.args.list.span in
    not_spelled c.args.self.now.names.now.frame.now c.args.self.now.names.now.strings.now c.args.self.now.names.now.types.now c.args.self.now.letters.now c.requires.reader.names_are c.requires.reader.letters_are c.args.off c.args.list.letter c.args.list.span c.args.text.now part
    c.requires.placed refl (λ h. false≢true (sym e ∙ c.spells.ensures.1 (subst (λ us. IsSpelled c.args.self.now.letters.now us c.args.list.letter part) (sym c.in-Some-ascii.ensures.units) h)))

pub returns-in-None-clause-no : goal.returns-in-None-clause-no
returns-in-None-clause-no c = λ e. other_units c.args.self.now.names.now.frame.now c.args.off c.args.list.letter c.args.text.now c.requires.letter c.in-None.ensures.other
