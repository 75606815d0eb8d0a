use Rattle.dexids.proofs.Common.{◌∷◌, ℕ, [], refl, sym, subst, ◌∙◌, ap, OrNone, shorty, StringRow, TypeRow, TypeListAt, IsAscii, span_of, letters_of, file_numbers}
use Rattle.dexids.proofs.FirstUnits.{letter_ascii}
use Rattle.dexids.proofs.ReadTables.{shorty_same, is_at_there}
use Rattle.dexids.proofs.protos.ProtoReaderTableReader.row_at.Goals as goal

pub returns-in_default-clause-row : goal.returns-in_default-clause-row
returns-in_default-clause-row c = λ holds. let p = holds.item in let h = holds.is in c.in_default.ensures _ (subst (λ n. StringRow c.args.self.now.names.now.frame.now n (shorty p.return_type p.parameters)) c.indices_at-shorty.ensures.shorty_is h.shorty)

pub returns-in_default-typ-clause-row : goal.returns-in_default-typ-clause-row
returns-in_default-typ-clause-row c = λ holds. let p = holds.item in let h = holds.is in c.in_default-typ.ensures _ (subst (λ n. TypeRow c.args.self.now.names.now.frame.now n p.return_type) c.indices_at-shorty.ensures.return_is h.return_type)

pub returns-in_default-place_at-clause-row : goal.returns-in_default-place_at-clause-row
returns-in_default-place_at-clause-row c = λ holds. let p = holds.item in let h = holds.is in c.in_default-place_at.ensures p.parameters (subst (λ o. OrNone TypeListAt [] c.args.self.now.names.now.frame.now o p.parameters) c.indices_at-shorty.ensures.off_is h.parameters)

pub returns-then-not-has_shorty-clause-row : goal.returns-then-not-has_shorty-clause-row
returns-then-not-has_shorty-clause-row c = λ holds.
    c.if-not-has_shorty.ensures.no refl holds.item.parameters (subst (λ o. OrNone TypeListAt [] c.args.self.now.names.now.frame.now o holds.item.parameters) c.indices_at-shorty.ensures.off_is holds.is.parameters) holds.is.values
    (shorty_same c.args.self.now.names.now.frame.now c.args.i _ _ c.indices_at-shorty.result.2 c.letter.result holds.item c.in-Some.text.now c.in-Some-typ.typ.now c.indices_at-shorty.ensures holds.is c.in-Some.ensures.row c.in-Some-typ.ensures.row c.letter.ensures)

pub has_shorty-requires-clause-letter : goal.has_shorty-requires-clause-letter
has_shorty-requires-clause-letter c = subst IsAscii (sym c.letter.ensures) (letter_ascii c.in-Some-typ.typ.now c.in-Some-typ.ensures.row.descriptor)

pub note-requires-clause-checked : goal.note-requires-clause-checked
note-requires-clause-checked c = c.if-not-has_shorty.ensures.yes refl

pub returns-clause-row : goal.returns-clause-row
returns-clause-row c =
    let checked = c.if-not-has_shorty.ensures.yes refl in
    is_at_there c.args.self.now.names.now.frame.now c.args.self.now.names.now.strings.now c.args.self.now.names.now.types.now c.args.i c.indices_at-shorty.result.2 _ c.in-Some.text.now c.in-Some-typ.typ.now
    c.requires.row c.indices_at-shorty.ensures c.in-Some.ensures c.in-Some-typ.ensures checked.listed
    (c.in-Some.ensures.is ∙ checked.shorty ∙ ap (λ (l : ℕ). l ∷ letters_of c.args.self.now.names.now.strings.now c.args.self.now.names.now.types.now (span_of (file_numbers c.args.self.now.names.now.frame.now) c.in-Some-place_at.span)) c.letter.ensures)
