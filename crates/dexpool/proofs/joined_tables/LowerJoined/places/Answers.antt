use Rattle.dexpool.proofs.Common.{map, sym, refl, subst, Mentions, text_of, Moves}
use Rattle.dexpool.proofs.Pairs.{within_other}
use Rattle.dexpool.proofs.JoinedTables.{part_moves}
use Rattle.dexpool.proofs.joined_tables.LowerJoined.places.Goals as goal

pub index-requires : goal.index-requires
index-requires c = within_other (λ (m : Mentions) image. Moves m.texts c.args.self.now.strings.now.rows.items image) (λ part. part.now) (λ image. image.items) c.args.self.now.parts.now c.args.self.now.strings.now.images.items c.args.part _ c.args.self.now.strings.now.images.ok.0 c.requires.strings.moves c.requires.part

pub index-requires-2 : goal.index-requires-2
index-requires-2 c = within_other (λ (m : Mentions) image. Moves m.types (map (text_of c.args.self.now.strings.now.rows.items) c.args.self.now.types.now.rows.items) image) (λ part. part.now) (λ image. image.items) c.args.self.now.parts.now c.args.self.now.types.now.images.items c.args.part _ c.args.self.now.types.now.images.ok.0 c.requires.types.union.moves c.requires.part

pub returns-clause-strings : goal.returns-clause-strings
returns-clause-strings c = λ part is. subst (Moves part.now.texts c.args.self.now.strings.now.rows.items) (sym c.deref.ensures.value)
    (part_moves (λ (m : Mentions). m.texts) c.args.self.now.strings.now.rows.items c.args.self.now.parts.now c.args.self.now.strings.now.images.items c.args.part part c.index.result.now part.now c.requires.strings.moves c.requires.part is c.index.ensures refl)

pub returns-clause-types : goal.returns-clause-types
returns-clause-types c = λ part is. subst (Moves part.now.types (map (text_of c.args.self.now.strings.now.rows.items) c.args.self.now.types.now.rows.items)) (sym c.deref-2.ensures.value)
    (part_moves (λ (m : Mentions). m.types) (map (text_of c.args.self.now.strings.now.rows.items) c.args.self.now.types.now.rows.items) c.args.self.now.parts.now c.args.self.now.types.now.images.items c.args.part part c.index-2.result.now part.now c.requires.types.union.moves c.requires.part is c.index-2.ensures refl)
