use Rattle.std.proofs.Common.{◌≡◌, ap, sym, subst, ◌∙◌, refl, []}
use Rattle.dexio.proofs.Encoded.{then_given}
use Rattle.dexout.proofs.Given.{last_part}
use Rattle.dexval.specs.Code.{set_of}
use Rattle.dexval.specs.Numbered.{IsKnownSet, set_in}
use Rattle.dexmembers.specs.Borrowed.{ForSet, IsBorrowedSet}
use Rattle.dexlisting.specs.FullListing.{set_lines}
use Rattle.dexlisting.proofs.Declared.{set_shown, set_known}
use Rattle.dexlisting.proofs.values.encode_set.Goals as goal

pub encode_annotation_lines-requires : goal.encode_annotation_lines-requires
encode_annotation_lines-requires g c =
    let m = c.args.numbering.now in
    set_known m c.annotations.result.now (subst (IsKnownSet m) (sym c.annotations.ensures) (subst (λ o. ForSet o (IsKnownSet m)) c.in-Some.is c.requires (set_of c.in-Some.set.now) refl))

pub returns-in-Some : goal.returns-in-Some
returns-in-Some g c = λ is borrowed.
    let m = c.args.numbering.now in
    let same : set_of c.in-Some.set.now ≡ is = subst (λ o. IsBorrowedSet o is) c.in-Some.is borrowed in
    last_part g.O.Output.gives g.met.O.Output.both (set_shown m c.args.blanks.now c.annotations.result.now ∙ ap (λ s. set_lines c.args.blanks.now (set_in m s)) (c.annotations.ensures ∙ same)) c.encode_annotation_lines.ensures

pub returns-in-None : goal.returns-in-None
returns-in-None g c = λ is borrowed.
    let m = c.args.numbering.now in
    let none : is ≡ [] = subst (λ o. IsBorrowedSet o is) c.in-None.is borrowed in
    last_part g.O.Output.gives g.met.O.Output.both (ap (λ s. set_lines c.args.blanks.now (set_in m s)) (sym none)) (g.met.O.Output.nothing c.args.out.now)
