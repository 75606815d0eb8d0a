use Rattle.dexdebug.proofs.Common.{◌≡◌, ℕ, ◌+◌, ◌<◌, ◌^◌, ◌∙◌, Option, Some, None, ap, refl, subst, sym, arith, All, Maps, FitsIndex, HasPlace, image_or_none, number_uses}
use Rattle.dexpool.specs.declared.symbols.SymbolKind.{SymbolKind}
use Rattle.dexdebug.proofs.DebugUses.{image_fits, use_of}
use Rattle.dexdebug.proofs.indices.IndexRenumber.renumber.Goals as goal

pub new-self-requires : goal.new-self-requires
new-self-requires c =
    let r = c.args.remap.now in
    let kind = c.args.self.now.kind in
    subst FitsIndex (ap (image_or_none r kind) (sym c.get.ensures) ∙ sym c.image.ensures ∙ c.in-Some.is) (image_fits r kind c.args.self.now.number c.requires)

pub overflow_cast-image : goal.overflow_cast-image
overflow_cast-image c =
    let r = c.args.remap.now in
    let kind = c.args.self.now.kind in
    let fits : c.in-Some.image + 1 < 2 ^ 32 = subst FitsIndex (ap (image_or_none r kind) (sym c.get.ensures) ∙ sym c.image.ensures ∙ c.in-Some.is) (image_fits r kind c.args.self.now.number c.requires) in
    omega (arith, fits)

none_is_some : {X : Type 0} (x : X) → None ≡ Some x → ⊥
none_is_some x e = absurd cc

-- a number that has a place and no image is none
no_number : (r : Maps) (kind : SymbolKind) (i : Option ℕ) → All (HasPlace r) (number_uses kind i) → image_or_none r kind i ≡ None → i ≡ image_or_none r kind i
no_number r kind None all e = refl
no_number r kind (Some n) all e = let place = use_of (HasPlace r) kind (Some n) n all refl in absurd (none_is_some place.0 (sym e ∙ place.1))

pub returns-in_default : goal.returns-in_default
returns-in_default c =
    let r = c.args.remap.now in
    let kind = c.args.self.now.kind in
    λ i. record { kind = kind; number = (no_number r kind c.args.self.now.number c.requires (ap (image_or_none r kind) (sym c.get.ensures) ∙ sym c.image.ensures ∙ c.in_default.is)) i }
