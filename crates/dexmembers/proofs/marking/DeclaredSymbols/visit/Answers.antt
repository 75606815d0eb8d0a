use Rattle.dexmembers.proofs.Common.{◌≡◌, ◌++◌, List, sym, ◌∙◌, subst, FoldsTo, flat_map, flat_map-append, Use, visited_both, set_uses}
use Rattle.dexmembers.specs.{field_uses, method_uses}
use Rattle.dexmembers.proofs.marking.DeclaredSymbols.visit.Goals as goal

-- what occurs in two lists, one after the other
uses_of_both : {X : Type 0} (uses : X → List Use) (xs ys xs' ys' : List X) → xs' ≡ xs → ys' ≡ ys → flat_map uses xs' ++ flat_map uses ys' ≡ flat_map uses (xs ++ ys)
uses_of_both uses xs ys xs' ys' p q = (λ i. flat_map uses (p i) ++ flat_map uses (q i)) ∙ sym (flat_map-append uses xs ys)

pub returns : goal.returns
returns g c =
    let step = g.V.Visitor.step in
    let x = c.args.self.now.0.now in
    let own = set_uses x.annotations in
    let statics = flat_map field_uses c.static_fields.result in
    let instances = flat_map field_uses c.instance_fields.result in
    let directs = flat_map method_uses c.direct_methods.result in
    let virtuals = flat_map method_uses c.virtual_methods.result in
    let start = c.args.visitor.now in
    let owned = c.visit_set.new.visitor in
    let first = c.visit.new.visitor in
    let second = c.visit-2.new.visitor in
    let third = c.visit-3.new.visitor in
    let fourth = c.visit-4.new.visitor in
    let fields = subst (λ us. FoldsTo step owned us second) (uses_of_both field_uses x.static_fields x.instance_fields c.static_fields.result c.instance_fields.result c.static_fields.ensures c.instance_fields.ensures)
    (visited_both step owned statics first instances second c.visit.ensures c.visit-2.ensures) in
    let methods = subst (λ us. FoldsTo step second us fourth) (uses_of_both method_uses x.direct_methods x.virtual_methods c.direct_methods.result c.virtual_methods.result c.direct_methods.ensures c.virtual_methods.ensures)
    (visited_both step second directs third virtuals fourth c.visit-3.ensures c.visit-4.ensures) in
    visited_both step start own owned _ fourth (c.visit_set.ensures x.annotations c.annotations.ensures)
    (visited_both step owned _ second _ fourth fields methods)
