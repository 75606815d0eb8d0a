use Rattle.dexclass.proofs.Common.{map, take, drop, sym, ap, subst, ◌∙◌, take-map, drop-map}
use Rattle.dexclass.specs.{definition_of}
use Rattle.dexclass.specs.internal.Parts.{AreGoodClasses}
use Rattle.dexclass.proofs.PartsOf.{prefix_good, back_good, trimmed_good}
use Rattle.dexclass.proofs.parts.Parts.split_off.Goals as goal

pub trim-requires : goal.trim-requires
trim-requires c = (subst (AreGoodClasses c.self.inside.numbering) (sym c.in_ok-classes.ensures.tail) (back_good c.self.inside.numbering c.self.inside.classes.items c.self.invariant c.args.at)).known

pub invariant_of-self-in_err-numbering : goal.invariant_of-self-in_err-numbering
invariant_of-self-in_err-numbering c = subst (AreGoodClasses c.self.inside.numbering) (sym c.in_ok-classes.ensures.items) (prefix_good c.self.inside.numbering c.self.inside.classes.items c.self.invariant c.args.at)

pub invariant_of-self-2 : goal.invariant_of-self-2
invariant_of-self-2 c = subst (AreGoodClasses c.self.inside.numbering) (sym c.in_ok-classes.ensures.items) (prefix_good c.self.inside.numbering c.self.inside.classes.items c.self.invariant c.args.at)

pub invariant_of-result : goal.invariant_of-result
invariant_of-result c =
    trimmed_good c.self.inside.numbering c.in_ok-classes.classes.items
    (subst (AreGoodClasses c.self.inside.numbering) (sym c.in_ok-classes.ensures.tail) (back_good c.self.inside.numbering c.self.inside.classes.items c.self.invariant c.args.at)) c.in_ok-numbering.numbering c.trim.new.classes.items c.in_ok-numbering.ensures

pub returns-clause-left : goal.returns-clause-left
returns-clause-left c =
    let f = definition_of c.self.inside.numbering in
    ap (map f) c.in_ok-classes.ensures.items ∙ sym (take-map f c.args.at c.self.inside.classes.items) ∙ ap (take c.args.at) c.self.view_is

pub returns-clause-part : goal.returns-clause-part
returns-clause-part c =
    let f = definition_of c.self.inside.numbering in
    c.in_ok-numbering.ensures.same ∙ ap (map f) c.in_ok-classes.ensures.tail ∙ sym (drop-map f c.args.at c.self.inside.classes.items) ∙ ap (drop c.args.at) c.self.view_is
