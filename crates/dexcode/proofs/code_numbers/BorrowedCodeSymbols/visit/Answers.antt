use Rattle.dexcode.proofs.Common.{◌∙◌, ap, sym, subst, option_map, FoldsTo, uses_of, tries_uses}
use Rattle.dexcode.proofs.CodeUses.{visited_with_debug, visited_without_debug}
use Rattle.dexcode.proofs.code_numbers.BorrowedCodeSymbols.visit.Goals as goal

pub returns-in-Some : goal.returns-in-Some
returns-in-Some g c =
    let step = g.V.Visitor.step in
    let pieces = subst (λ x. FoldsTo step c.args.visitor.now (uses_of x.body.pieces) c.visit.new.visitor) c.self.view_is c.visit.ensures in
    let tries = subst (λ x. FoldsTo step c.visit.new.visitor (tries_uses x.tries) c.visit-2.new.visitor) c.self.view_is c.visit-2.ensures in
    let is = sym (ap (λ x. x.debug) c.self.view_is) ∙ ap (option_map (λ debug. debug.now)) c.in-Some.is in
    visited_with_debug step c.args.self.now c.in-Some.debug.now c.args.visitor.now c.visit.new.visitor c.visit-2.new.visitor c.visit-in-Some.new.visitor pieces tries is c.visit-in-Some.ensures

pub returns-in_default : goal.returns-in_default
returns-in_default g c =
    let step = g.V.Visitor.step in
    let pieces = subst (λ x. FoldsTo step c.args.visitor.now (uses_of x.body.pieces) c.visit.new.visitor) c.self.view_is c.visit.ensures in
    let tries = subst (λ x. FoldsTo step c.visit.new.visitor (tries_uses x.tries) c.visit-2.new.visitor) c.self.view_is c.visit-2.ensures in
    visited_without_debug step c.args.self.now c.args.visitor.now c.visit.new.visitor c.visit-2.new.visitor pieces tries (sym (ap (λ x. x.debug) c.self.view_is) ∙ ap (option_map (λ debug. debug.now)) c.in_default.is)
