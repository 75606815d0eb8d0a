use Rattle.std.specs.Cmp.{unsigned_Decides}
use Rattle.std.specs.Prelude.{IsTrue}
use Rattle.dexdebug.proofs.Common.{◌≡◌, ap, sym, subst, ◌∙◌, arith, pointwise_decides, option_decides, numbers_in, stored_debug}
use Rattle.dexdebug.proofs.SameBytes.{AreSame, same_stored}
use Rattle.dexdebug.proofs.debug.Debug.has_same_bytes.Goals as goal

pub returns-then-eq : goal.returns-then-eq
returns-then-eq c = λ t.
    let d = c.self.inside in
    let e = c.other.inside in
    let line : d.line_start ≡ e.line_start = omega (arith, c.if-self-other.false) in
    let names : d.names ≡ e.names = omega (arith, c.if-self-other-2.false) in
    let count : d.count ≡ e.count = omega (arith, c.if-self-other-3.false) in
    let bytes : AreSame d.bytes.now d.at e.bytes.now e.at d.weight = sym c.window-mine.ensures ∙ (pointwise_decides unsigned_Decides _ _).0 (subst IsTrue c.eq.ensures c.if-eq.true) ∙ c.window-others.ensures in
    let numbers : numbers_in d.indices.items ≡ numbers_in e.indices.items =
    ap numbers_in (sym c.deref.ensures.value) ∙ (pointwise_decides option_decides _ _).0 (subst IsTrue c.equal_names.ensures t) ∙ ap numbers_in c.deref-then-eq.ensures.value in
    sym c.self.view_is ∙ same_stored d.line_start d.names d.count d.bytes.now d.at d.indices.items c.self.invariant.1 d.weight c.self.invariant.2 e.bytes.now e.at e.indices.items bytes numbers
    ∙ (λ i. stored_debug (line i) (names i) (count i) e.bytes.now e.at e.indices.items) ∙ c.other.view_is
