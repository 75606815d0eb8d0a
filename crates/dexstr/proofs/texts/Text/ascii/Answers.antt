use Rattle.dexstr.proofs.Common.{◌≡◌, sym, ◌∙◌, All, IfSome, IfNone, eq-eqb, eqb-true, false≢true}
use Rattle.dexstr.specs.Units.{IsAscii}
use Rattle.dexstr.proofs.Ascii.{ascii_is, not_ascii}
use Rattle.dexstr.proofs.ByBytes.{by_test}
use Rattle.dexstr.proofs.texts.Text.ascii.Goals as goal

pub returns-clause-units : goal.returns-clause-units
returns-clause-units c =
    by_test (λ r. IfSome r (λ bytes. bytes.now ≡ c.args.self.now)) _ _ c.then_some.result c.then_some.ensures
    (λ e. ascii_is c.self.inside.bytes.now c.args.self.now c.self.invariant.spelled c.self.view_is (sym c.len.ensures.len ∙ eqb-true _ _ e)) (λ _. tt)

pub returns-clause-other : goal.returns-clause-other
returns-clause-other c =
    by_test (λ r. IfNone r (¬ All IsAscii c.args.self.now)) _ _ c.then_some.result c.then_some.ensures (λ _. tt)
    (λ e. not_ascii c.self.inside.bytes.now c.args.self.now c.self.invariant.spelled c.self.view_is (λ same. false≢true (sym e ∙ eq-eqb _ _ (c.len.ensures.len ∙ same))))
