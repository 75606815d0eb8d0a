use Rattle.dexdebug.proofs.Common.{◌≡◌, ℕ, ◌<◌, Bool, true, false, Option, Some, None, refl, sym, subst, ap, ◌∙◌, IfSome}
use Rattle.std.specs.Bool.{then_some}
use Rattle.std.specs.Result.{result_ok}
use Rattle.dexdebug.proofs.DebugRead.{some_parts}
use Rattle.dexdebug.proofs.debug_reading.DebugReader.index_at.Goals as goal

-- what is read, if it passes a test
by_test : {X : Type 0} (P : Option X → Type 0) (x : X) (b : Bool) (r : Option X) → r ≡ then_some b x → (b ≡ true → P (Some x)) → (b ≡ false → P None) → P r
by_test P x true r is right wrong = subst P (sym is) (right refl)
by_test P x false r is right wrong = subst P (sym is) (wrong refl)

none_is_some : {X : Type 0} (x : X) → None ≡ Some x → ⊥
none_is_some x e = absurd cc

pub returns-in_err-number-clause-only : goal.returns-in_err-number-clause-only
returns-in_err-number-clause-only c = λ i n h. absurd (none_is_some (i, n) (sym c.in_err-number.was ∙ c.ok.ensures.value ∙ ap result_ok (c.read_p1.ensures.only i n h.0)))

pub returns-clause-only : goal.returns-clause-only
returns-clause-only c = λ i n h.
    let x : Option ℕ × ℕ = (c.in_ok-number.number, c.in_ok-number.len) in
    let read : Some x ≡ Some (i, n) = sym c.in_ok-number.was ∙ c.ok.ensures.value ∙ ap result_ok (c.read_p1.ensures.only i n h.0) in
    by_test (λ r. r ≡ Some (i, n)) x c.is_below.result c.then_some.result c.then_some.ensures (λ right. read)
    (λ wrong. let below = c.is_below.ensures.1 (subst (λ j. IfSome j (λ k. k < c.args.count)) (sym ((some_parts x (i, n) read).0)) h.1) in absurd cc)
