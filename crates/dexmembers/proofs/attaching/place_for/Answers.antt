use Rattle.dexmembers.proofs.Common.{rules, ℕ, Result, MatchOption, refl, sym, ◌∙◌, subst, answers_always}
use Rattle.std.proofs.lemmas.Result.{IfOk-weaker}
use Rattle.std.specs.Result.{result_ok}
use Rattle.dexmembers.specs.internal.Attaching.{HasNumberAt, LacksNumber}
use Rattle.dexmembers.proofs.Searched.{entry_searched, find_found, find_missing}
use Rattle.dexmembers.proofs.attaching.place_for.Goals as goal

pub returns-in-Ok-clause-found : goal.returns-in-Ok-clause-found
returns-in-Ok-clause-found c = λ rise.
    let facts = c.binary_search_by_key.ensures in
    let es = c.args.entries.now in
    let n = c.args.number in
    let r = c.binary_search_by_key.result in
    let searched = entry_searched es n r (result_ok r) refl facts.bound (facts.position (λ e. e.0) (answers_always _ _ _ (λ f a s g called. search rules))) in
    let has : HasNumberAt es n c.in-Ok.at = subst (λ (s : Result ℕ ℕ). MatchOption (result_ok s) (LacksNumber es n) (HasNumberAt es n)) c.in-Ok.is searched in
    IfOk-weaker c.of.result _ _ (λ place e. e ∙ sym (find_found es n c.in-Ok.at (0, 0) rise has.within (has.is (0, 0)))) c.of.ensures.place

pub returns-in-Err-clause-found : goal.returns-in-Err-clause-found
returns-in-Err-clause-found c = λ rise.
    let facts = c.binary_search_by_key.ensures in
    let es = c.args.entries.now in
    let n = c.args.number in
    let r = c.binary_search_by_key.result in
    let searched = entry_searched es n r (result_ok r) refl facts.bound (facts.position (λ e. e.0) (answers_always _ _ _ (λ f a s g called. search rules))) in
    let lacks : LacksNumber es n = subst (λ (s : Result ℕ ℕ). MatchOption (result_ok s) (LacksNumber es n) (HasNumberAt es n)) c.in-Err.is searched in
    IfOk-weaker c.of-in-Err.result _ _ (λ place e. e ∙ sym (find_missing es n (lacks rise))) c.of-in-Err.ensures.place
