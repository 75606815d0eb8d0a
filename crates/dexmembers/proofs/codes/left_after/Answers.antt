use Rattle.dexmembers.proofs.Common.{rules, ◌≡◌, ℕ, ◌+◌, ◌<◌, ◌∙◌, [], Option, Some, None, option_to_list, arith, ap, sym, subst, sum_by, sum_by-cons, refl}
use Rattle.std.specs.Prelude.{MatchOption, IfSome}
use Rattle.std.specs.Option.{option_map}
use Rattle.dexspec.specs.Lists.{BothOrNone}
use Rattle.dexspec.specs.Mentions.{Mentions}
use Rattle.dexspec.specs.Code.{Code}
use Rattle.dexspec.specs.Debug.{Debug}
use Rattle.dexspec.specs.Weight.{code_weight, debug_weight}
use Rattle.dexdebug.specs.Debug.{NumberedDebug}
use Rattle.dexdebug.specs.Meaning.{DenotesDebug, IsKnownDebug, debug_in}
use Rattle.dexcode.specs.Numbered.{NumberedItem}
use Rattle.dexcode.specs.Meaning.{DenotesCode}
use Rattle.dexcode.specs.Checking.{one_code_weight}
use Rattle.dexmembers.specs.internal.MethodCodes.{IsTaken, kept_codes, optional_code_weight}
use Rattle.dexmembers.specs.internal.Stored.{codes_with, item_at}
use Rattle.dexmembers.proofs.codes.left_after.Goals as goal
use Rattle.dexmembers.proofs.codes.left_after.Goals.{In-Some}

-- the debug program of code is denoted with it
known_debug : (m : Mentions) (code : NumberedItem) (debug : NumberedDebug) {y : Code} → code.debug ≡ Some debug → DenotesCode m code y → DenotesDebug m debug (debug_in m debug)
known_debug m code debug is denotes = record { known = subst (λ (o : Option NumberedDebug). IfSome o (IsKnownDebug m)) is denotes.known.debug_known; means = refl }

-- two weights that are taken one after the other are taken together
taken_twice : (left w d rest whole : ℕ) (result : Option ℕ) → w + d ≡ whole → rest + w ≡ left → MatchOption result (rest < d) (λ less. less + d ≡ rest) → IsTaken left whole result
taken_twice left w d rest whole None is first second = omega (arith, is, first, second)
taken_twice left w d rest whole (Some less) is first second = omega (arith, is, first, second)

-- the weight of code with a debug program is taken in two steps
taken_with_debug : (m : Mentions) (left w d rest : ℕ) (result : Option ℕ) (code : NumberedItem) (debug : NumberedDebug) (x : Option Code) → code.debug ≡ Some debug
    → ((y : Code) → DenotesCode m code y → w ≡ code_weight y) → ((z : Debug) → DenotesDebug m debug z → d ≡ debug_weight z)
    → rest + w ≡ left → MatchOption result (rest < d) (λ less. less + d ≡ rest) → BothOrNone (DenotesCode m) (Some code) x → IsTaken left (optional_code_weight x) result
taken_with_debug m left w d rest result code debug (Some y) is weighs debug_weighs first second denotes =
    let here : Some (debug_in m debug) ≡ y.debug = ap (option_map (debug_in m)) (sym is) ∙ ap (λ (c : Code). c.debug) denotes.means in
    let one : code_weight y + debug_weight (debug_in m debug) ≡ one_code_weight y =
    omega (arith, ap (λ (o : Option Debug). sum_by debug_weight (option_to_list o)) here, sum_by-cons debug_weight (debug_in m debug) []) in
    let whole : w + d ≡ optional_code_weight (Some y) =
    omega (arith, weighs y denotes, debug_weighs (debug_in m debug) (known_debug m code debug is denotes), one, sum_by-cons one_code_weight y []) in
    taken_twice left w d rest (optional_code_weight (Some y)) result whole first second
taken_with_debug m left w d rest result code debug None is weighs debug_weighs first second denotes = elim denotes [ ]

-- so is that of code without one, in one step
taken_alone : (m : Mentions) (left w rest : ℕ) (here : Option NumberedItem) (code : NumberedItem) (x : Option Code) → here ≡ Some code → code.debug ≡ None → ((y : Code) → DenotesCode m code y → w ≡ code_weight y)
    → rest + w ≡ left → BothOrNone (DenotesCode m) here x → IsTaken left (optional_code_weight x) (Some rest)
taken_alone m left w rest here code None is none weighs less both = absurd (subst (λ o. BothOrNone (DenotesCode m) o None) is both)
taken_alone m left w rest here code (Some y) is none weighs less both =
    let denotes = subst (λ o. BothOrNone (DenotesCode m) o (Some y)) is both in
    let lacks : None ≡ y.debug = ap (option_map (debug_in m)) (sym none) ∙ ap (λ (c : Code). c.debug) denotes.means in
    omega (arith, less, weighs y denotes, ap (λ (o : Option Debug). sum_by debug_weight (option_to_list o)) lacks, sum_by-cons one_code_weight y [])

-- code that is heavier without its debug program is heavier with it
heavier : (m : Mentions) (left w : ℕ) (here : Option NumberedItem) (code : NumberedItem) (x : Option Code) → here ≡ Some code → ((y : Code) → DenotesCode m code y → w ≡ code_weight y) → left < w → BothOrNone (DenotesCode m) here x → left < optional_code_weight x
heavier m left w here code None is weighs less both = absurd (subst (λ o. BothOrNone (DenotesCode m) o None) is both)
heavier m left w here code (Some y) is weighs less both =
    omega (arith, less, weighs y (subst (λ o. BothOrNone (DenotesCode m) o (Some y)) is both), sum_by-cons one_code_weight y [])

-- the code at the place
code_here : (c : In-Some) → item_at (kept_codes c.args.kept.now) c.args.place ≡ Some c.in-Some.code
code_here c = sym (λ i. item_at (codes_with (c.deref-2.ensures.value i) (c.deref.ensures.value i)) c.args.place) ∙ c.in-Some.ensures

pub returns-in_err-rest-clause-symbolic : goal.returns-in_err-rest-clause-symbolic
returns-in_err-rest-clause-symbolic c = λ m x rising both.
    subst (IsTaken c.args.left (optional_code_weight x)) (sym c.from_residual.ensures)
    (heavier m c.args.left c.weight.result _ c.in-Some.code x (code_here (goal.at.returns-in_err-rest-clause-symbolic c).In-Some) (λ y. c.weight.ensures.symbolic m y rising) (omega (arith, c.in_err-rest.ensures)) both)

pub returns-in-None-clause-symbolic : goal.returns-in-None-clause-symbolic
returns-in-None-clause-symbolic c = λ m x rising both.
    let less : c.in_ok-rest.rest + c.weight.result ≡ c.args.left = search rules in
    taken_alone m c.args.left c.weight.result c.in_ok-rest.rest _ c.in-Some.code x (code_here (goal.at.returns-in-None-clause-symbolic c).In-Some) c.in-None.ensures (λ y. c.weight.ensures.symbolic m y rising) less both

pub returns-in-Some-debug-clause-symbolic : goal.returns-in-Some-debug-clause-symbolic
returns-in-Some-debug-clause-symbolic c = λ m x rising both.
    let first : c.in_ok-rest.rest + c.weight.result ≡ c.args.left = search rules in
    let second : MatchOption c.checked_sub-in-Some-debug.result (c.in_ok-rest.rest < c.weight-in-Some-debug.result) (λ less. less + c.weight-in-Some-debug.result ≡ c.in_ok-rest.rest) = search rules in
    taken_with_debug m c.args.left c.weight.result c.weight-in-Some-debug.result c.in_ok-rest.rest c.checked_sub-in-Some-debug.result c.in-Some.code c.in-Some-debug.debug.now x c.in-Some-debug.ensures
    (λ y. c.weight.ensures.symbolic m y rising) (λ z denotes. c.weight-in-Some-debug.ensures ∙ c.debug_unindexed_law.ensures.weight m c.in-Some-debug.debug.now z denotes) first second
    (subst (λ o. BothOrNone (DenotesCode m) o x) (code_here (goal.at.returns-in-Some-debug-clause-symbolic c).In-Some) both)
