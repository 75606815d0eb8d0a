use Rattle.dexmembers.proofs.Common.{◌≡◌, Option, Some, None, IfSome, sym, subst, arith, NumberedItem}
use Rattle.dexval.proofs.Fitted.{all_more, all_end}
use Rattle.dexcode.specs.Renumbering as code
use Rattle.dexmembers.specs.{MethodFits, NumberedMethod}
use Rattle.dexmembers.proofs.short_strings.methods_fit_now.Goals as goal
use Rattle.dexmembers.proofs.short_strings.methods_fit_now.Goals.{in-Some, in_default}

fits_by : (x : NumberedMethod) (c : Option NumberedItem) → x.code ≡ c → IfSome c code.NumbersFit → MethodFits x
fits_by x c is fits = subst (λ (o : Option NumberedItem). IfSome o code.NumbersFit) (sym is) fits

pub loop-i-preserved : goal.loop-i-preserved
loop-i-preserved c = all_more MethodFits c.args.methods.now c.loop-i.i c.get.result (omega arith) c.get.ensures c.loop-i.invariant (elim c.match-code.branch [
  | in-Some w ↦ fits_by c.get.result (Some w.in-Some.code) w.in-Some.ensures w.numbers_fit.ensures
  | in_default w ↦ fits_by c.get.result None w.in_default.ensures tt
])

pub returns : goal.returns
returns c = all_end MethodFits c.args.methods.now c.loop-i.i (omega arith) c.loop-i.invariant
