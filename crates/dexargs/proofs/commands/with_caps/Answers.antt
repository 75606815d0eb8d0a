use Rattle.std.proofs.Common.{◌∙◌, ap, codes, subst}
use Rattle.std.proofs.lemmas.Result.{IfOk-weaker}
use Rattle.dexargs.specs.CommandLine.{IsArgument, number_rule}
use Rattle.dexargs.proofs.Made.{adds_first, adds_next}
use Rattle.dexargs.proofs.commands.with_caps.Goals as goal

pub returns : goal.returns
returns c =
    let types = subst (λ n. IsArgument (number_rule (codes "max-types") 0 n) c.number.result) (c.types.ensures ∙ ap (λ caps. caps.types) c.greatest-caps.ensures) c.number.ensures in
    let protos = subst (λ n. IsArgument (number_rule (codes "max-protos") 0 n) c.number-2.result) (c.protos.ensures ∙ ap (λ caps. caps.protos) c.greatest-caps.ensures) c.number-2.ensures in
    let fields = subst (λ n. IsArgument (number_rule (codes "max-fields") 0 n) c.number-3.result) (c.fields.ensures ∙ ap (λ caps. caps.fields) c.greatest-caps.ensures) c.number-3.ensures in
    let methods = subst (λ n. IsArgument (number_rule (codes "max-methods") 0 n) c.number-4.result) (c.methods.ensures ∙ ap (λ caps. caps.methods) c.greatest-caps.ensures) c.number-4.ensures in
    let weight = subst (λ n. IsArgument (number_rule (codes "max-weight") 0 n) c.number-5.result) (c.weight.ensures ∙ ap (λ caps. caps.weight) c.greatest-caps.ensures) c.number-5.ensures in
    let before = adds_next _ _ _ _ _ _ (adds_next _ _ _ _ _ _ (adds_next _ _ _ _ _ _ (adds_first _ _ _ _ types c.in_ok-arg.ensures) protos c.in_ok-arg-2.ensures) fields c.in_ok-arg-3.ensures) methods c.in_ok-arg-4.ensures in
    IfOk-weaker c.arg-5.result _ _ (λ command adds. adds_next _ _ _ _ _ _ before weight adds) c.arg-5.ensures
