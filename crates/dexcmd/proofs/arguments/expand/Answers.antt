use Rattle.std.proofs.Common.{refl, subst, ◌∙◌}
use Rattle.dexargs.specs.Lists.{IsBadLine}
use Rattle.dexcmd.proofs.arguments.expand.Goals as goal

pub returns-in-Err-NotUtf8-clause-fault : goal.returns-in-Err-NotUtf8-clause-fault
returns-in-Err-NotUtf8-clause-fault g c =
    record {
      is_list = rw c.in-Some.is refl;
      input = c.input-input.result;
      named = c.input-input.ensures.named;
      holds = λ reports. subst (λ b. IsBadLine c.args.ending b c.in-Err-NotUtf8.line) (c.as_slice.ensures.value ∙ c.in-Ok.ensures.bytes reports) (rw c.in-Err-NotUtf8.field-0-is at c.in-Err-NotUtf8.ensures.refused);
    }
