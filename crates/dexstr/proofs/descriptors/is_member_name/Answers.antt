use Rattle.dexstr.proofs.ClassNames.{member_name}
use Rattle.dexstr.proofs.descriptors.is_member_name.Goals as goal

pub returns : goal.returns
returns c =
    let same = member_name c.bytes.result.now c.args.text.now c.bytes.ensures.spelled.spelled c.bytes.ensures.units in
    (λ reported. same.0 (c.is_name.ensures.0 reported), λ named. c.is_name.ensures.1 (same.1 named))
