use Rattle.dexclass.proofs.Common.{refl}
use Rattle.dexclass.proofs.Indices.{interface_is}
use Rattle.dexclass.proofs.class_checks.KnownFile.is_class_before.Goals as goal

pub returns-then-is_class : goal.returns-then-is_class
returns-then-is_class c = λ r marks. interface_is c.args.self.now.frame.now r c.args.index c.is_before.result (c.if-is_class.ensures.0 refl) (c.is_before.ensures r marks)
