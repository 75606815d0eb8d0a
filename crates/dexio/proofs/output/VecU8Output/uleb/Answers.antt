use Rattle.dexio.proofs.Common.{arith, sym, subst, HasRoomFor, Pushes, one_byte}
use Rattle.dexio.proofs.output.VecU8Output.uleb.Goals as goal

pub returns-then-value-lt128 : goal.returns-then-value-lt128
returns-then-value-lt128 c = subst (λ bytes. HasRoomFor bytes c.args.self.now → Pushes bytes c.args.self.now c.byte.new.self) (sym (one_byte c.args.value (omega arith))) c.byte.ensures
