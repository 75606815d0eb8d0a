use Rattle.dexmembers.proofs.Common.{ℕ, List, subst, arith, Puts}
use Rattle.dexmembers.proofs.ClassDataSpelled.{class_data_size}
use Rattle.dexmembers.proofs.members.Members.put_class_data.Goals as goal

pub append-requires-clause-most : goal.append-requires-clause-most
append-requires-clause-most c = omega (arith, c.field_count.ensures, c.method_count.ensures, class_data_size c.args.self.now c.args.code_offs.now)

pub returns-clause-symbolic : goal.returns-clause-symbolic
returns-clause-symbolic c = λ m name body rising known class same.
    subst (λ (item : List ℕ). Puts item c.args.out.now c.append.new.out c.append.result) (c.members_bytes_law.ensures.class_data m name body c.args.self.now c.args.code_offs.now rising known class same) c.append.ensures

pub returns-clause-room : goal.returns-clause-room
returns-clause-room c = λ le. c.append.ensures.room (omega (arith, le, class_data_size c.args.self.now c.args.code_offs.now))
